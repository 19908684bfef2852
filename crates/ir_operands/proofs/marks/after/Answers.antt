use Rattle.std.proofs.Common.{◌∙◌, ap}
use Rattle.std.proofs.lemmas.List.{take_rest}
use Rattle.ir_grammar.specs.Tokens.{seen}
use Rattle.ir_scope.proofs.Runs.{seen-drop}
use Rattle.ir_operands.proofs.marks.after.Goals as goal

pub returns-clause-rest : goal.returns-clause-rest
returns-clause-rest c = ap seen (take_rest c.args.kept.now c.args.count) ∙ seen-drop c.args.count c.args.kept.now
