use Rattle.std.proofs.Common.{sym, ◌∙◌}
use Rattle.ir_grammar.specs.Numbers.{number_of}
use Rattle.ir_operands.proofs.Powers.{no_exponent}
use Rattle.ir_operands.proofs.modifiers.exponent.Goals as goal

pub returns-in-None : goal.returns-in-None
returns-in-None c = sym (no_exponent (number_of c.args.digits.now) (sym c.number_of.ensures ∙ c.in-None.is))
