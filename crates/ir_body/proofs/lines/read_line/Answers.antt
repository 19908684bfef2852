use Rattle.std.proofs.Common.{length}
use Rattle.ir_grammar.specs.Tokens.{seen}
use Rattle.ir_operands.specs.Mirrors.Naming.{naming}
use Rattle.ir_body.specs.Lines.{line_at}
use Rattle.ir_body.specs.Mirrors.Shaped.{shaped_line_at}
use Rattle.ir_body.proofs.Lined.{same_lines, line_is, within_more}
use Rattle.ir_body.proofs.lines.read_line.Goals as goal

pub returns-in-Some-clause-exact : goal.returns-in-Some-clause-exact
returns-in-Some-clause-exact c =
    same_lines c.shaped_line.result (shaped_line_at (naming c.args.names.now) c.in-Some.first (seen c.after.result.now)) (line_at (naming c.args.names.now) (seen c.args.kept.now))
    (line_is (naming c.args.names.now) (seen c.args.kept.now) (seen c.after.result.now) c.in-Some.first c.in-Some.ensures.exact c.after.ensures.rest) c.shaped_line.ensures.exact

pub returns-in-Some-clause-within : goal.returns-in-Some-clause-within
returns-in-Some-clause-within c = within_more c.shaped_line.result (length c.after.result.now) (length c.args.kept.now) c.after.ensures.left c.shaped_line.ensures.within
