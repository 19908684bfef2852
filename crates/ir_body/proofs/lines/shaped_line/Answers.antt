use Rattle.ir_grammar.specs.Tokens.{seen}
use Rattle.ir_operands.specs.Mirrors.Naming.{naming}
use Rattle.ir_body.specs.Mirrors.Shaped.{plain_line_at, shaped_line_at}
use Rattle.ir_body.proofs.Lined.{same_lines, plain_is}
use Rattle.ir_body.proofs.lines.shaped_line.Goals as goal

pub returns-in_default-clause-exact : goal.returns-in_default-clause-exact
returns-in_default-clause-exact c =
    same_lines c.plain_line.result (plain_line_at (naming c.args.names.now) c.args.first (seen c.args.kept.now)) (shaped_line_at (naming c.args.names.now) c.args.first (seen c.args.kept.now))
    (plain_is (naming c.args.names.now) c.args.first (seen c.args.kept.now) c.in_default.not-Label c.in_default.not-Result) c.plain_line.ensures.exact
