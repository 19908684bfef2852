use Rattle.std.proofs.Common.{◌∙◌, sym}
use Rattle.ir_locals.specs.Adding.{waiting_name}
use Rattle.ir_locals.proofs.Steps.{stops_at_result}
use Rattle.ir_locals.proofs.table.Locals.add_registers.Goals as goal

pub returns-then-not-branch : goal.returns-then-not-branch
returns-then-not-branch c =
    let failed = rw c.if-not-branch.true at c.in_ok-add_register.ensures in
    stops_at_result c.args.kept.now c.loop-lexeme.lexeme-index _ c.loop-lexeme.number c.loop-lexeme.self _ c.loop-lexeme-test.true (waiting_name c.loop-lexeme.text) (sym c.has_result.ensures ∙ c.if-has_result.true) failed c.loop-lexeme.invariant.made
