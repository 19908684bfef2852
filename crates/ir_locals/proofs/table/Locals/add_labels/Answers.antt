use Rattle.std.proofs.Common.{◌∙◌, sym}
use Rattle.ir_locals.proofs.Steps.{stops_at_label}
use Rattle.ir_locals.proofs.table.Locals.add_labels.Goals as goal

pub returns-then-not-branch : goal.returns-then-not-branch
returns-then-not-branch c =
    let failed = rw c.if-not-branch.true at c.in_ok-add_spelled.ensures in
    stops_at_label c.args.kept.now c.loop-lexeme.lexeme-index _ c.loop-lexeme.place c.loop-lexeme.self _ c.loop-lexeme-test.true (sym c.is_label.ensures ∙ c.if-is_label.true) failed c.loop-lexeme.invariant.made
