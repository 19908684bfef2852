use Rattle.std.proofs.Common.{◌∙◌, ◌++◌, List, ℕ, ap}
use Rattle.ir_syntax.specs.Named.{item_names}
use Rattle.linker.specs.Mirrors.Marks.{marks_in}
use Rattle.linker.proofs.Steps.{marks_step}
use Rattle.linker.proofs.marks.marks_in.Goals as goal

pub loop-item-preserved : goal.loop-item-preserved
loop-item-preserved c =
    marks_step c.loop-item.row c.mark_all.new.row (marks_in c.args.items.now) c.args.items.now c.loop-item.item-index c.item-item.result c.as_slice.result.now c.loop-item-test.true c.item-item.is
    (c.as_slice.ensures ∙ c.in_ok-named.ensures ∙ ap (λ (xs : List ℕ). xs ++ item_names c.item-item.result) c.new.ensures) c.mark_all.ensures c.loop-item.invariant
