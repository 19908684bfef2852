use Rattle.std.proofs.Common.{◌≡◌, false, replicate}
use Rattle.linker.proofs.marks.no_marks.Given as goal

abbrev pub invariant-loop-item : goal.invariant-loop-item
invariant-loop-item l = l.row ≡ replicate l._item-index false
