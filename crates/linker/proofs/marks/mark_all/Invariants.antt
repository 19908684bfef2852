use Rattle.std.proofs.Common.{◌≡◌, drop}
use Rattle.linker.specs.Mirrors.Marks.{marked_all}
use Rattle.linker.proofs.marks.mark_all.Given as goal

abbrev pub invariant-loop-place : goal.invariant-loop-place
invariant-loop-place l = marked_all l.row (drop l.place-index l.places) ≡ marked_all l.initial.row l.places
