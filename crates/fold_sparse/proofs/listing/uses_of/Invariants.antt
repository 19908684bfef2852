use Rattle.std.proofs.Common.{◌≡◌, ◌++◌, drop}
use Rattle.fold_sparse.specs.Looks.{uses_from}
use Rattle.fold_sparse.proofs.listing.uses_of.Given as goal

abbrev pub invariant-loop-l : goal.invariant-loop-l
invariant-loop-l l = l.pairs ++ uses_from l.blocks l.l (drop l.l l.looks) ≡ uses_from l.blocks 0 l.looks
