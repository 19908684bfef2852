use Rattle.std.proofs.Common.{◌≡◌, ◌++◌, drop}
use Rattle.fold_sparse.specs.Looks.{sources_from}
use Rattle.fold_sparse.proofs.listing.sources_of.Given as goal

abbrev pub invariant-loop-l : goal.invariant-loop-l
invariant-loop-l l = l.pairs ++ sources_from l.l (drop l.l l.looks) ≡ sources_from 0 l.looks
