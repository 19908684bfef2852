use Rattle.std.proofs.Common.{◌≡◌, ◌++◌, drop}
use Rattle.fold_sparse.specs.Looks.{homes_from}
use Rattle.fold_sparse.proofs.listing.homes_of.Given as goal

abbrev pub invariant-loop-l : goal.invariant-loop-l
invariant-loop-l l = l.pairs ++ homes_from l.l (drop l.l l.looks) ≡ homes_from 0 l.looks
