use Rattle.std.proofs.Common.{◌≡◌, ◌+◌, ◌++◌, drop}
use Rattle.fold_sparse.specs.Looks.{phi_looks}
use Rattle.fold_sparse.proofs.listing.add_phis.Given as goal

abbrev pub invariant-loop-k : goal.invariant-loop-k
invariant-loop-k l = l.looks ++ phi_looks l.at l.k (l.first + l.k) (drop l.k l.phis) ≡ l.fn.looks ++ phi_looks l.at 0 l.first l.phis
