-- the phis so far, and then what is left of the others
use Rattle.std.proofs.Common.{◌≡◌, ◌+◌, ◌++◌, drop}
use Rattle.specialise.specs.Residual.{left_phis}
use Rattle.specialise.specs.Mirrors.Shown.{shown}
use Rattle.specialise.proofs.phis.left_phis.Given as goal

abbrev pub invariant-loop-k : goal.invariant-loop-k
invariant-loop-k l = l.made ++ left_phis (shown l.left) l.place (l.first + l.k) (drop l.k l.phis) ≡ left_phis (shown l.left) l.place l.first l.phis
