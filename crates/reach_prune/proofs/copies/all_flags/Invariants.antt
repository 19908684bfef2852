-- the flags so far, and then those of the parameters that are left
use Rattle.std.proofs.Common.{◌≡◌, ◌++◌, true, map, drop}
use Rattle.reach_prune.proofs.copies.all_flags.Given as goal

abbrev pub invariant-loop-param : goal.invariant-loop-param
invariant-loop-param l = l.flags ++ map (λ param. true) (drop l._param-index l._param-items) ≡ map (λ param. true) l._param-items
