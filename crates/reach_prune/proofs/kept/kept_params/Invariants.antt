-- the parameters so far, and then what is chosen of those that are left
use Rattle.std.proofs.Common.{◌≡◌, ◌++◌, drop}
use Rattle.interface.specs.Masks.{chosen}
use Rattle.reach_prune.proofs.kept.kept_params.Given as goal

abbrev pub invariant-loop-k : goal.invariant-loop-k
invariant-loop-k l = l.made ++ chosen (drop l.k l.mask) (drop l.k l.params) ≡ chosen l.mask l.params
