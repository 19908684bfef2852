-- the types so far, and then what is chosen of those that are left
use Rattle.std.proofs.Common.{◌≡◌, ◌++◌, drop, map}
use Rattle.demands.specs.Names.{is_unknown}
use Rattle.interface.specs.Masks.{chosen}
use Rattle.reach_prune.proofs.kept.kept_types.Given as goal

abbrev pub invariant-loop-k : goal.invariant-loop-k
invariant-loop-k l = l.made ++ chosen (drop l.k (map is_unknown l.items)) (drop l.k l.types) ≡ chosen (map is_unknown l.items) l.types
