-- the flags so far, and then those of the items that are left
use Rattle.std.proofs.Common.{◌≡◌, ◌++◌, map, drop}
use Rattle.demands.specs.Names.{is_unknown}
use Rattle.reach_prune.proofs.copies.open_flags.Given as goal

abbrev pub invariant-loop-item : goal.invariant-loop-item
invariant-loop-item l = l.flags ++ map is_unknown (drop l.item-index l.items) ≡ map is_unknown l.items
