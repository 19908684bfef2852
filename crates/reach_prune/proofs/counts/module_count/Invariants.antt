-- the count so far with that of what is left, as far as it goes
use Rattle.std.proofs.Common.{◌≡◌, ◌+◌, ◌-◌, ◌^◌, ◌<◌, min, drop, map}
use Rattle.std.specs.Prelude.{sum}
use Rattle.winnowed_form.specs.Winnowed.{item_count}
use Rattle.reach_prune.proofs.counts.module_count.Given as goal

abbrev pub invariant-loop-item : goal.invariant-loop-item
invariant-loop-item l = (min (l.count + sum (map item_count (drop l.item-index l.item-items))) (2 ^ 64 - 1) ≡ min (sum (map item_count l.item-items)) (2 ^ 64 - 1)) × (l.count < 2 ^ 64)
