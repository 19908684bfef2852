use Rattle.std.proofs.Common.{◌∙◌, ◌-◌, ◌^◌, min, map, ap}
use Rattle.std.specs.Prelude.{sum}
use Rattle.winnowed_form.specs.Winnowed.{item_count}
use Rattle.reach_prune.proofs.Counting.{counted}
use Rattle.reach_prune.proofs.counts.module_count.Goals as goal

pub returns : goal.returns
returns c =
    counted item_count c.as_slice-item-items.result.now c.loop-item.item-index c.loop-item.count (min (sum (map item_count c.as_slice-item-items.result.now)) (2 ^ 64 - 1)) c.loop-item-test.false c.loop-item.invariant.1 c.loop-item.invariant.0
    ∙ ap (λ l. min (sum (map item_count l)) (2 ^ 64 - 1)) c.as_slice-item-items.ensures
