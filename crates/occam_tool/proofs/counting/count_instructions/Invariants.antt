use Rattle.std.proofs.Common.{◌≡◌, ◌+◌, drop, sum_by}
use Rattle.straight_form.specs.Counts.{item_count}
use Rattle.occam_tool.proofs.counting.count_instructions.Given as goal

abbrev pub invariant-loop-item : goal.invariant-loop-item
invariant-loop-item l = l.count + sum_by item_count (drop l.item-index l.items) ≡ sum_by item_count l.items
