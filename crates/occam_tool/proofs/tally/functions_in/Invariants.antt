use Rattle.std.proofs.Common.{◌≡◌, ◌+◌, drop, sum_by}
use Rattle.occam_tool.specs.Counts.{function_count}
use Rattle.occam_tool.proofs.tally.functions_in.Given as goal

abbrev pub invariant-loop-item : goal.invariant-loop-item
invariant-loop-item l = l.count + sum_by function_count (drop l.item-index l.items) ≡ sum_by function_count l.items
