use Rattle.std.proofs.Common.{◌≡◌, ◌+◌, drop, sum_by}
use Rattle.occam_tool.specs.Counts.{instruction_count}
use Rattle.occam_tool.proofs.tally.instructions_in.Given as goal

abbrev pub invariant-loop-item : goal.invariant-loop-item
invariant-loop-item l = l.count + sum_by instruction_count (drop l.item-index l.items) ≡ sum_by instruction_count l.items
