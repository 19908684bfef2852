use Rattle.demand_table.specs.Merging.{AreMerged}
use Rattle.demand_table.proofs.meeting.merge_slots.Given as goal

abbrev pub invariant-loop-i : goal.invariant-loop-i
invariant-loop-i l = AreMerged l.i l.initial.found.items l.others l.found.items
