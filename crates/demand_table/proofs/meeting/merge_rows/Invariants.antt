use Rattle.demand_table.specs.Merging.{AreTogether}
use Rattle.demand_table.proofs.meeting.merge_rows.Given as goal

abbrev pub invariant-loop-worker : goal.invariant-loop-worker
invariant-loop-worker l = AreTogether l.worker l.initial.rows l.others l.rows
