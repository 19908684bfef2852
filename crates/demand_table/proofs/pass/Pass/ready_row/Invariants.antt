use Rattle.demand_table.proofs.Held.{ArePast}
use Rattle.demand_table.proofs.pass.Pass.ready_row.Given as goal

abbrev pub invariant-loop-worker : goal.invariant-loop-worker
invariant-loop-worker l = ArePast l.rows l.worker l.self-inside.open_rows
