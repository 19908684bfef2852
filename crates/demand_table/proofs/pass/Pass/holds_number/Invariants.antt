use Rattle.demand_table.proofs.Held.{AreBare}
use Rattle.demand_table.proofs.pass.Pass.holds_number.Given as goal

abbrev pub invariant-loop-worker : goal.invariant-loop-worker
invariant-loop-worker l = AreBare l.worker l.self-inside.open_rows
