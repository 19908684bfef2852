use Rattle.std.proofs.Common.{◌≡◌, ◌+◌, ◌-◌, ◌<◌, []}
use Rattle.demand_table.specs.Passes.{fresh_passes}
use Rattle.demand_table.proofs.Fresh.{left_view}
use Rattle.demand_table.proofs.opening.new_table.Given as goal

abbrev pub invariant-loop-worker : goal.invariant-loop-worker
invariant-loop-worker l = (l.worker < l.workers) × (l.seat.table_id ≡ l.board.shared.table_id) × (l.seat.me ≡ (left_view l.worker (l.workers - l.worker) (65536 + l.workers), [])) × (l.passes.items ≡ fresh_passes l.board.shared.table_id l.workers 0 l.worker)
