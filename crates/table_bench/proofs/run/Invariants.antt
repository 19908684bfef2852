use Rattle.std.proofs.Common.{◌<◌, ◌≤◌}
use Rattle.table_bench.proofs.run.Given as goal

abbrev pub invariant-loop-place : goal.invariant-loop-place
invariant-loop-place g l = (0 < l.workers) × (l.workers ≤ 64)
