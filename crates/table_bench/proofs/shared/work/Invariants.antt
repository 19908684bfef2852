use Rattle.std.proofs.Common.{◌≡◌}
use Rattle.table_bench.proofs.shared.work.Given as goal

abbrev pub invariant-loop-word : goal.invariant-loop-word
invariant-loop-word l = l.pass.table ≡ l.fn.pass.table

abbrev pub invariant-loop-word-2 : goal.invariant-loop-word-2
invariant-loop-word-2 l = l.pass.table ≡ l.fn.pass.table
