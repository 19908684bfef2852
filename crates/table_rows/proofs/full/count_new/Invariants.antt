use Rattle.std.proofs.Common.{◌≡◌, ◌≤◌}
use Rattle.table_rows.proofs.full.count_new.Given as goal

abbrev pub invariant-loop-word : goal.invariant-loop-word
invariant-loop-word l = (l.pass.table ≡ l.fn.pass.table) × (l.new ≤ l.word)
