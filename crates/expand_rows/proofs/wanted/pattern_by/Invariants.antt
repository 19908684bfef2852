-- at most as many items were read as there is room for
use Rattle.std.proofs.Common.{◌≡◌, ◌≤◌, length}
use Rattle.expand_rows.proofs.wanted.pattern_by.Given as goal

abbrev pub invariant-loop-word : goal.invariant-loop-word
invariant-loop-word l = (l.count ≤ 32) × (length l.items ≡ 32)
