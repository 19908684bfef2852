-- what was counted, with what is left
use Rattle.std.proofs.Common.{◌≡◌, ◌+◌, ◌≤◌, suc, drop}
use Rattle.straight_fold.specs.Calls.{left_count}
use Rattle.straight_fold.proofs.calls.size_of.Given as goal

abbrev pub invariant-loop-k : goal.invariant-loop-k
invariant-loop-k l = (l.size + left_count l.facts l.k (drop l.k l.insts) ≡ suc (left_count l.facts 0 l.insts)) × (l.size ≤ l.k + 1)
