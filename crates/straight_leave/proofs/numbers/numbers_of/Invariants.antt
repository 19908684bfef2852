use Rattle.std.proofs.Common.{◌≡◌, ◌≤◌, ◌++◌, drop}
use Rattle.straight_leave.specs.Numbers.{numbers_from, numbers_of}
use Rattle.straight_leave.proofs.numbers.numbers_of.Given as goal

abbrev pub invariant-loop-k : goal.invariant-loop-k
invariant-loop-k l = record {
  few : l.before ≤ l.k;
  rest : l.numbers.items ++ numbers_from l.facts l.k l.before (drop l.k l.insts) ≡ numbers_of l.facts l.insts;
}
