use Rattle.std.proofs.Common.{◌≡◌, ◌++◌, drop}
use Rattle.straight_plan.specs.Left.{at_unknown}
use Rattle.straight_leave.proofs.functions.unknown_params.Given as goal

abbrev pub invariant-loop-k : goal.invariant-loop-k
invariant-loop-k l = l.left ++ at_unknown (drop l.k l.pattern) (drop l.k l.params) ≡ at_unknown l.pattern l.params
