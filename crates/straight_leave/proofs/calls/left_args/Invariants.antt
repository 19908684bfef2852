use Rattle.std.proofs.Common.{◌≡◌, ◌++◌, drop, map}
use Rattle.straight_plan.specs.Left.{at_unknown}
use Rattle.straight_leave.specs.Numbers.{numbered}
use Rattle.straight_leave.specs.Rewritten.{new_arg}
use Rattle.straight_leave.proofs.calls.left_args.Given as goal

abbrev pub invariant-loop-k : goal.invariant-loop-k
invariant-loop-k l =
    l.left ++ map (new_arg (numbered l.site.whole l.site.pattern.now l.site.numbers.now)) (at_unknown (drop l.k l.pattern) (drop l.k l.args))
    ≡ map (new_arg (numbered l.site.whole l.site.pattern.now l.site.numbers.now)) (at_unknown l.pattern l.args)
