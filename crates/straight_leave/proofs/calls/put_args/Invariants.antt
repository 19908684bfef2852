use Rattle.std.proofs.Common.{◌≡◌, ◌++◌, drop, map}
use Rattle.straight_plan.specs.Residual.{put_arg}
use Rattle.straight_leave.proofs.calls.put_args.Given as goal

abbrev pub invariant-loop-arg : goal.invariant-loop-arg
invariant-loop-arg l =
    l.known ++ map (put_arg l.site.pattern.now l.site.facts.now) (drop l.arg-index l.args) ≡ map (put_arg l.site.pattern.now l.site.facts.now) l.args
