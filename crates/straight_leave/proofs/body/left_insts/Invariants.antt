use Rattle.std.proofs.Common.{◌≡◌, ◌++◌, drop, map}
use Rattle.straight_plan.specs.Residual.{residual, residual_from}
use Rattle.straight_leave.specs.Numbers.{numbered}
use Rattle.straight_leave.specs.Places.{place_in}
use Rattle.straight_leave.specs.Rewritten.{new_inst}
use Rattle.straight_leave.proofs.body.left_insts.Given as goal

abbrev pub invariant-loop-k : goal.invariant-loop-k
invariant-loop-k l =
    l.left ++ map (new_inst l.items (place_in l.rows.keys) (numbered l.site.whole l.site.pattern.now l.site.numbers.now)) (residual_from l.site.pattern.now l.site.facts.now l.k (drop l.k l.insts))
    ≡ map (new_inst l.items (place_in l.rows.keys) (numbered l.site.whole l.site.pattern.now l.site.numbers.now)) (residual l.site.pattern.now l.site.facts.now l.insts)
