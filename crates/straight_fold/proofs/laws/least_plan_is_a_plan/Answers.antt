use Rattle.straight_fold.proofs.PlanLaws.{is-plan}
use Rattle.straight_fold.proofs.laws.least_plan_is_a_plan.Goals as goal

pub returns : goal.returns
returns c = is-plan c.demands_are_ordered.ensures.equal
