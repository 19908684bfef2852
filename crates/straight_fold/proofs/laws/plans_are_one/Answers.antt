use Rattle.straight_fold.proofs.PlanLaws.{plans-same}
use Rattle.straight_fold.proofs.laws.plans_are_one.Goals as goal

pub returns : goal.returns
returns c = plans-same
