use Rattle.straight_fold.proofs.PlanLaws.{not-many, not-much, not-both}
use Rattle.straight_fold.proofs.laws.limits_are_apart.Goals as goal

pub returns-clause-not_many : goal.returns-clause-not_many
returns-clause-not_many c = not-many c.part_is_no_larger.ensures.length

pub returns-clause-not_much : goal.returns-clause-not_much
returns-clause-not_much c = not-much c.part_is_no_larger-2.ensures.sizes

pub returns-clause-not_both : goal.returns-clause-not_both
returns-clause-not_both c = not-both c.part_is_no_larger.ensures.length
