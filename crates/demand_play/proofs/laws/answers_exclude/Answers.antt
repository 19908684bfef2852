use Rattle.demand_play.proofs.Legality.{legal_is_not_illegal, one_first_illegal}
use Rattle.demand_play.proofs.laws.answers_exclude.Goals as goal

pub returns-clause-legal : goal.returns-clause-legal
returns-clause-legal c = legal_is_not_illegal

pub returns-clause-first : goal.returns-clause-first
returns-clause-first c = one_first_illegal
