use Rattle.straight_reader.proofs.Straight.{form_straight, form_plain, form_entered}
use Rattle.straight_reader.proofs.Found.{one_form}
use Rattle.straight_reader.proofs.laws.the_form_is_straight.Goals as goal

pub returns-clause-straight : goal.returns-clause-straight
returns-clause-straight c = form_straight

pub returns-clause-entered : goal.returns-clause-entered
returns-clause-entered c = form_entered

pub returns-clause-plain : goal.returns-clause-plain
returns-clause-plain c = form_plain

pub returns-clause-one : goal.returns-clause-one
returns-clause-one c = one_form c.tokens_are_one.ensures
