use Rattle.fixed_point.proofs.NeededRows.{least_is_unique, least_is_needed, listed_is_least}
use Rattle.fixed_point.proofs.laws.least_set_is_one.Goals as goal

pub returns-clause-unique : goal.returns-clause-unique
returns-clause-unique c = least_is_unique

pub returns-clause-needed : goal.returns-clause-needed
returns-clause-needed c = least_is_needed

pub returns-clause-listed : goal.returns-clause-listed
returns-clause-listed c = listed_is_least
