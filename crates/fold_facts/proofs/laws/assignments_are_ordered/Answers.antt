use Rattle.fold_facts.proofs.Raised.{at_most_refl, at_most_trans}
use Rattle.fold_facts.proofs.laws.assignments_are_ordered.Goals as goal

pub returns : goal.returns
returns c = record { reflexive = at_most_refl; transitive = at_most_trans }
