use Rattle.interface.proofs.Chosen.{chosen_at, chosen_count}
use Rattle.interface.proofs.laws.chosen_stand_at_their_ranks.Goals as goal

pub returns-clause-at : goal.returns-clause-at
returns-clause-at g c = chosen_at

pub returns-clause-count : goal.returns-clause-count
returns-clause-count g c = chosen_count
