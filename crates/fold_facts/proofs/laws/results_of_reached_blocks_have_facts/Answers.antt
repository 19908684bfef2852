use Rattle.fold_facts.proofs.Reached.{reached_known}
use Rattle.fold_facts.proofs.laws.results_of_reached_blocks_have_facts.Goals as goal

pub returns : goal.returns
returns c = reached_known
