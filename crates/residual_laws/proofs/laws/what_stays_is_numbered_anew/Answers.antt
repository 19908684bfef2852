use Rattle.residual_laws.proofs.Renumbered as law
use Rattle.residual_laws.proofs.laws.what_stays_is_numbered_anew.Goals as goal

pub returns-clause-results : goal.returns-clause-results
returns-clause-results c = law.results_left

pub returns-clause-blocks : goal.returns-clause-blocks
returns-clause-blocks c = law.blocks_left

pub returns-clause-first : goal.returns-clause-first
returns-clause-first c = law.first_left
