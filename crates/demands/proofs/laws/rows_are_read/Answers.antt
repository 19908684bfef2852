use Rattle.demands.proofs.DemandReading.{row-sound, row-complete}
use Rattle.demands.proofs.laws.rows_are_read.Goals as goal

pub returns-clause-found : goal.returns-clause-found
returns-clause-found c = row-sound

pub returns-clause-all : goal.returns-clause-all
returns-clause-all c = row-complete
