use Rattle.demands.proofs.SameDemand.{row-same}
use Rattle.demands.proofs.DemandReading.{one-demand}
use Rattle.demands.proofs.laws.rows_are_apart.Goals as goal

pub returns-clause-rows : goal.returns-clause-rows
returns-clause-rows c = row-same

pub returns-clause-demands : goal.returns-clause-demands
returns-clause-demands c = one-demand
