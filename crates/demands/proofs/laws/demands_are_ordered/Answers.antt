use Rattle.demands.specs.TotalOrder.{demand_total}
use Rattle.demands.proofs.SameDemand.{equal-is-same, in-row-order}
use Rattle.demands.proofs.laws.demands_are_ordered.Goals as goal

pub returns-clause-total : goal.returns-clause-total
returns-clause-total c = demand_total

pub returns-clause-equal : goal.returns-clause-equal
returns-clause-equal c = equal-is-same

pub returns-clause-rows : goal.returns-clause-rows
returns-clause-rows c = in-row-order
