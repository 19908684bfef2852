use Rattle.fold_facts.specs.Assigned.{fact_of}
use Rattle.fold_facts.proofs.Orders.{below_antisym}
use Rattle.fold_facts.proofs.laws.least_closed_is_one.Goals as goal

pub returns : goal.returns
returns c = record {
  facts = λ setting blocks a b k one other. below_antisym (fact_of a.facts k) (fact_of b.facts k) ((one.least b other.closed).facts k) ((other.least a one.closed).facts k);
  edges = λ setting blocks a b from k to one other. ((one.least b other.closed).edges from k to, (other.least a one.closed).edges from k to);
}
