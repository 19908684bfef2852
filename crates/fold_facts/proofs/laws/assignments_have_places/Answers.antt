use Rattle.fold_facts.specs.Places.{blocks_of}
use Rattle.fold_facts.proofs.Visits.{facts_long, edges_long}
use Rattle.fold_facts.proofs.laws.assignments_have_places.Goals as goal

pub returns : goal.returns
returns c = record {
  facts = λ func a fits. facts_long (blocks_of func) a fits;
  edges = λ func a place block fits is. edges_long (blocks_of func) a place block fits is;
}
