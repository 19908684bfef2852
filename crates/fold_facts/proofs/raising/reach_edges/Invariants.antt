use Rattle.fold_facts.proofs.Visits.{EdgesRaised}
use Rattle.fold_facts.proofs.raising.reach_edges.Given as goal

abbrev pub invariant-loop-k : goal.invariant-loop-k
invariant-loop-k l = EdgesRaised (record { known = l.known }) l.blocks l.fn.a l.a l.place l.k l.block l.asked l.changed
