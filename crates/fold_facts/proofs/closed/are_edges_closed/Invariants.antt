use Rattle.fold_facts.proofs.Closing.{EdgesTo}
use Rattle.fold_facts.proofs.closed.are_edges_closed.Given as goal

abbrev pub invariant-loop-k : goal.invariant-loop-k
invariant-loop-k l = EdgesTo l.a l.place l.block l.asked l.k
