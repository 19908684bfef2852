use Rattle.fold_facts.proofs.Closing.{PhisTo}
use Rattle.fold_facts.proofs.closed.are_phis_closed.Given as goal

abbrev pub invariant-loop-k : goal.invariant-loop-k
invariant-loop-k l = PhisTo (record { known = l.known }) l.a l.place l.first l.block l.k
