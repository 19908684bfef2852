use Rattle.fold_facts.proofs.Visits.{PhisRaised}
use Rattle.fold_facts.proofs.raising.raise_phis.Given as goal

abbrev pub invariant-loop-k : goal.invariant-loop-k
invariant-loop-k l = PhisRaised (record { known = l.known }) l.blocks l.fn.a l.a l.place l.first l.k l.block l.changed
