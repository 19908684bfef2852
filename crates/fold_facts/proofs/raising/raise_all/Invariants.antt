use Rattle.fold_facts.proofs.Visits.{AllRaised}
use Rattle.fold_facts.proofs.raising.raise_all.Given as goal

abbrev pub invariant-loop-place : goal.invariant-loop-place
invariant-loop-place l = AllRaised (record { known = l.known }) l.blocks l.fn.a l.a l.place l.first l.changed
