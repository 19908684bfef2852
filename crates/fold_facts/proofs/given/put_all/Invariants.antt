use Rattle.fold_facts.proofs.Giving.{FactsTo}
use Rattle.fold_facts.proofs.given.put_all.Given as goal

abbrev pub invariant-loop-k : goal.invariant-loop-k
invariant-loop-k l = FactsTo l.blocks l.fn.a l.a l.facts l.k-index
