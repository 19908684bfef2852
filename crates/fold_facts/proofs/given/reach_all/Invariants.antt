use Rattle.fold_facts.proofs.Giving.{EdgesTo}
use Rattle.fold_facts.proofs.given.reach_all.Given as goal

abbrev pub invariant-loop-from : goal.invariant-loop-from
invariant-loop-from l = EdgesTo l.blocks l.a l.edges l.from-index
