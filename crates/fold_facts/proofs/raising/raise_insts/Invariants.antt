use Rattle.fold_facts.proofs.Visits.{InstsRaised}
use Rattle.fold_facts.proofs.raising.raise_insts.Given as goal

abbrev pub invariant-loop-inst : goal.invariant-loop-inst
invariant-loop-inst l = InstsRaised (record { known = l.known }) l.blocks l.fn.a l.a l.first l.inst-index l.number l.block l.changed
