use Rattle.fold_facts.proofs.Closing.{InstsTo}
use Rattle.fold_facts.proofs.closed.are_insts_closed.Given as goal

abbrev pub invariant-loop-inst : goal.invariant-loop-inst
invariant-loop-inst l = InstsTo (record { known = l.known }) l.a l.first l.block l.inst-index l.number
