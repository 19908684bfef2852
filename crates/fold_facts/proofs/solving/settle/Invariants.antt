use Rattle.fold_facts.proofs.Settling.{Settles, rounds_left}
use Rattle.fold_facts.proofs.solving.settle.Given as goal

abbrev pub invariant-loop-changed : goal.invariant-loop-changed
invariant-loop-changed l = Settles (record { known = l.known }) l.blocks l.a l.changed

abbrev pub decreases-loop-changed : goal.decreases-loop-changed
decreases-loop-changed l = rounds_left l.a l.changed
