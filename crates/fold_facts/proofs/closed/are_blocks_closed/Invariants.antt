use Rattle.fold_facts.proofs.Closing.{BlocksTo}
use Rattle.fold_facts.proofs.closed.are_blocks_closed.Given as goal

abbrev pub invariant-loop-place : goal.invariant-loop-place
invariant-loop-place l = BlocksTo (record { known = l.known }) l.blocks l.a l.place l.first
