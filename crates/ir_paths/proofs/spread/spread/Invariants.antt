use Rattle.ir_paths.proofs.Arriving.{left}
use Rattle.ir_paths.proofs.Searching.{Goes}
use Rattle.ir_paths.proofs.spread.spread.Given as goal

abbrev pub invariant-loop-place : goal.invariant-loop-place
invariant-loop-place l = Goes l.blocks l.own (l.words, l.flags, l.next.items)

abbrev pub decreases-loop-place : goal.decreases-loop-place
decreases-loop-place l = left (l.words, l.flags, l.next.items)
