use Rattle.std.proofs.Common.{◌≡◌, reverse, length}
use Rattle.ir_grammar.specs.Mirrors.Walk.{settle}
use Rattle.ir_grammar.proofs.stack.settle.Given as goal

abbrev pub invariant-loop-item : goal.invariant-loop-item
invariant-loop-item l = settle l.shape (reverse l.fn.stack) ≡ settle l.shape (reverse l.stack)

abbrev pub decreases-loop-item : goal.decreases-loop-item
decreases-loop-item l = length l.stack
