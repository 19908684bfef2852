use Rattle.std.proofs.Common.{◌≡◌, ◌≤◌, reverse, length}
use Rattle.ir_grammar.specs.Mirrors.Walk.{may_end}
use Rattle.ir_grammar.proofs.stack.may_end.Given as goal

abbrev pub invariant-loop-left : goal.invariant-loop-left
invariant-loop-left l = record {
  same : may_end (reverse l.left) ≡ may_end (reverse l.stack);
  shorter : length l.left ≤ length l.stack;
}

abbrev pub decreases-loop-left : goal.decreases-loop-left
decreases-loop-left l = length l.left
