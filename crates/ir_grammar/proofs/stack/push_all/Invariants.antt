use Rattle.std.proofs.Common.{◌≡◌, ◌≤◌, ◌++◌, reverse, length}
use Rattle.ir_grammar.proofs.stack.push_all.Given as goal

abbrev pub invariant-loop-left : goal.invariant-loop-left
invariant-loop-left l = record {
  pushed : l.left ++ reverse l.stack ≡ l.items ++ reverse l.fn.stack;
  shorter : length l.left ≤ length l.items;
}

abbrev pub decreases-loop-left : goal.decreases-loop-left
decreases-loop-left l = length l.left
