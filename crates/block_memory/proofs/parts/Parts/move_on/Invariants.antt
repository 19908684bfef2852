use Rattle.std.proofs.Common.{◌≡◌, ◌≤◌, length, take, drop}
use Rattle.block_memory.specs.Mirrors.Writing.{set_from}
use Rattle.block_memory.proofs.parts.Parts.move_on.Given as goal

abbrev pub invariant-loop-left : goal.invariant-loop-left
invariant-loop-left l = record {
  makes : set_from l.self l.to (take l.left (drop l.from l.self)) ≡ set_from l.fn.self l.to (take l.count (drop l.from l.fn.self));
  long : length l.self ≡ length l.fn.self;
  most : l.left ≤ l.count;
}

abbrev pub decreases-loop-left : goal.decreases-loop-left
decreases-loop-left l = l.left
