use Rattle.std.proofs.Common.{◌≡◌, ◌+◌, ◌-◌, length, take, drop}
use Rattle.block_memory.specs.Mirrors.Writing.{set_from}
use Rattle.block_memory.proofs.parts.Parts.move_back.Given as goal

abbrev pub invariant-loop-k : goal.invariant-loop-k
invariant-loop-k l = record {
  makes : set_from l.self (l.to + l.k) (take (l.count - l.k) (drop (l.from + l.k) l.self)) ≡ set_from l.fn.self l.to (take l.count (drop l.from l.fn.self));
  long : length l.self ≡ length l.fn.self;
}
