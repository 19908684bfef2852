use Rattle.std.proofs.Common.{◌≡◌, ◌+◌, ◌-◌, length, replicate}
use Rattle.block_memory.specs.Mirrors.Writing.{set_from}
use Rattle.block_memory.proofs.parts.Parts.fill.Given as goal

abbrev pub invariant-loop-k : goal.invariant-loop-k
invariant-loop-k l = record {
  makes : set_from l.self (l.at + l.k) (replicate (l.count - l.k) l.part) ≡ set_from l.fn.self l.at (replicate l.count l.part);
  long : length l.self ≡ length l.fn.self;
}
