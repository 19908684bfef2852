use Rattle.std.proofs.Common.{◌≡◌, ◌+◌, length, map, drop}
use Rattle.ir_syntax.specs.InitialBytes.{address_bytes}
use Rattle.block_memory.specs.declared.value.Part.TheVariants as part
use Rattle.block_memory.specs.Mirrors.Writing.{set_from}
use Rattle.block_memory.proofs.parts.Parts.put_pointer.Given as goal

abbrev pub invariant-loop-k : goal.invariant-loop-k
invariant-loop-k l = record {
  makes : set_from l.self (l.at + l.k) (map (part.Of l.of l.offset) (drop l.k address_bytes)) ≡ set_from l.fn.self l.at (map (part.Of l.of l.offset) address_bytes);
  long : length l.self ≡ length l.fn.self;
}
