use Rattle.std.proofs.Common.{◌≡◌, ◌+◌, length, map, drop}
use Rattle.block_memory.specs.declared.value.Part.TheVariants as part
use Rattle.block_memory.specs.Mirrors.Writing.{set_from}
use Rattle.block_memory.proofs.starts.lay_text.Given as goal

abbrev pub invariant-loop-k : goal.invariant-loop-k
invariant-loop-k l = record {
  makes : set_from l.parts (l.at + l.k) (map part.Num (drop l.k l.bytes)) ≡ set_from l.fn.parts l.at (map part.Num l.bytes);
  long : length l.parts ≡ length l.fn.parts;
}
