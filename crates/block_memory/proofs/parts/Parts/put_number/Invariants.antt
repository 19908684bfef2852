use Rattle.std.proofs.Common.{◌≡◌, ◌+◌, ◌-◌, length, map}
use Rattle.ir_syntax.specs.InitialBytes.{little_endian}
use Rattle.block_memory.specs.declared.value.Part.TheVariants as part
use Rattle.block_memory.specs.Mirrors.Writing.{set_from}
use Rattle.block_memory.proofs.parts.Parts.put_number.Given as goal

abbrev pub invariant-loop-k : goal.invariant-loop-k
invariant-loop-k l = record {
  makes : set_from l.self (l.at + l.k) (map part.Num (little_endian (l.count - l.k) l.rest)) ≡ set_from l.fn.self l.at (map part.Num (little_endian l.count l.number));
  long : length l.self ≡ length l.fn.self;
}
