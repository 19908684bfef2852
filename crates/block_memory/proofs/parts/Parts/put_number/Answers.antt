use Rattle.std.proofs.Common.{◌+◌, ◌-◌, ◌/◌, ◌%◌, map, length, ap, ◌∙◌, arith}
use Rattle.std.proofs.lemmas.List.{length-set}
use Rattle.ir_syntax.specs.InitialBytes.{little_endian}
use Rattle.block_memory.specs.Mirrors.Writing.{set_from}
use Rattle.block_memory.proofs.Writing.{num, written_on, number_next}
use Rattle.block_memory.proofs.parts.Parts.put_number.Goals as goal

pub loop-k-preserved : goal.loop-k-preserved
loop-k-preserved c = record {
  makes =
      ap (λ parts. set_from parts (c.args.at + (c.loop-k.k + 1)) (map num (little_endian (c.args.count - (c.loop-k.k + 1)) (c.loop-k.rest / 256)))) c.set.ensures
      ∙ written_on c.loop-k.self (set_from c.args.self.now c.args.at (map num (little_endian c.args.count c.args.number))) c.args.at c.loop-k.k (num (c.loop-k.rest % 256)) _ _ (number_next c.args.count c.loop-k.k c.loop-k.rest (omega arith)) c.loop-k.invariant.makes;
  long = ap length c.set.ensures ∙ length-set c.loop-k.self (c.args.at + c.loop-k.k) (num (c.loop-k.rest % 256)) ∙ c.loop-k.invariant.long;
}
