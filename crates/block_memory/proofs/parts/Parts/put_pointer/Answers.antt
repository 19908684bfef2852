use Rattle.std.proofs.Common.{◌+◌, map, drop, length, ap, ◌∙◌, slice_set, arith}
use Rattle.std.proofs.lemmas.List.{length-set}
use Rattle.ir_syntax.specs.InitialBytes.{address_bytes}
use Rattle.block_memory.specs.Mirrors.Writing.{set_from}
use Rattle.block_memory.proofs.Writing.{byte_of, written_on, address_next}
use Rattle.block_memory.proofs.parts.Parts.put_pointer.Goals as goal

pub loop-k-preserved : goal.loop-k-preserved
loop-k-preserved c = record {
  makes =
      ap (λ parts. set_from parts (c.args.at + (c.loop-k.k + 1)) (map (byte_of c.args.of.now c.args.offset.now) (drop (c.loop-k.k + 1) address_bytes))) (c.set.ensures ∙ ap (slice_set c.loop-k.self (c.args.at + c.loop-k.k)) c.byte_of.ensures)
      ∙ written_on c.loop-k.self (set_from c.args.self.now c.args.at (map (byte_of c.args.of.now c.args.offset.now) address_bytes)) c.args.at c.loop-k.k (byte_of c.args.of.now c.args.offset.now c.loop-k.k) _ _ (address_next c.args.of.now c.args.offset.now c.loop-k.k (omega arith)) c.loop-k.invariant.makes;
  long = ap length c.set.ensures ∙ length-set c.loop-k.self (c.args.at + c.loop-k.k) c.byte_of.result ∙ c.loop-k.invariant.long;
}
