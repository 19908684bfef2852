use Rattle.std.proofs.Common.{◌+◌, ◌-◌, take, drop, get_or, length, ap, ◌∙◌, slice_set, arith}
use Rattle.std.proofs.lemmas.List.{length-set}
use Rattle.block_memory.specs.declared.value.Part.TheVariants as part
use Rattle.block_memory.specs.Mirrors.Writing.{set_from}
use Rattle.block_memory.proofs.Writing.{written_on, bytes_left_next}
use Rattle.block_memory.proofs.parts.Parts.copy_from.Goals as goal

pub loop-k-preserved : goal.loop-k-preserved
loop-k-preserved c = record {
  makes =
      ap (λ parts. set_from parts (c.args.to + (c.loop-k.k + 1)) (take (c.args.count - (c.loop-k.k + 1)) (drop (c.args.from + (c.loop-k.k + 1)) c.args.other.now))) (c.set.ensures ∙ ap (λ x. slice_set c.loop-k.self (c.args.to + c.loop-k.k) x) c.get.ensures)
      ∙ written_on c.loop-k.self (set_from c.args.self.now c.args.to (take c.args.count (drop c.args.from c.args.other.now))) c.args.to c.loop-k.k (get_or c.args.other.now (c.args.from + c.loop-k.k) part.Poison) _ _ (bytes_left_next c.args.other.now c.args.from c.args.count c.loop-k.k (omega arith) (omega arith)) c.loop-k.invariant.makes;
  long = ap length c.set.ensures ∙ length-set c.loop-k.self (c.args.to + c.loop-k.k) c.get.result ∙ c.loop-k.invariant.long;
}
