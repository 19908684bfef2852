use Rattle.std.proofs.Common.{◌+◌, ◌-◌, replicate, length, ap, ◌∙◌, arith}
use Rattle.std.proofs.lemmas.List.{length-set}
use Rattle.block_memory.specs.Mirrors.Writing.{set_from}
use Rattle.block_memory.proofs.Writing.{written_on, copies_next}
use Rattle.block_memory.proofs.parts.Parts.fill.Goals as goal

pub loop-k-preserved : goal.loop-k-preserved
loop-k-preserved c = record {
  makes =
      ap (λ parts. set_from parts (c.args.at + (c.loop-k.k + 1)) (replicate (c.args.count - (c.loop-k.k + 1)) c.args.part.now)) c.set.ensures
      ∙ written_on c.loop-k.self (set_from c.args.self.now c.args.at (replicate c.args.count c.args.part.now)) c.args.at c.loop-k.k c.args.part.now _ _ (copies_next c.args.count c.loop-k.k c.args.part.now (omega arith)) c.loop-k.invariant.makes;
  long = ap length c.set.ensures ∙ length-set c.loop-k.self (c.args.at + c.loop-k.k) c.args.part.now ∙ c.loop-k.invariant.long;
}
