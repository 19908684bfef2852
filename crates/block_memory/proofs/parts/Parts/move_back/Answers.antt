use Rattle.std.proofs.Common.{◌+◌, ◌-◌, List, take, drop, get_or, length, slice_set, ap, ◌∙◌, arith}
use Rattle.std.proofs.lemmas.List.{length-set}
use Rattle.ir_syntax.specs.declared.symbol.Sym.{Sym}
use Rattle.block_memory.specs.declared.value.Part.{Part}
use Rattle.block_memory.specs.declared.value.Part.TheVariants as part
use Rattle.block_memory.specs.Mirrors.Writing.{set_from}
use Rattle.block_memory.proofs.Writing.{written_on, bytes_left_next, left_unmoved}
use Rattle.block_memory.proofs.parts.Parts.move_back.Goals as goal

pub loop-k-preserved : goal.loop-k-preserved
loop-k-preserved c =
    let k = c.loop-k.k in
    let now : List (Part Sym) = c.loop-k.self in
    let rest = c.args.count - (k + 1) in
    let next : Part Sym = get_or now (c.args.from + k) part.Poison in
    record {
      makes =
          ap (λ parts. set_from parts (c.args.to + (k + 1)) (take rest (drop (c.args.from + (k + 1)) parts))) (c.set.ensures ∙ ap (slice_set now (c.args.to + k)) c.get-part.ensures)
          ∙ ap (set_from (slice_set now (c.args.to + k) next) (c.args.to + (k + 1))) (left_unmoved now c.args.from c.args.to c.args.count k next c.requires.back)
          ∙ written_on now (set_from c.args.self.now c.args.to (take c.args.count (drop c.args.from c.args.self.now))) c.args.to k next _ _ (bytes_left_next now c.args.from c.args.count k (omega arith) (omega arith)) c.loop-k.invariant.makes;
      long = ap length c.set.ensures ∙ length-set now (c.args.to + k) c.get-part.result ∙ c.loop-k.invariant.long;
    }
