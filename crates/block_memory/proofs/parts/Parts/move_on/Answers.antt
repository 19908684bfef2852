use Rattle.std.proofs.Common.{◌≡◌, ◌+◌, ◌-◌, List, take, drop, length, slice_set, ap, ◌∙◌, arith}
use Rattle.std.proofs.lemmas.List.{length-set}
use Rattle.ir_syntax.specs.declared.symbol.Sym.{Sym}
use Rattle.block_memory.specs.declared.value.Part.{Part}
use Rattle.block_memory.specs.Mirrors.Writing.{set_from}
use Rattle.block_memory.proofs.Writing.{moved_on}
use Rattle.block_memory.proofs.parts.Parts.move_on.Goals as goal

pub loop-left-preserved : goal.loop-left-preserved
loop-left-preserved c =
    let left = c.loop-left.left - 1 in
    let now : List (Part Sym) = c.loop-left.self in
    let more : left + 1 ≡ c.loop-left.left = omega arith in
    record {
      makes =
          ap (λ parts. set_from parts c.args.to (take left (drop c.args.from parts))) (c.set.ensures ∙ ap (slice_set now (c.args.to + left)) c.get-part.ensures)
          ∙ moved_on now (set_from c.args.self.now c.args.to (take c.args.count (drop c.args.from c.args.self.now))) c.args.from c.args.to left c.requires.on (omega arith)
          (ap (λ n. set_from now c.args.to (take n (drop c.args.from now))) more ∙ c.loop-left.invariant.makes);
      long = ap length c.set.ensures ∙ length-set now (c.args.to + left) c.get-part.result ∙ c.loop-left.invariant.long;
      most = omega arith;
    }
