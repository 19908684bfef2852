use Rattle.std.proofs.Common.{◌≡◌, ◌∙◌, ◌+◌, ◌%◌, ◌^◌, Some, option_map, inl, inr, sym, ap, arith}
use Rattle.ir_constants.specs.Offsets.{total}
use Rattle.ir_constants.proofs.Totals.{total-ended}
use Rattle.ir_constants.proofs.offsets.total.Goals as goal

pub returns : goal.returns
returns c =
    let ended : total c.loop-index.index-iterator.a.rest.now c.loop-index.index-iterator.b.rest.now ≡ Some 0 =
    total-ended _ _ (elim c.in-None.ensures.steps [ inl h ↦ inl h.1.0 | inr h ↦ inr h.1.0 ]) in
    let small : (c.loop-index.sum + 0) % 2 ^ 64 ≡ c.loop-index.sum = omega arith in
    sym c.loop-index.invariant ∙ ap (option_map (λ n. (c.loop-index.sum + n) % 2 ^ 64)) ended ∙ ap Some small
