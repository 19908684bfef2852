use Rattle.std.proofs.Common.{sym, ◌∙◌, arith}
use Rattle.ir_operands.proofs.Runs.{going_more, going_end, going_bad}
use Rattle.ir_insts.proofs.insts.indices.Goals as goal

pub reading-preserved : goal.reading-preserved
reading-preserved c =
    let enough = rw c.in-Some.is at c.in_ok-index.ensures.within in
    record {
      within = omega (arith, enough, c.after-rest.ensures.left);
      going = rw c.in_ok-push-in-Some.ensures.ok
          (going_more _ _ _ _ _ _ _ _ c.reading.invariant.going c.after-rest.ensures.rest (sym c.if-not-begins_integer.false ∙ c.begins_integer.ensures) (sym c.in-Some.is ∙ c.in_ok-index.ensures.exact) (omega (arith, enough)));
    }
