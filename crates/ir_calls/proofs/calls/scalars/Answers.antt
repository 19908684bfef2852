use Rattle.std.proofs.Common.{sym, ◌∙◌, arith}
use Rattle.ir_operands.proofs.Runs.{going_more, going_end, going_bad}
use Rattle.ir_calls.proofs.calls.scalars.Goals as goal

pub reading-preserved : goal.reading-preserved
reading-preserved c =
    let enough = c.in-Some.ensures.within in
    record {
      within = omega (arith, enough, c.after-rest.ensures.left);
      going = rw c.in_ok-push-in-Some.ensures.ok
          (going_more _ _ _ _ _ _ _ _ c.reading.invariant.going c.after-rest.ensures.rest (sym c.if-not-begins_scalar.false ∙ c.begins_scalar.ensures) c.in-Some.ensures.exact (omega (arith, enough)));
    }
