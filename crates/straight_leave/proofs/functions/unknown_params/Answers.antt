use Rattle.std.proofs.Common.{◌∙◌, ◌+◌, ◌++◌, Some, ap, sym, drop}
use Rattle.ir_types.specs.declared.scalar.Known.TheVariants.{Unknown, Num, Null}
use Rattle.ir_syntax.specs.Straight.{word_param}
use Rattle.straight_plan.specs.Left.{at_unknown}
use Rattle.straight_leave.proofs.Kept.{kept_end, kept_more, kept_past}
use Rattle.straight_leave.proofs.functions.unknown_params.Goals as goal
use Rattle.straight_leave.proofs.functions.unknown_params.Goals.{in-Some-Unknown+in_ok-push-in-Some-Unknown, in-Some-Num, in-Some-Null, in-None}

pub loop-k-preserved : goal.loop-k-preserved
loop-k-preserved c =
    let ps = c.args.pattern.now in
    let xs = c.args.params.now in
    let k = c.loop-k.k in
    let rest = at_unknown (drop (k + 1) ps) (drop (k + 1) xs) in
    elim c.match-copied.branch [
      | in-Some-Unknown+in_ok-push-in-Some-Unknown w ↦
          ap (λ ys. ys ++ rest) (w.left-is ∙ w.in_ok-push-in-Some-Unknown.ensures.ok)
          ∙ kept_more ps xs k _ Unknown c.loop-k.left _ c.loop-k-test.true (ap (λ p. Some p) (sym w.in-Some-Unknown.field-0-is) ∙ sym w.in-Some-Unknown.is ∙ c.copied.ensures ∙ c.at.ensures) c.loop-k.invariant
      | in-Some-Num w ↦
          ap (λ ys. ys ++ rest) w.left-is
          ∙ kept_more ps xs k word_param (Num w.in-Some-Num.field-0-0) c.loop-k.left _ c.loop-k-test.true (ap (λ p. Some p) (sym w.in-Some-Num.field-0-is) ∙ sym w.in-Some-Num.is ∙ c.copied.ensures ∙ c.at.ensures) c.loop-k.invariant
      | in-Some-Null w ↦
          ap (λ ys. ys ++ rest) w.left-is
          ∙ kept_more ps xs k word_param Null c.loop-k.left _ c.loop-k-test.true (ap (λ p. Some p) (sym w.in-Some-Null.field-0-is) ∙ sym w.in-Some-Null.is ∙ c.copied.ensures ∙ c.at.ensures) c.loop-k.invariant
      | in-None w ↦ ap (λ ys. ys ++ rest) w.left-is ∙ kept_past ps xs k c.loop-k.left _ (sym w.in-None.is ∙ c.copied.ensures ∙ c.at.ensures) c.loop-k.invariant
    ]

pub returns : goal.returns
returns c = kept_end c.loop-k.left _ (drop c.loop-k.k c.args.pattern.now) c.args.params.now c.loop-k.k c.loop-k-test.false c.loop-k.invariant
