use Rattle.std.proofs.Common.{rules, ◌≡◌, ◌/◌, ◌*◌, ◌^◌, ◌<◌, ℕ, Bool, eqb, nat_le, sym, ap, ◌∙◌, subst, FitsSigned, w64, cond}
use Rattle.std.proofs.lemmas.Bool.{lt-leb}
use Rattle.int_ops.specs.declared.outcome.Outcome.{Outcome}
use Rattle.int_ops.specs.declared.outcome.Outcome.TheVariants.{Poison}
use Rattle.ir_types.specs.Scalars.{width, signed_value}
use Rattle.int_ops.proofs.Ranges.{modulo_of_word, wrapped_as}
use Rattle.int_ops.proofs.SignedTests.{comes_back_as}
use Rattle.int_ops.proofs.shifts.shl.Goals as goal

-- the width is past the shift
within : (w by : ℕ) (o : Outcome) → by < w → o ≡ cond (nat_le w by) Poison o
within w by o h = ap (λ (b : Bool). cond b Poison o) (sym (lt-leb w by h))

pub returns : goal.returns
returns c =
    let first : FitsSigned w64 c.signed.result = search rules in
    let second : FitsSigned w64 c.signed-2.result = search rules in
    let number = c.truncated-shifted.ensures.value ∙ modulo_of_word c.args.width (c.args.a * 2 ^ c.args.by) in
    c.unless_wrapped.ensures
    ∙ wrapped_as c.args.flags
    (ap (λ (n : ℕ). eqb (n / 2 ^ c.args.by) c.args.a) number)
    (comes_back_as c.signed.result c.signed-2.result _ _ c.args.by first second (c.signed.ensures.value ∙ ap (signed_value c.args.width) number) c.signed-2.ensures.value)
    number
    ∙ within (width c.args.width) c.args.by _ (subst (λ (w : ℕ). c.args.by < w) c.width.ensures c.if-by-width.false)
