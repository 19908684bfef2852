use Rattle.std.proofs.Common.{◌≡◌, ◌∙◌, ◌*ℤ◌, ℤ, pos, Some, Option, ap, sym, w64, rules, FitsSigned}
use Rattle.std.specs.Int.{int_wrap}
use Rattle.std.proofs.lemmas.Int.{wrapping_mul_is}
use Rattle.ir_types.specs.Scalars.{signed_value}
use Rattle.ir_types.specs.declared.shape.Stride.TheVariants.{Each}
use Rattle.block_memory.specs.declared.value.Val.TheVariants as val
use Rattle.block_memory.specs.Answers.{Gives, and_then}
use Rattle.ir_steps.specs.Pointers as pointers
use Rattle.ir_meaning.specs.Mirrors.Walking as walking
use Rattle.ir_meaning.proofs.Wrapped.{wrapped_is}
use Rattle.ir_meaning.proofs.pointers.moves.Goals as goal

pub returns-in-Each : goal.returns-in-Each
returns-in-Each c =
    let a = c.signed.result in
    let b = c.from.result in
    let fits_a : FitsSigned w64 a = search rules in
    let fits_b : FitsSigned w64 b = search rules in
    ap (λ v. and_then (λ (z : Option ℤ). Gives (walking.wrapped_option z)) (pointers.moves c.args.ty v c.args.stride)) c.in-Num.is
    ∙ ap (λ s. and_then (λ (z : Option ℤ). Gives (walking.wrapped_option z)) (pointers.moves c.args.ty (val.Num c.in-Num.n) s)) c.in-Each.is
    ∙ ap (λ (z : ℤ). Gives (Some z)) (sym (wrapped_is (signed_value c.args.ty c.in-Num.n *ℤ pos c.in-Each.size)) ∙ ap (λ (z : ℤ). int_wrap w64 (z *ℤ pos c.in-Each.size)) (sym c.signed.ensures.value) ∙ ap (λ (z : ℤ). int_wrap w64 (a *ℤ z)) (sym c.from.ensures) ∙ sym (wrapping_mul_is w64 a b fits_a fits_b))
