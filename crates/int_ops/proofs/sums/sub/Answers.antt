use Rattle.std.proofs.Common.{rules, ℤ, ◌-ℤ◌, ◌∙◌, ap₂, FitsSigned, w64}
use Rattle.int_ops.proofs.Ranges.{signed_from, as_given, wrapped_as, difference_from, modulo_of_wrapped_difference}
use Rattle.int_ops.proofs.sums.sub.Goals as goal

pub returns : goal.returns
returns c =
    let first : FitsSigned w64 c.signed.result = search rules in
    let second : FitsSigned w64 c.signed-2.result = search rules in
    c.unless_wrapped.ensures ∙ wrapped_as c.args.flags
    (difference_from c.args.width c.checked_sub.result c.fits_unsigned-unsigned.result c.args.a c.args.b c.checked_sub.ensures c.fits_unsigned-unsigned.ensures.some c.fits_unsigned-unsigned.ensures.none)
    (signed_from c.args.width c.checked_sub-2.result c.fits_signed-signed.result _ _ (ap₂ (λ (x y : ℤ). x -ℤ y) (as_given _ _ first c.signed.ensures.value) (as_given _ _ second c.signed-2.ensures.value)) c.checked_sub-2.ensures c.fits_signed-signed.ensures.some c.fits_signed-signed.ensures.none)
    (c.truncated.ensures.value ∙ modulo_of_wrapped_difference c.args.width c.args.a c.args.b (search rules))
