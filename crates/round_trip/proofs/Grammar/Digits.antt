-- The shapes of the numbers that are written.
use Rattle.std.proofs.Common.{◌≡◌, ◌∙◌, ℕ, ◌^◌, ◌<◌, ◌≤◌, true, cond, ◌∷◌, is_some, refl, sym, ap, arith, ltb, eqb}
use Rattle.std.specs.Fmt.{decimal}
use Rattle.std.proofs.lemmas.Bool.{agree_below_at, cond-true, cond-false, cond_both, lt-ltb}
use Rattle.std.proofs.lemmas.Nat.{pow_below}
use Rattle.ir_grammar.specs.declared.shape.Digits.TheVariants as digits
use Rattle.ir_grammar.specs.declared.shape.Shape.TheVariants as is
use Rattle.ir_grammar.specs.declared.grammar.Keep.TheVariants as keep
use Rattle.ir_grammar.specs.declared.grammar.Terminal.TheVariants as a
use Rattle.ir_grammar.specs.Items as grammar
use Rattle.ir_grammar.specs.Numbers.{number_of, exponent_of, unsigned_shape, digits_shape}
use Rattle.ir_grammar.specs.Mirrors.Walk.{Taken, settle}
use Rattle.round_trip.proofs.Tokens.Digits.{number_back, decimal_shape}
use Rattle.round_trip.proofs.Grammar.Walking.{Items}

decimal_shaped : (n : ℕ) → n < 2 ^ 64 → digits_shape (decimal n) ≡ unsigned_shape n
decimal_shaped n h =
    let shape = decimal_shape n in
    let back : number_of (shape.first ∷ shape.rest) ≡ n = sym (ap number_of shape.is) ∙ number_back n h in
    ap digits_shape shape.is ∙ cond-false (eqb shape.first 45) digits.Other (unsigned_shape (number_of (shape.first ∷ shape.rest))) shape.no_minus ∙ ap unsigned_shape back

-- a number below 2^64 may be a count
pub count_taken : (n : ℕ) (next : Items) → n < 2 ^ 64 → settle (is.Int (digits_shape (decimal n))) (grammar.kept a.CountInt ∷ next) ≡ Taken keep.Keeps next
count_taken n next h =
    ap (λ shape. settle (is.Int shape) (grammar.kept a.CountInt ∷ next)) (decimal_shaped n h)
    ∙ cond_both (is_some (exponent_of n)) digits.Power (cond (ltb n (2 ^ 64)) digits.Count digits.Other) (λ shape. settle (is.Int shape) (grammar.kept a.CountInt ∷ next) ≡ Taken keep.Keeps next)
    (λ power. refl)
    (λ other. ap (λ shape. settle (is.Int shape) (grammar.kept a.CountInt ∷ next)) (cond-true (ltb n (2 ^ 64)) digits.Count digits.Other (lt-ltb n (2 ^ 64) h)))

-- ---- powers of two

power_shape : (e : ℕ) → e ≤ 32 → unsigned_shape (2 ^ e) ≡ digits.Power
unfolding exponent_of
power_shape e few = cond-true (is_some (exponent_of (2 ^ e))) digits.Power _ (agree_below_at (λ e. is_some (exponent_of (2 ^ e))) (λ e. true) 33 e refl (omega (arith, few)))

-- an alignment is a power of two
pub power_taken : (e : ℕ) (next : Items) → e ≤ 32 → settle (is.Int (digits_shape (decimal (2 ^ e)))) (grammar.power ∷ next) ≡ Taken keep.Keeps next
power_taken e next few = ap (λ shape. settle (is.Int shape) (grammar.power ∷ next)) (decimal_shaped (2 ^ e) (pow_below e 64 (omega (arith, few))) ∙ power_shape e few)
