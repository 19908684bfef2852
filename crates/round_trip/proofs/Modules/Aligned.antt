-- A written alignment is read again.
use Rattle.std.proofs.Common.{◌≡◌, ◌∙◌, ℕ, zero, suc, ◌^◌, ◌<◌, ◌≤◌, Bool, true, false, ◌&&◌, eqb, List, [], ◌∷◌, Option, Some, None, refl, sym, ap, subst, arith, ⊎_elim}
use Rattle.std.specs.Prelude.{is_some}
use Rattle.std.specs.Fmt.{decimal}
use Rattle.std.proofs.lemmas.Bool.{and_parts, cond-true, cond-false, eqb-true, cases_lt, false≢true}
use Rattle.std.proofs.lemmas.Nat.{pow_below}
use Rattle.ir_syntax.specs.FormedBody.{IsAlign}
use Rattle.ir_grammar.specs.declared.shape.Shape.TheVariants as is
use Rattle.ir_grammar.specs.declared.shape.Digits.TheVariants as digits
use Rattle.ir_grammar.specs.Numbers.{number_of, exponent_of, unsigned_shape, digits_shape}
use Rattle.ir_parser.specs.Items.{last_align}
use Rattle.round_trip.proofs.Grammar.Kept.{align_kept}
use Rattle.round_trip.proofs.Tokens.Digits.{number_back, IsDecimal, decimal_shape}

-- ---- exponents

abbrev is_this : ℕ → Option ℕ → Bool
is_this e None = false
is_this e (Some found) = eqb found e

-- each of the exponents up to a number is found again
abbrev are_found : ℕ → Bool
are_found zero = is_this 0 (exponent_of (2 ^ 0))
are_found (suc n) = is_this (suc n) (exponent_of (2 ^ suc n)) && are_found n

all-found : are_found 32 ≡ true
unfolding exponent_of
all-found = refl

this-found : (e : ℕ) (found : Option ℕ) → is_this e found ≡ true → found ≡ Some e
this-found e None h = absurd (false≢true h)
this-found e (Some other) h = ap (λ n. Some n) (eqb-true other e h)

found-below : (n e : ℕ) → e ≤ n → are_found n ≡ true → exponent_of (2 ^ e) ≡ Some e
found-below zero e few h = let same : 0 ≡ e = omega arith in subst (λ k. exponent_of (2 ^ k) ≡ Some k) same (this-found 0 (exponent_of (2 ^ 0)) h)
found-below (suc n) e few h =
    let both = and_parts (is_this (suc n) (exponent_of (2 ^ suc n))) (are_found n) h in
    ⊎_elim
    (λ less. found-below n e (omega arith) both.1)
    (λ more.
    let same : suc n ≡ e = omega arith in
    subst (λ k. exponent_of (2 ^ k) ≡ Some k) same (this-found (suc n) (exponent_of (2 ^ suc n)) both.0))
    (cases_lt e (suc n))

exponent-found : (e : ℕ) → e ≤ 32 → exponent_of (2 ^ e) ≡ Some e
exponent-found e few = found-below 32 e few all-found

-- ---- what is written

power-small : (e : ℕ) → e ≤ 32 → 2 ^ e < 2 ^ 64
power-small e few = pow_below e 64 (omega arith)

exponent-back : (e : ℕ) → e ≤ 32 → exponent_of (number_of (decimal (2 ^ e))) ≡ Some e
exponent-back e few = ap exponent_of (number_back (2 ^ e) (power-small e few)) ∙ exponent-found e few

shape-from : (text : List ℕ) (own : IsDecimal text) (e : ℕ) → exponent_of (number_of text) ≡ Some e → digits_shape text ≡ digits.Power
shape-from text own e found =
    ap digits_shape own.is
    ∙ cond-false (eqb own.first 45) digits.Other (unsigned_shape (number_of (own.first ∷ own.rest))) own.no_minus
    ∙ ap (λ t. unsigned_shape (number_of t)) (sym own.is)
    ∙ cond-true (is_some (exponent_of (number_of text))) _ _ (ap is_some found)

power-shape : (e : ℕ) → e ≤ 32 → digits_shape (decimal (2 ^ e)) ≡ digits.Power
power-shape e few = shape-from (decimal (2 ^ e)) (decimal_shape (2 ^ e)) e (exponent-back e few)

pub align-back : (align : Option ℕ) → IsAlign align → last_align None (align_kept align) ≡ align
align-back None few = refl
align-back (Some e) few = ap (λ shape. last_align None ((is.Int shape, decimal (2 ^ e)) ∷ [])) (power-shape e few) ∙ exponent-back e few
