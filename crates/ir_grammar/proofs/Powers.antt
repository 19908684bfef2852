-- A number of 2^64 or more is no power among those that count.
use Rattle.std.proofs.Common.{◌≡◌, ℕ, ◌^◌, ◌≤◌, true, false, cond, eqb, ltb, List, [], ◌∷◌, None, refl, arith}
use Rattle.std.specs.List.{list_all}
use Rattle.std.proofs.lemmas.Bool.Decides.{nat_tests}
use Rattle.ir_grammar.specs.declared.shape.Digits.TheVariants.{Other}
use Rattle.ir_grammar.specs.Numbers.{number_of, below_limit, exponents, exponent_among, exponent_of, unsigned_shape, digits_shape}

none_among : (es : List ℕ) (m n : ℕ) → list_all (λ e. ltb (2 ^ e) m) es ≡ true → m ≤ n → exponent_among es n ≡ None
none_among [] m n below above = refl
none_among (e ∷ es) m n below above = grind (arith, nat_tests, none_among es m n)

exponent_of_large : (n : ℕ) → 2 ^ 64 ≤ n → exponent_of n ≡ None
unfolding exponent_of
exponent_of_large n above = none_among exponents (2 ^ 64) n refl above

no_limit : (n : ℕ) → below_limit n ≡ None → 2 ^ 64 ≤ n
no_limit n none = grind (arith, nat_tests)

unsigned_shape_large : (n : ℕ) → below_limit n ≡ None → unsigned_shape n ≡ Other
unsigned_shape_large n none =
    let above : 2 ^ 64 ≤ n = no_limit n none in
    rw (exponent_of_large n above) (grind (arith, nat_tests))

pub digits_shape_large : (text : List ℕ) → below_limit (number_of text) ≡ None → digits_shape text ≡ Other
digits_shape_large [] none = refl
digits_shape_large (b ∷ bs) none = elim (eqb b 45) as (λ signed. cond signed Other (unsigned_shape (number_of (b ∷ bs))) ≡ Other) [
  | true ↦ refl
  | false ↦ unsigned_shape_large (number_of (b ∷ bs)) none
]
