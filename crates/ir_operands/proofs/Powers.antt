-- A number of 2^64 or more is no power among those that count.
use Rattle.std.proofs.Common.{◌≡◌, ℕ, ◌^◌, ◌≤◌, true, ltb, List, [], ◌∷◌, None, refl, arith}
use Rattle.std.specs.List.{list_all}
use Rattle.std.proofs.lemmas.Bool.Decides.{nat_tests}
use Rattle.ir_grammar.specs.Numbers.{below_limit, exponents, exponent_among, exponent_of}

none_among : (es : List ℕ) (m n : ℕ) → list_all (λ e. ltb (2 ^ e) m) es ≡ true → m ≤ n → exponent_among es n ≡ None
none_among [] m n below above = refl
none_among (e ∷ es) m n below above = grind (arith, nat_tests, none_among es m n)

exponent_of_large : (n : ℕ) → 2 ^ 64 ≤ n → exponent_of n ≡ None
unfolding exponent_of
exponent_of_large n above = none_among exponents (2 ^ 64) n refl above

no_limit : (n : ℕ) → below_limit n ≡ None → 2 ^ 64 ≤ n
no_limit n e = grind (arith, nat_tests)

pub no_exponent : (n : ℕ) → below_limit n ≡ None → exponent_of n ≡ None
no_exponent n e = exponent_of_large n (no_limit n e)
