-- Numbers that are below 2^64, and integers by half of their number.
use Rattle.std.proofs.Common.{◌≡◌, ◌≢◌, ◌∙◌, ℕ, ◌+◌, ◌-◌, ◌*◌, ◌^◌, ◌%◌, ◌<◌, ◌≤◌, Bool, true, false, cond, nat_lt, nat_le, List, [], ◌∷◌, drop, drop-cons, get_or, length, Option, Some, None, refl, sym, ap, arith, add-one, zero, suc}
use Rattle.std.specs.Prelude.{fold}
use Rattle.std.proofs.Math.Nat.{mod_self, mod-eq_of_lt}
use Rattle.std.proofs.lemmas.Bool.Decides.{nat_tests}
use Rattle.ir_grammar.specs.Numbers.{number_of}
use Rattle.ir_scope.specs.Mirrors.Halves.{number_below, negated}

pub is_less : (n k : ℕ) → n < k → nat_lt n k ≡ true
is_less n k less = grind (arith, nat_tests, less)

pub isn't_less : (n k : ℕ) → k ≤ n → nat_lt n k ≡ false
isn't_less n k least = grind (arith, nat_tests, least)

pub below_is : (n : ℕ) → n < 2 ^ 64 → number_below n ≡ Some n
below_is n less = ap (λ b. cond b (Some n) None) (is_less n (2 ^ 64) less)

pub below_isn't : (n : ℕ) → 2 ^ 64 ≤ n → number_below n ≡ None
below_isn't n least = ap (λ b. cond b (Some n) None) (isn't_less n (2 ^ 64) least)

less-of : (n k : ℕ) → nat_lt n k ≡ true → n < k
less-of n k e = grind (arith, nat_tests, e)

least-of : (n k : ℕ) → nat_lt n k ≡ false → k ≤ n
least-of n k e = grind (arith, nat_tests, e)

-- what a number below 2^64 says
pub record IsBelow (n m : ℕ) : Type 0 where
  pub is : m ≡ n
  pub fits : n < 2 ^ 64

pub some_below : (n m : ℕ) → Some m ≡ number_below n → IsBelow n m
some_below n m e = cases (nat_lt n (2 ^ 64)) refl e
  where
    cases : (b : Bool) → nat_lt n (2 ^ 64) ≡ b → Some m ≡ cond b (Some n) None → IsBelow n m
    cases true t f = record { is = cc; fits = less-of n (2 ^ 64) t }
    cases false t f = absurd (cc)

pub none_below : (n : ℕ) → None ≡ number_below n → 2 ^ 64 ≤ n
none_below n e = cases (nat_lt n (2 ^ 64)) refl e
  where
    cases : (b : Bool) → nat_lt n (2 ^ 64) ≡ b → None ≡ cond b (Some n) None → 2 ^ 64 ≤ n
    cases true t f = absurd (cc)
    cases false t f = least-of n (2 ^ 64) t

-- the number with more digits
abbrev pub number_on : ℕ → List ℕ → ℕ
number_on n digits = fold (λ n digit. 10 * n + (digit - 48)) n digits

number_on-ge : (n : ℕ) (digits : List ℕ) → n ≤ number_on n digits
number_on-ge n [] = omega arith
number_on-ge n (d ∷ ds) = omega (arith, number_on-ge (10 * n + (d - 48)) ds)

next-digit : (n : ℕ) (digits : List ℕ) (i : ℕ) → i < length digits → number_on n (drop i digits) ≡ number_on (10 * n + (get_or digits i 0 - 48)) (drop (i + 1) digits)
next-digit n digits i within = ap (number_on n) (drop-cons digits i 0 within) ∙ ap (λ k. number_on (10 * n + (get_or digits i 0 - 48)) (drop k digits)) (sym (add-one i))

pub digits_more : (n : ℕ) (digits : List ℕ) (i m : ℕ) → i < length digits → Some m ≡ number_below (10 * n + (get_or digits i 0 - 48)) → number_on n (drop i digits) ≡ number_of digits → number_on m (drop (i + 1) digits) ≡ number_of digits
digits_more n digits i m within some so_far =
    ap (λ k. number_on k (drop (i + 1) digits)) (some_below (10 * n + (get_or digits i 0 - 48)) m some).is ∙ (sym (next-digit n digits i within) ∙ so_far)

pub digits_large : (n : ℕ) (digits : List ℕ) (i : ℕ) → i < length digits → None ≡ number_below (10 * n + (get_or digits i 0 - 48)) → number_on n (drop i digits) ≡ number_of digits → None ≡ number_below (number_of digits)
digits_large n digits i within none so_far =
    let large = none_below (10 * n + (get_or digits i 0 - 48)) none in
    sym (below_isn't (number_of digits) (omega (arith, large, number_on-ge (10 * n + (get_or digits i 0 - 48)) (drop (i + 1) digits), next-digit n digits i within, so_far)))

drop-end : (digits : List ℕ) (i : ℕ) → length digits ≤ i → drop i digits ≡ []
drop-end [] zero least = refl
drop-end [] (suc i) least = refl
drop-end (d ∷ ds) zero least = absurd (omega arith)
drop-end (d ∷ ds) (suc i) least = drop-end ds i (omega arith)

pub digits_end : (n : ℕ) (digits : List ℕ) (i : ℕ) → length digits ≤ i → n < 2 ^ 64 → number_on n (drop i digits) ≡ number_of digits → Some n ≡ number_below (number_of digits)
digits_end n digits i least fits so_far = sym (ap number_below (sym so_far ∙ ap (number_on n) (drop-end digits i least)) ∙ below_is n fits)

-- ---- integers below 0

within-is : (n k : ℕ) → n ≤ k → nat_le n k ≡ true
within-is n k least = grind (arith, nat_tests, least)

pub zero_negated : (half n : ℕ) → 0 < half → n ≡ 0 → Some 0 ≡ negated half n
zero_negated half n some is =
    let whole : 2 * half - n ≡ 2 * half = omega arith in
    let r : (2 * half - n) % (2 * half) ≡ 0 = ap (λ k. k % (2 * half)) whole ∙ mod_self (2 * half) in
    sym (ap (λ b. cond b (Some ((2 * half - n) % (2 * half))) None) (within-is n half (omega arith)) ∙ ap (λ k. Some k) r)

pub more_negated : (half n : ℕ) → n ≢ 0 → n ≤ half → Some (half - n + half) ≡ negated half n
more_negated half n some within =
    let less : 2 * half - n < 2 * half = omega arith in
    let r : (2 * half - n) % (2 * half) ≡ half - n + half = mod-eq_of_lt less ∙ omega arith in
    sym (ap (λ b. cond b (Some ((2 * half - n) % (2 * half))) None) (within-is n half within) ∙ ap (λ k. Some k) r)
