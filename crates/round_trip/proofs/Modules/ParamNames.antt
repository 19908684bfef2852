-- The names of written parameters, and of declared ones.
use Rattle.std.proofs.Common.{◌≡◌, ◌∙◌, ℕ, zero, suc, ◌+◌, ◌^◌, ◌<◌, ◌≤◌, true, false, not, ◌&&◌, eqb, nat_lt, nat_le, List, [], ◌∷◌, length, bytes_eq, refl, ap, arith}
use Rattle.std.specs.List.{list_all}
use Rattle.std.specs.Char.{is_ascii_digit}
use Rattle.std.specs.Fmt.{decimal}
use Rattle.std.proofs.lemmas.Fmt.{decimal_injective, length-decimal-le, decimal_nonempty}
use Rattle.std.proofs.lemmas.Bool.{and_from, and_parts, cond-false, not_from_false, false_from_ne_true, lt-ltb, le-leb}
use Rattle.std.proofs.lemmas.Slice.Eq.{bytes_eq-Decides}
use Rattle.ir_lexer.proofs.Names.{digit_is_no}
use Rattle.name_table.specs.Places.{is_among, are_distinct}
use Rattle.ir_locals.specs.Locals.{is_name}
use Rattle.ir_parser.specs.Items.{are_params}
use Rattle.round_trip.proofs.Tokens.Digits.{decimal_digits}

-- so many texts by their numbers, from one on
abbrev pub texts_from : (ℕ → List ℕ) → ℕ → ℕ → List (List ℕ)
texts_from text k zero = []
texts_from text k (suc n) = text k ∷ texts_from text (suc k) n

-- the name of a parameter of a definition
abbrev pub param_name : ℕ → List ℕ
param_name k = 97 ∷ decimal k

-- ---- lists of names by number

-- Different numbers give different names.
record AreNames (text : ℕ → List ℕ) : Type 0 where
  pub named : (k : ℕ) → k < 2 ^ 64 → is_name (text k) ≡ true
  pub one : (k j : ℕ) → k < 2 ^ 64 → j < 2 ^ 64 → text k ≡ text j → k ≡ j

module _ (text : ℕ → List ℕ) (are : AreNames text) where
  apart : (k j : ℕ) → k < j → j < 2 ^ 64 → bytes_eq (text k) (text j) ≡ false
  apart k j less small = false_from_ne_true (bytes_eq (text k) (text j)) (λ t.
      let same : k ≡ j = are.one k j (omega arith) small ((bytes_eq-Decides (text k) (text j)).0 t) in
      absurd (omega arith))

  absent : (k j n : ℕ) → k < j → j + n < 2 ^ 64 → is_among (text k) (texts_from text j n) ≡ false
  absent k j zero less small = refl
  absent k j (suc n) less small =
      cond-false (bytes_eq (text k) (text j)) true (is_among (text k) (texts_from text (suc j) n)) (apart k j less (omega arith))
      ∙ absent k (suc j) n (omega arith) (omega (arith, small))

  distinct : (k n : ℕ) → k + n < 2 ^ 64 → are_distinct (texts_from text k n) ≡ true
  distinct k zero small = refl
  distinct k (suc n) small = and_from (not (is_among (text k) (texts_from text (suc k) n))) (are_distinct (texts_from text (suc k) n))
      (not_from_false (is_among (text k) (texts_from text (suc k) n)) (absent k (suc k) n (omega arith) (omega (arith, small))))
      (distinct (suc k) n (omega (arith, small)))

  named : (k n : ℕ) → k + n < 2 ^ 64 → list_all is_name (texts_from text k n) ≡ true
  named k zero small = refl
  named k (suc n) small = and_from (is_name (text k)) (list_all is_name (texts_from text (suc k) n)) (are.named k (omega arith)) (named (suc k) n (omega (arith, small)))

  many : (k n : ℕ) → length (texts_from text k n) ≡ n
  many k zero = refl
  many k (suc n) = ap suc (many (suc k) n)

  all-params : (n : ℕ) → n ≤ 32 → are_params (texts_from text 0 n) ≡ true
  all-params n few =
      let small : 0 + n < 2 ^ 64 = omega (arith, few) in
      and_from (nat_le (length (texts_from text 0 n)) 32 && list_all is_name (texts_from text 0 n)) (are_distinct (texts_from text 0 n))
      (and_from (nat_le (length (texts_from text 0 n)) 32) (list_all is_name (texts_from text 0 n)) (le-leb (length (texts_from text 0 n)) 32 (omega (arith, many 0 n, few))) (named 0 n small))
      (distinct 0 n small)

-- ---- decimals, and decimals behind an a

no-zeros : (ds : List ℕ) → list_all is_ascii_digit ds ≡ true → list_all (λ byte. not (eqb byte 0)) ds ≡ true
no-zeros [] h = refl
no-zeros (d ∷ ds) h =
    let both = and_parts (is_ascii_digit d) (list_all is_ascii_digit ds) h in
    and_from (not (eqb d 0)) (list_all (λ byte. not (eqb byte 0)) ds) (not_from_false (eqb d 0) (digit_is_no d 0 both.0 refl)) (no-zeros ds both.1)

short : (k : ℕ) → k < 2 ^ 64 → length (decimal k) ≤ 20
short k small = length-decimal-le 20 k (omega arith) (omega arith) small

decimal-named : (k : ℕ) → k < 2 ^ 64 → is_name (decimal k) ≡ true
decimal-named k small =
    let few = short k small in
    and_from (nat_lt 0 (length (decimal k)) && nat_le (length (decimal k)) 4096) (list_all (λ byte. not (eqb byte 0)) (decimal k))
    (and_from (nat_lt 0 (length (decimal k))) (nat_le (length (decimal k)) 4096) (lt-ltb 0 (length (decimal k)) (decimal_nonempty k small)) (le-leb (length (decimal k)) 4096 (omega (arith, few))))
    (no-zeros (decimal k) (decimal_digits k))

param-named : (k : ℕ) → k < 2 ^ 64 → is_name (param_name k) ≡ true
param-named k small =
    let few = short k small in
    and_from (nat_lt 0 (length (param_name k)) && nat_le (length (param_name k)) 4096) (list_all (λ byte. not (eqb byte 0)) (param_name k))
    (and_from (nat_lt 0 (length (param_name k))) (nat_le (length (param_name k)) 4096) (lt-ltb 0 (length (param_name k)) (omega arith)) (le-leb (length (param_name k)) 4096 (omega (arith, few))))
    (no-zeros (decimal k) (decimal_digits k))

decimal-names : AreNames decimal
decimal-names = record { named = decimal-named; one = λ k j small below same. decimal_injective k j small below same }

param-names : AreNames param_name
param-names = record {
  named = param-named;
  one = λ k j small below same. let digits : decimal k ≡ decimal j = cc in decimal_injective k j small below digits;
}

-- ---- the names of parameters

pub declared-params : (n : ℕ) → n ≤ 32 → are_params (texts_from decimal 0 n) ≡ true
declared-params n few = all-params decimal decimal-names n few

pub defined-params : (n : ℕ) → n ≤ 32 → are_params (texts_from param_name 0 n) ≡ true
defined-params n few = all-params param_name param-names n few
