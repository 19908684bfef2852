-- Decimals that are written are digits, and are read as the number again.
use Rattle.std.proofs.Common.{◌≡◌, ℕ, zero, suc, ◌+◌, ◌-◌, ◌*◌, ◌/◌, ◌%◌, ◌^◌, ◌<◌, true, false, List, [], ◌∷◌, refl, arith, rules, eqb}
use Rattle.std.specs.List.{fold, list_all}
use Rattle.std.specs.Char.{is_ascii_digit}
use Rattle.std.specs.Str.{all_ascii_digits}
use Rattle.std.specs.Fmt.{decimal, digits, digits_onto, digit_glyph}
use Rattle.std.proofs.lemmas.Str.Parse.{IsNumeralModel, numerals_by_fold}
use Rattle.std.proofs.lemmas.Fmt.{digits_value-decimal}
use Rattle.std.proofs.lemmas.Bool.{and_parts, and_from, cond_both, or_left, or_right}
use Rattle.std.proofs.lemmas.Bool.Decides.{nat_tests}
use Rattle.ir_lexer.specs.Spelled.{headed, is_decimal, is_integer}
use Rattle.ir_lexer.proofs.Names.{digit_is_no, minus_is_no_digit, quote_is_no_digit}
use Rattle.ir_grammar.specs.Numbers.{number_of}

-- ---- back

read_on : ℕ → List ℕ → ℕ
read_on n ds = fold (λ m digit. 10 * m + (digit - 48)) n ds

own : IsNumeralModel (λ ds. all_ascii_digits ds ≡ true) (read_on 0)
unfolding read_on
own = numerals_by_fold _ (search rules) read_on (search rules)

pub number_back : (n : ℕ) → n < 2 ^ 64 → number_of (decimal n) ≡ n
unfolding read_on
number_back n h = digits_value-decimal own n h

-- ---- digits, however great the number is

glyph_digit : (n : ℕ) → is_ascii_digit (digit_glyph false (n % 10)) ≡ true
glyph_digit n = plain (n % 10) (omega arith)
  where
    plain : (d : ℕ) → d < 10 → is_ascii_digit (digit_glyph false d) ≡ true
    plain d h = grind (arith, nat_tests, h)

abbrev AreDigits : List ℕ → Type 0
AreDigits text = headed is_ascii_digit is_ascii_digit text ≡ true

pub all_digits : (text : List ℕ) → headed is_ascii_digit is_ascii_digit text ≡ true → list_all is_ascii_digit text ≡ true
all_digits [] h = refl
all_digits (d ∷ ds) h = h

before_digits : (n : ℕ) (acc : List ℕ) → list_all is_ascii_digit acc ≡ true → AreDigits (digit_glyph false (n % 10) ∷ acc)
before_digits n acc h = and_from (is_ascii_digit (digit_glyph false (n % 10))) (list_all is_ascii_digit acc) (glyph_digit n) h

onto_digits : (k n : ℕ) (acc : List ℕ) → AreDigits acc → AreDigits (digits_onto k 10 false n acc)
onto_digits zero n acc h = h
onto_digits (suc k) n acc h =
    let more : AreDigits (digit_glyph false (n % 10) ∷ acc) = before_digits n acc (all_digits acc h) in
    cond_both (eqb (n / 10) 0) (digit_glyph false (n % 10) ∷ acc) (digits_onto k 10 false (n / 10) (digit_glyph false (n % 10) ∷ acc)) AreDigits (λ _. more) (λ _. onto_digits k (n / 10) (digit_glyph false (n % 10) ∷ acc) more)

some_digits : (k n : ℕ) → 0 < k → AreDigits (digits_onto k 10 false n [])
some_digits zero n h = absurd (omega arith)
some_digits (suc k) n h =
    let one : AreDigits (digit_glyph false (n % 10) ∷ []) = before_digits n [] refl in
    cond_both (eqb (n / 10) 0) (digit_glyph false (n % 10) ∷ []) (digits_onto k 10 false (n / 10) (digit_glyph false (n % 10) ∷ [])) AreDigits (λ _. one) (λ _. onto_digits k (n / 10) (digit_glyph false (n % 10) ∷ []) one)

pub decimal_headed : (n : ℕ) → headed is_ascii_digit is_ascii_digit (decimal n) ≡ true
unfolding digits
decimal_headed n = some_digits 64 n (omega arith)

pub decimal_digits : (n : ℕ) → list_all is_ascii_digit (decimal n) ≡ true
decimal_digits n = all_digits (decimal n) (decimal_headed n)

-- a digit, which is neither - nor a quote, and then digits
pub record IsDecimal (text : List ℕ) : Type 0 where
  pub first : ℕ
  pub rest : List ℕ
  pub is : text ≡ first ∷ rest
  pub digit : is_ascii_digit first ≡ true
  pub digits : list_all is_ascii_digit rest ≡ true
  pub no_minus : eqb first 45 ≡ false
  pub no_quote : eqb first 34 ≡ false

shape : (text : List ℕ) → AreDigits text → IsDecimal text
shape [] h = absurd (cc)
shape (d ∷ ds) h =
    let a = and_parts (is_ascii_digit d) (list_all is_ascii_digit ds) h in
    record { first = d; rest = ds; is = refl; digit = a.0; digits = a.1; no_minus = digit_is_no d 45 a.0 minus_is_no_digit; no_quote = digit_is_no d 34 a.0 quote_is_no_digit }

pub decimal_shape : (n : ℕ) → IsDecimal (decimal n)
decimal_shape n = shape (decimal n) (decimal_headed n)

-- ---- tokens

pub decimal_spelled : (n : ℕ) → is_integer (decimal n) ≡ true
unfolding is_integer is_decimal
decimal_spelled n = or_left _ _ (decimal_headed n)

pub signed_spelled : (n : ℕ) → is_integer (45 ∷ decimal n) ≡ true
unfolding is_integer is_decimal
signed_spelled n = or_right (headed is_ascii_digit is_ascii_digit (45 ∷ decimal n)) _ (decimal_headed n)
