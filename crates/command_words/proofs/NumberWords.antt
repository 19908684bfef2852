-- Numbers in words, as the code reads them.
use Rattle.std.proofs.Common.{◌≡◌, ◌∙◌, ℕ, zero, suc, pos, ◌-◌, ◌^◌, ◌<◌, ◌≤◌, Bool, true, false, not, ◌==◌, ◌&&◌, List, [], ◌∷◌, length, get_or, Some, None, Result, Ok, Err, option_map, refl, sym, ap, subst, arith}
use Rattle.std.specs.Prelude.{nat_le, bytes_eq, if◌then◌else◌}
use Rattle.std.specs.Fmt.{decimal}
use Rattle.std.specs.Str.Parse.{AllDigits, IsNumeral, digits_value, without_leading_plus}
use Rattle.std.proofs.lemmas.Bool.{leb-true, le-leb, eqb-true}
use Rattle.std.proofs.lemmas.Fmt.{decimal_is_IsNumeral, parse-decimal, decimal-digits_value, decimal_digit, first_decimal}
use Rattle.std.proofs.lemmas.Str.Parse.{numerals_by_value, tells_digits, digit_from_value}
use Rattle.std.proofs.lemmas.Slice.Eq.{bytes_eq-Decides}
use Rattle.command_words.specs.Numbers.{number_of, argument_of}
use Rattle.command_words.specs.Mirrors.{is_plain}

-- ---- both tests, or not

both_hold : (p q : Bool) (n : ℕ) → p ≡ true → q ≡ true → Some n ≡ (if p && q then Some n else None)
both_hold true true n a b = refl
both_hold true false n a b = absurd (cc)
both_hold false q n a b = absurd (cc)

not_both : (p q : Bool) (n : ℕ) → (p ≡ true → q ≡ true → ⊥) → None ≡ (if p && q then Some n else None)
not_both true true n none = absurd (none refl refl)
not_both true false n none = refl
not_both false q n none = refl

is_number : (most : ℕ) (word : List ℕ) → digits_value 10 word ≤ most → word ≡ decimal (digits_value 10 word) → Some (digits_value 10 word) ≡ number_of most word
is_number most word small is =
    both_hold (nat_le (digits_value 10 word) most) (bytes_eq word (decimal (digits_value 10 word))) (digits_value 10 word) (le-leb _ most small) ((bytes_eq-Decides word (decimal (digits_value 10 word))).1 is)

is_none : (most : ℕ) (word : List ℕ) → (digits_value 10 word ≤ most → word ≡ decimal (digits_value 10 word) → ⊥) → None ≡ number_of most word
is_none most word none = not_both (nat_le (digits_value 10 word) most) (bytes_eq word (decimal (digits_value 10 word))) (digits_value 10 word)
    (λ p q. none (leb-true _ most p) ((bytes_eq-Decides word (decimal (digits_value 10 word))).0 q))

-- ---- plain words

not_false : (b : Bool) → not b ≡ true → b ≡ false
not_false true e = absurd (cc)
not_false false e = refl

both_true : (a b : Bool) → (a && b) ≡ true → (a ≡ true) × (b ≡ true)
both_true true b e = (refl, e)
both_true false b e = absurd (cc)

no_plus : (byte : ℕ) (bytes : List ℕ) → (byte == 43) ≡ false → without_leading_plus (byte ∷ bytes) ≡ byte ∷ bytes
no_plus byte bytes e = rw (e)

plain_whole : (word : List ℕ) → is_plain word ≡ true → without_leading_plus word ≡ word
plain_whole [] e = refl
plain_whole (byte ∷ []) e = no_plus byte [] (not_false (byte == 43) e)
plain_whole (byte ∷ next ∷ bytes) e = no_plus byte (next ∷ bytes) (not_false (byte == 43) (both_true (not (byte == 48)) (not (byte == 43)) e).1)

no_zero : (byte : ℕ) → (byte == 48) ≡ false → byte ≡ 48 → ⊥
no_zero byte e is = absurd (let same : (48 == 48) ≡ false = subst (λ b. (b == 48) ≡ false) is e in cc)

plain_lead : (word : List ℕ) → is_plain word ≡ true → get_or word 0 0 ≡ 48 → length word ≡ 1
plain_lead [] e is = absurd (omega arith)
plain_lead (byte ∷ []) e is = refl
plain_lead (byte ∷ next ∷ bytes) e is = absurd (no_zero byte (not_false (byte == 48) (both_true (not (byte == 48)) (not (byte == 43)) e).0) is)

-- ---- what is parsed

reads_itself : (word : List ℕ) → IsNumeral 10 word → digits_value 10 word < 2 ^ 64 → is_plain word ≡ true → word ≡ decimal (digits_value 10 word)
reads_itself word numeral small plain = sym (decimal-digits_value (numerals_by_value _ tells_digits) word numeral.1 numeral.0 (plain_lead word plain) small)

pub parsed : (most n : ℕ) (word : List ℕ) → IsNumeral 10 (without_leading_plus word) × (digits_value 10 (without_leading_plus word) < 2 ^ 64) → n ≡ digits_value 10 (without_leading_plus word)
    → is_plain word ≡ true → n ≤ most → Some n ≡ number_of most word
parsed most n word (numeral, small) is plain few =
    let whole = plain_whole word plain in
    let same : n ≡ digits_value 10 word = is ∙ ap (digits_value 10) whole in
    let here : IsNumeral 10 word = subst (IsNumeral 10) whole numeral in
    let below : digits_value 10 word < 2 ^ 64 = subst (λ w. digits_value 10 w < 2 ^ 64) whole small in
    ap (λ k. Some k) same ∙ is_number most word (subst (λ k. k ≤ most) same few) (reads_itself word here below plain)

pub parsed_past : (most n : ℕ) (word : List ℕ) → n ≡ digits_value 10 (without_leading_plus word) → is_plain word ≡ true → most < n → None ≡ number_of most word
parsed_past most n word is plain past =
    let same : n ≡ digits_value 10 word = is ∙ ap (digits_value 10) (plain_whole word plain) in
    is_none most word (λ small e. omega (arith, same))

-- ---- what isn't plain

no_plus_digit : (bytes : List ℕ) → AllDigits 10 (43 ∷ bytes) → ⊥
no_plus_digit bytes all = omega (arith, digit_from_value 43 all.0)

plus_never : (byte : ℕ) (bytes : List ℕ) (n : ℕ) → n < 2 ^ 64 → byte ≡ 43 → byte ∷ bytes ≡ decimal n → ⊥
plus_never byte bytes n small is e =
    no_plus_digit bytes (subst (λ b. AllDigits 10 (b ∷ bytes)) is (subst (AllDigits 10) (sym e) (decimal_is_IsNumeral n small).0.1))

lead_never : (byte next : ℕ) (bytes : List ℕ) (n : ℕ) → n < 2 ^ 64 → byte ≡ 48 → byte ∷ next ∷ bytes ≡ decimal n → ⊥
lead_never byte next bytes zero small is e = absurd (omega (arith, ap (λ (l : List ℕ). length l) (e ∙ decimal_digit 0 (omega arith))))
lead_never byte next bytes (suc n) small is e =
    omega (arith, is, first_decimal (suc n) (omega arith) small, ap (λ (l : List ℕ). get_or l 0 0) e)

not_true : (b : Bool) → not b ≡ false → b ≡ true
not_true true e = refl
not_true false e = absurd (cc)

one_false : (a b : Bool) → (a && b) ≡ false → a ≡ true → b ≡ false
one_false true b e is = e
one_false false b e is = absurd (cc)

long_never : (byte next : ℕ) (bytes : List ℕ) (n : ℕ) (zero_first : Bool) → n < 2 ^ 64 → (byte == 48) ≡ zero_first → (not zero_first && not (byte == 43)) ≡ false → byte ∷ next ∷ bytes ≡ decimal n → ⊥
long_never byte next bytes n true small z e is = lead_never byte next bytes n small (eqb-true byte 48 z) is
long_never byte next bytes n false small z e is = plus_never byte (next ∷ bytes) n small (eqb-true byte 43 (not_true (byte == 43) e)) is

never_plain : (word : List ℕ) (n : ℕ) → n < 2 ^ 64 → is_plain word ≡ false → word ≡ decimal n → ⊥
never_plain [] n small e is = absurd (cc)
never_plain (byte ∷ []) n small e is = plus_never byte [] n small (eqb-true byte 43 (not_true (byte == 43) e)) is
never_plain (byte ∷ next ∷ bytes) n small e is = long_never byte next bytes n (byte == 48) small refl e is

pub not_plain : (most : ℕ) (word : List ℕ) → most < 2 ^ 64 → is_plain word ≡ false → None ≡ number_of most word
not_plain most word top e = is_none most word (λ small is. never_plain word (digits_value 10 word) (omega arith) e is)

-- ---- what isn't parsed

no_number : {E : Type 0} (e : E) (n : ℕ) → (let r : Result ℕ E = Err e in r ≡ Ok n) → ⊥
no_number e n is = absurd (cc)

pub not_parsed : (most : ℕ) (word : List ℕ) → most < 2 ^ 64 → (IsNumeral 10 (without_leading_plus word) × (digits_value 10 (without_leading_plus word) < 2 ^ 64) → ⊥) → None ≡ number_of most word
not_parsed most word top not_read =
    is_none most word (λ small is. no_number tt (digits_value 10 word) (parse-decimal {E = Unit {0}} 64 (digits_value 10 word) word (Err tt) (omega arith) (omega arith) is not_read))

-- ---- arguments without a minus

empty_none : (most : ℕ) → None ≡ number_of most []
empty_none most = is_none most [] (λ small is. omega (arith, ap (λ (l : List ℕ). length l) (is ∙ decimal_digit 0 (omega arith))))

no_some : (n : ℕ) → None ≡ Some n → ⊥
no_some n e = absurd (cc)

no_minus : (byte : ℕ) (bytes : List ℕ) (first : Bool) → ((rest : List ℕ) → byte ∷ bytes ≡ 45 ∷ rest → ⊥) → (byte == 45) ≡ first → first ≡ false
no_minus byte bytes true none e = absurd (none bytes (ap (λ b. b ∷ bytes) (eqb-true byte 45 e)))
no_minus byte bytes false none e = refl

natural : (byte : ℕ) (bytes : List ℕ) → (byte == 45) ≡ false → option_map pos (number_of (2 ^ 64 - 1) (byte ∷ bytes)) ≡ argument_of (byte ∷ bytes)
natural byte bytes e = rw (e)

pub natural_some : (word : List ℕ) (n : ℕ) → ((rest : List ℕ) → word ≡ 45 ∷ rest → ⊥) → number_of (2 ^ 64 - 1) word ≡ Some n → Some (pos n) ≡ argument_of word
natural_some [] n none is = absurd (no_some n (empty_none (2 ^ 64 - 1) ∙ is))
natural_some (byte ∷ bytes) n none is = sym (ap (λ o. option_map pos o) is) ∙ natural byte bytes (no_minus byte bytes (byte == 45) none refl)

pub natural_none : (word : List ℕ) → ((rest : List ℕ) → word ≡ 45 ∷ rest → ⊥) → number_of (2 ^ 64 - 1) word ≡ None → None ≡ argument_of word
natural_none [] none is = refl
natural_none (byte ∷ bytes) none is = sym (ap (λ o. option_map pos o) is) ∙ natural byte bytes (no_minus byte bytes (byte == 45) none refl)
