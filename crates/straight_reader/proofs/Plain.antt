-- Plain names are names.
use Rattle.std.proofs.Common.{◌≡◌, ◌∙◌, ℕ, ◌<◌, ◌≤◌, Bool, true, false, not, ◌&&◌, nat_lt, nat_le, ◌==◌, ◌≢◌, List, [], ◌∷◌, length, refl, sym, ap, arith, All}
use Rattle.std.specs.List.{list_all}
use Rattle.std.proofs.lemmas.Bool.{false≢true, and_parts, and_from}
use Rattle.std.proofs.lemmas.Bool.Decides.{Decides-eqb, nat_tests}
use Rattle.std.proofs.lemmas.List.Sums.{AllPass-from_list_all}
use Rattle.ir_lexer.specs.Signs.{begins_word, begins_name, is_name_byte}
use Rattle.ir_syntax.specs.FormedItem.{IsName}
use Rattle.straight_form.specs.Names.{is_name, is_reserved, is_function_name, is_unquoted, is_plain_name}

-- a test that zero fails
nonzero : (p : ℕ → Bool) → p 0 ≡ false → (b : ℕ) → p b ≡ true → not (b == 0) ≡ true
nonzero p none b e = cases (b == 0) refl
  where
    cases : (t : Bool) → (b == 0) ≡ t → not t ≡ true
    cases true f = absurd (false≢true (sym none ∙ ap p (sym ((Decides-eqb b 0).0 f)) ∙ e))
    cases false f = refl

zero_begins : begins_name 0 ≡ false
unfolding begins_word begins_name
zero_begins = refl

zero_within : is_name_byte 0 ≡ false
unfolding begins_word begins_name is_name_byte
zero_within = refl

nonzeros : (p : ℕ → Bool) → p 0 ≡ false → (bs : List ℕ) → list_all p bs ≡ true → list_all (λ byte. not (byte == 0)) bs ≡ true
nonzeros p none [] e = refl
nonzeros p none (b ∷ bs) e =
    let both = and_parts (p b) (list_all p bs) e in
    and_from (not (b == 0)) (list_all (λ byte. not (byte == 0)) bs) (nonzero p none b both.0) (nonzeros p none bs both.1)

unquoted_nonzero : (name : List ℕ) → is_unquoted name ≡ true → list_all (λ byte. not (byte == 0)) name ≡ true
unquoted_nonzero [] e = refl
unquoted_nonzero (b ∷ bs) e =
    let both = and_parts (begins_name b) (list_all is_name_byte bs) e in
    and_from (not (b == 0)) (list_all (λ byte. not (byte == 0)) bs) (nonzero begins_name zero_begins b both.0) (nonzeros is_name_byte zero_within bs both.1)

some_byte : (n : ℕ) → 0 < n → nat_lt 0 n ≡ true
some_byte n above = grind (arith, nat_tests, above)

unquoted_some : (name : List ℕ) → is_unquoted name ≡ true → nat_lt 0 (length name) ≡ true
unquoted_some [] e = absurd (false≢true e)
unquoted_some (b ∷ bs) e = some_byte (length (b ∷ bs)) (omega arith)

pub plain_is_name : (name : List ℕ) → is_plain_name name ≡ true → is_name name ≡ true
plain_is_name name e =
    let both = and_parts (is_unquoted name && nat_le (length name) 4096) (not (is_reserved name)) e in
    let first = and_parts (is_unquoted name) (nat_le (length name) 4096) both.0 in
    and_from (nat_lt 0 (length name) && nat_le (length name) 4096) (list_all (λ byte. not (byte == 0)) name)
    (and_from (nat_lt 0 (length name)) (nat_le (length name) 4096) (unquoted_some name first.0) first.1) (unquoted_nonzero name first.0)

pub plain_is_function_name : (name : List ℕ) → is_plain_name name ≡ true → is_function_name name ≡ true
plain_is_function_name name e =
    let both = and_parts (is_unquoted name && nat_le (length name) 4096) (not (is_reserved name)) e in
    and_from (is_name name) (not (is_reserved name)) (plain_is_name name e) both.1

-- the same fact of a list of bytes as a record
above_zero : (n : ℕ) → nat_lt 0 n ≡ true → 0 < n
above_zero n e = grind (arith, nat_tests, e)

pub at_most : (n most : ℕ) → nat_le n most ≡ true → n ≤ most
at_most n most e = grind (arith, nat_tests, e)

differ : (b : ℕ) → not (b == 0) ≡ true → b ≢ 0
differ b e f = absurd (false≢true (sym (ap not ((Decides-eqb b 0).1 f)) ∙ e))

none_zero : (bs : List ℕ) → list_all (λ byte. not (byte == 0)) bs ≡ true → All (λ byte. byte ≢ 0) bs
none_zero bs e k d within = differ _ (AllPass-from_list_all (λ byte. not (byte == 0)) bs e k d within)

pub name_is : (name : List ℕ) → is_name name ≡ true → IsName name
name_is name e =
    let both = and_parts (nat_lt 0 (length name) && nat_le (length name) 4096) (list_all (λ byte. not (byte == 0)) name) e in
    let first = and_parts (nat_lt 0 (length name)) (nat_le (length name) 4096) both.0 in
    record { not_empty = above_zero (length name) first.0; short = at_most (length name) 4096 first.1; no_zero = none_zero name both.1 }
