-- Names behind a sign, integers and labels: how long they are, against their spelling.
use Rattle.std.proofs.Common.{◌≡◌, ℕ, zero, suc, ◌+◌, ◌-◌, ◌<◌, ◌≤◌, Bool, true, false, ◌&&◌, ◌||◌, ◌⊎◌, List, [], ◌∷◌, length, take, drop, get_or, eqb, ltb, refl, sym, ap, subst, ◌∙◌, ⊎_elim, inl, inr, arith, take-take, length-take-le, get_or-take, get_or-drop, length-drop}
use Rattle.std.proofs.lemmas.Bool.{and_from, and_parts, or_cases, or_left, or_right, cases_lt, eqb-true, eq-eqb, lt-ltb, ltb-true, ne_eqb, false≢true, both_ways}
use Rattle.std.proofs.lemmas.Bool.Decides.{nat_tests}
use Rattle.std.proofs.lemmas.List.Sums.{prefix_len-le-length, prefix_len_passes}
use Rattle.std.specs.List.{prefix_len}
use Rattle.std.specs.Char.{is_ascii_digit}
use Rattle.ir_lexer.specs.Signs.{begins_word, begins_name, is_name_byte}
use Rattle.ir_lexer.specs.Spelled.{headed, after, is_quoted, is_decimal, is_run, is_name, is_integer, has, is_label}
use Rattle.ir_lexer.specs.Mirrors.Front.{behind, quoted_len, name_len, integer_len, is_labelled}
use Rattle.ir_lexer.proofs.Runs.{by_test, run_rest}
use Rattle.ir_lexer.proofs.Lengths.{Measures, quoted_measures, run_measures, decimal_measures, signed_integer_measures, begun, headed_first, headed_most}

-- bytes

pub name_from_begin : (b : ℕ) → begins_name b ≡ true → is_name_byte b ≡ true
unfolding is_name_byte
name_from_begin b h = or_left _ _ h

pub name_from_digit : (b : ℕ) → is_ascii_digit b ≡ true → is_name_byte b ≡ true
unfolding is_name_byte
name_from_digit b h = or_right _ _ h

pub begin_from_word : (b : ℕ) → begins_word b ≡ true → begins_name b ≡ true
unfolding begins_name
begin_from_word b h = or_left _ _ h

pub digit_begins_no_word : (b : ℕ) → is_ascii_digit b ≡ true → begins_word b ≡ false
unfolding begins_word
digit_begins_no_word b h = grind (arith, nat_tests)

pub digit_begins_no_name : (b : ℕ) → is_ascii_digit b ≡ true → begins_name b ≡ false
unfolding begins_name begins_word
digit_begins_no_name b h = grind (arith, nat_tests)

pub digit_is_no : (b : ℕ) (sign : ℕ) → is_ascii_digit b ≡ true → is_ascii_digit sign ≡ false → eqb b sign ≡ false
digit_is_no b sign h g = ne_eqb b sign (λ e. both_ways _ g (subst (λ x. is_ascii_digit x ≡ true) e h))

pub begin_is_no : (b : ℕ) (sign : ℕ) → begins_name b ≡ true → begins_name sign ≡ false → eqb b sign ≡ false
begin_is_no b sign h g = ne_eqb b sign (λ e. both_ways _ g (subst (λ x. begins_name x ≡ true) e h))

pub colon_is_no_name : is_name_byte 58 ≡ false
unfolding is_name_byte begins_name begins_word
colon_is_no_name = refl

pub quote_is_no_name : is_name_byte 34 ≡ false
unfolding is_name_byte begins_name begins_word
quote_is_no_name = refl

quote_begins_no_name : begins_name 34 ≡ false
unfolding begins_name begins_word
quote_begins_no_name = refl

-- names

pub name_quoted : (x : ℕ) (xs : List ℕ) → eqb x 34 ≡ true → name_len (x ∷ xs) ≡ quoted_len (x ∷ xs)
unfolding name_len quoted_len
name_quoted x xs quote = rw quote refl

pub name_plain : (x : ℕ) (xs : List ℕ) → begins_name x ≡ true → name_len (x ∷ xs) ≡ prefix_len is_name_byte (x ∷ xs)
unfolding name_len
name_plain x xs begins = let no : eqb x 34 ≡ false = begin_is_no x 34 begins quote_begins_no_name in rw (no, begins) refl

pub name_decimal : (x : ℕ) (xs : List ℕ) → eqb x 34 ≡ false → begins_name x ≡ false → name_len (x ∷ xs) ≡ prefix_len is_ascii_digit (x ∷ xs)
unfolding name_len
name_decimal x xs other none = rw (other, none) refl

name_within : (xs : List ℕ) → name_len xs ≤ length xs
unfolding name_len
name_within [] = omega arith
name_within (x ∷ xs) = by_test (eqb x 34)
    (λ quote. let P : ℕ → Type 0 = λ n. n ≤ length (x ∷ xs) in subst P (sym (name_quoted x xs quote)) (quoted_measures.within (x ∷ xs)))
    (λ no. by_test (begins_name x)
    (λ begins. let P : ℕ → Type 0 = λ n. n ≤ length (x ∷ xs) in subst P (sym (name_plain x xs begins)) (prefix_len-le-length is_name_byte (x ∷ xs)))
    (λ none. let P : ℕ → Type 0 = λ n. n ≤ length (x ∷ xs) in subst P (sym (name_decimal x xs no none)) (prefix_len-le-length is_ascii_digit (x ∷ xs))))

name_found : (xs : List ℕ) → 0 < name_len xs → is_name (take (name_len xs) xs) ≡ true
unfolding is_name name_len
name_found [] some = absurd (omega arith)
name_found (x ∷ xs) some = by_test (eqb x 34)
    (λ quote.
    let P : ℕ → Type 0 = λ n. is_name (take n (x ∷ xs)) ≡ true in
    let e = name_quoted x xs quote in
    let n : 0 < quoted_len (x ∷ xs) = omega (arith, e) in
    subst P (sym e) (or_right _ _ (quoted_measures.found (x ∷ xs) n)))
    (λ no. by_test (begins_name x)
    (λ begins.
    let P : ℕ → Type 0 = λ n. is_name (take n (x ∷ xs)) ≡ true in
    subst P (sym (name_plain x xs begins)) (or_left _ _ (or_left _ _ (begun begins_name is_name_byte x xs begins (name_from_begin x begins)).1)))
    (λ none.
    let P : ℕ → Type 0 = λ n. is_name (take n (x ∷ xs)) ≡ true in
    let e = name_decimal x xs no none in
    let n : 0 < prefix_len is_ascii_digit (x ∷ xs) = omega (arith, e) in
    subst P (sym e) (or_left _ _ (or_right _ _ (decimal_measures.found (x ∷ xs) n)))))

-- a quoted string begins with a quote
pub quoted_first : (x : ℕ) (xs : List ℕ) (m : ℕ) → is_quoted (take m (x ∷ xs)) ≡ true → eqb x 34 ≡ true
unfolding is_quoted
quoted_first x xs zero passes = absurd (false≢true passes)
quoted_first x xs (suc m) passes = (and_parts (eqb x 34) _ passes).0

pub decimal_first : (x : ℕ) (xs : List ℕ) (m : ℕ) → is_decimal (take m (x ∷ xs)) ≡ true → (0 < m) × (is_ascii_digit x ≡ true)
unfolding is_decimal
decimal_first x xs m passes = headed_first is_ascii_digit is_ascii_digit x xs m passes

pub run_first : (x : ℕ) (xs : List ℕ) (m : ℕ) → is_run (take m (x ∷ xs)) ≡ true → (0 < m) × (is_name_byte x ≡ true)
unfolding is_run
run_first x xs m passes = headed_first is_name_byte is_name_byte x xs m passes

pub quote_is_no_digit : is_ascii_digit 34 ≡ false
quote_is_no_digit = refl

name_most : (xs : List ℕ) (m : ℕ) → m ≤ length xs → is_name (take m xs) ≡ true → (0 < m) × (m ≤ name_len xs)
unfolding is_name is_decimal is_quoted
name_most xs zero le passes = absurd (false≢true passes)
name_most [] (suc m) le passes = absurd (omega arith)
name_most (x ∷ xs) (suc m) le passes = (
  omega arith,
  ⊎_elim
      (λ unquoted. ⊎_elim
      (λ plain.
      let first = headed_first begins_name is_name_byte x xs (suc m) plain in
      let bound : suc m ≤ prefix_len is_name_byte (x ∷ xs) = headed_most begins_name is_name_byte name_from_begin (x ∷ xs) (suc m) le plain in
      omega (arith, name_plain x xs first.1, bound))
      (λ decimal.
      let first = decimal_first x xs (suc m) decimal in
      let bound = decimal_measures.most (x ∷ xs) (suc m) le decimal in
      omega (arith, name_decimal x xs (digit_is_no x 34 first.1 quote_is_no_digit) (digit_begins_no_name x first.1), bound))
      (or_cases (headed begins_name is_name_byte (take (suc m) (x ∷ xs))) (is_decimal (take (suc m) (x ∷ xs))) unquoted))
      (λ quoted. omega (arith, name_quoted x xs (quoted_first x xs (suc m) quoted), quoted_measures.most (x ∷ xs) (suc m) le quoted))
      (or_cases (headed begins_name is_name_byte (take (suc m) (x ∷ xs)) || is_decimal (take (suc m) (x ∷ xs))) (is_quoted (take (suc m) (x ∷ xs))) passes),
)

pub name_measures : Measures is_name name_len
name_measures = record {
  within = name_within;
  found = name_found;
  some = λ xs m le passes. (name_most xs m le passes).0;
  most = λ xs m le passes. (name_most xs m le passes).1;
}

-- integers

pub integer_signed : (x : ℕ) (xs : List ℕ) → eqb x 45 ≡ true → integer_len (x ∷ xs) ≡ behind 45 (prefix_len is_ascii_digit) (x ∷ xs)
unfolding integer_len
integer_signed x xs minus = rw minus refl

pub integer_plain : (x : ℕ) (xs : List ℕ) → eqb x 45 ≡ false → integer_len (x ∷ xs) ≡ prefix_len is_ascii_digit (x ∷ xs)
unfolding integer_len
integer_plain x xs other = rw other refl

integer_within : (xs : List ℕ) → integer_len xs ≤ length xs
unfolding integer_len
integer_within [] = omega arith
integer_within (x ∷ xs) = by_test (eqb x 45)
    (λ minus. omega (arith, integer_signed x xs minus, signed_integer_measures.within (x ∷ xs)))
    (λ no. omega (arith, integer_plain x xs no, prefix_len-le-length is_ascii_digit (x ∷ xs)))

integer_found : (xs : List ℕ) → 0 < integer_len xs → is_integer (take (integer_len xs) xs) ≡ true
unfolding is_integer integer_len
integer_found [] some = absurd (omega arith)
integer_found (x ∷ xs) some = by_test (eqb x 45)
    (λ minus.
    let P : ℕ → Type 0 = λ n. is_integer (take n (x ∷ xs)) ≡ true in
    let e = integer_signed x xs minus in
    let n : 0 < behind 45 (prefix_len is_ascii_digit) (x ∷ xs) = omega (arith, e) in
    subst P (sym e) (or_right _ _ (signed_integer_measures.found (x ∷ xs) n)))
    (λ no.
    let P : ℕ → Type 0 = λ n. is_integer (take n (x ∷ xs)) ≡ true in
    let e = integer_plain x xs no in
    let n : 0 < prefix_len is_ascii_digit (x ∷ xs) = omega (arith, e) in
    subst P (sym e) (or_left _ _ (decimal_measures.found (x ∷ xs) n)))

pub minus_is_no_digit : is_ascii_digit 45 ≡ false
minus_is_no_digit = refl

-- an integer begins with a digit or -
pub integer_first : (x : ℕ) (xs : List ℕ) (m : ℕ) → is_integer (take m (x ∷ xs)) ≡ true → (is_ascii_digit x ≡ true) ⊎ (eqb x 45 ≡ true)
unfolding is_integer is_decimal
integer_first x xs zero passes = absurd (false≢true passes)
integer_first x xs (suc m) passes = ⊎_elim
    (λ decimal. inl (decimal_first x xs (suc m) decimal).1)
    (λ signed. inr (and_parts (eqb x 45) _ signed).0)
    (or_cases (is_decimal (take (suc m) (x ∷ xs))) _ passes)

integer_most : (xs : List ℕ) (m : ℕ) → m ≤ length xs → is_integer (take m xs) ≡ true → (0 < m) × (m ≤ integer_len xs)
unfolding is_integer is_decimal
integer_most xs zero le passes = absurd (false≢true passes)
integer_most [] (suc m) le passes = absurd (omega arith)
integer_most (x ∷ xs) (suc m) le passes = (
  omega arith,
  ⊎_elim
      (λ decimal. omega (arith, integer_plain x xs (digit_is_no x 45 (decimal_first x xs (suc m) decimal).1 minus_is_no_digit), decimal_measures.most (x ∷ xs) (suc m) le decimal))
      (λ signed. omega (arith, integer_signed x xs (and_parts (eqb x 45) _ signed).0, signed_integer_measures.most (x ∷ xs) (suc m) le signed))
      (or_cases (is_decimal (take (suc m) (x ∷ xs))) (after 45 is_decimal (take (suc m) (x ∷ xs))) passes),
)

pub integer_measures : Measures is_integer integer_len
integer_measures = record {
  within = integer_within;
  found = integer_found;
  some = λ xs m le passes. (integer_most xs m le passes).0;
  most = λ xs m le passes. (integer_most xs m le passes).1;
}

-- an integer's bytes are bytes of names, so a run of them is no shorter
run_wider : (p q : ℕ → Bool) → ((b : ℕ) → p b ≡ true → q b ≡ true) → (xs : List ℕ) → prefix_len p xs ≤ prefix_len q xs
run_wider p q wider [] = omega arith
run_wider p q wider (x ∷ xs) = by_test (p x)
    (λ yes. let h : prefix_len p xs ≤ prefix_len q xs = run_wider p q wider xs in rw (yes, wider x yes) (omega arith))
    (λ no. rw no (omega arith))

pub minus_is_name : is_name_byte 45 ≡ true
unfolding is_name_byte begins_name begins_word
minus_is_name = refl

pub integer_in_run : (xs : List ℕ) → integer_len xs ≤ prefix_len is_name_byte xs
unfolding integer_len
integer_in_run [] = omega arith
integer_in_run (x ∷ xs) = by_test (eqb x 45)
    (λ minus.
    let h = run_wider is_ascii_digit is_name_byte name_from_digit xs in
    let name : is_name_byte x ≡ true = subst (λ b. is_name_byte b ≡ true) (sym (eqb-true x 45 minus)) minus_is_name in
    rw (minus, name) (by_test (eqb (prefix_len is_ascii_digit xs) 0) (λ none. rw none (omega arith)) (λ more. rw more (omega arith))))
    (λ no. omega (arith, integer_plain x xs no, run_wider is_ascii_digit is_name_byte name_from_digit (x ∷ xs)))

-- labels

pub has_tells : (xs : List ℕ) (n b : ℕ) → has xs n b ≡ true → (n < length xs) × (get_or xs n 0 ≡ b)
unfolding has
has_tells xs n b h = let parts = and_parts (ltb n (length xs)) _ h in (ltb-true _ _ parts.0, eqb-true _ _ parts.1)

pub has_from : (xs : List ℕ) (n b : ℕ) → n < length xs → get_or xs n 0 ≡ b → has xs n b ≡ true
unfolding has
has_from xs n b lt e = and_from _ _ (lt-ltb _ _ lt) (eq-eqb _ _ e)

-- what stands before the colon
pub record IsLabelOf (xs : List ℕ) (n : ℕ) : Type 0 where
  pub colon : has xs n 58 ≡ true
  pub front : (is_run (take n xs) ≡ true) ⊎ (is_quoted (take n xs) ≡ true)

pub label_tells : (xs : List ℕ) (m : ℕ) → m ≤ length xs → is_label (take m xs) ≡ true → (n : ℕ) × (m ≡ suc n) × IsLabelOf xs n
unfolding is_label has
label_tells xs zero le passes = absurd (false≢true passes)
label_tells xs (suc n) le passes =
    let len : length (take (suc n) xs) - 1 ≡ n = omega (arith, length-take-le (suc n) xs le) in
    let P : ℕ → Type 0 = λ k. (has (take (suc n) xs) k 58 && (is_run (take k (take (suc n) xs)) || is_quoted (take k (take (suc n) xs)))) ≡ true in
    let h : P n = subst P len passes in
    let parts = and_parts (has (take (suc n) xs) n 58) _ h in
    let colon = has_tells (take (suc n) xs) n 58 parts.0 in
    let same : take n (take (suc n) xs) ≡ take n xs = take-take n (suc n) xs (omega arith) in (
      n,
      refl,
      record {
        colon = has_from xs n 58 (omega arith) (sym (get_or-take (suc n) xs n 0 (omega arith)) ∙ colon.1);
        front = or_cases (is_run (take n xs)) (is_quoted (take n xs)) (rw same at parts.1);
      },
    )

pub label_from : (xs : List ℕ) (n : ℕ) → has xs n 58 ≡ true → (is_run (take n xs) || is_quoted (take n xs)) ≡ true → is_label (take (suc n) xs) ≡ true
unfolding is_label
label_from xs n colon front =
    let at = has_tells xs n 58 colon in
    let len : n ≡ length (take (suc n) xs) - 1 = omega (arith, length-take-le (suc n) xs (omega (arith, at.0))) in
    let P : ℕ → Type 0 = λ k. (has (take (suc n) xs) k 58 && (is_run (take k (take (suc n) xs)) || is_quoted (take k (take (suc n) xs)))) ≡ true in
    let same : take n (take (suc n) xs) ≡ take n xs = take-take n (suc n) xs (omega arith) in
    subst P len (and_from _ _
    (has_from (take (suc n) xs) n 58 (omega (arith, length-take-le (suc n) xs (omega (arith, at.0)))) (get_or-take (suc n) xs n 0 (omega arith) ∙ at.1))
    (rw same front))

-- a run with a colon behind it ends there
pub run_to_colon : (xs : List ℕ) (n : ℕ) → has xs n 58 ≡ true → is_run (take n xs) ≡ true → n ≡ prefix_len is_name_byte xs
run_to_colon xs n colon run =
    let at = has_tells xs n 58 colon in
    let most = run_measures.most xs n (omega (arith, at.0)) run in
    ⊎_elim
    (λ lt. absurd (both_ways _ colon_is_no_name (subst (λ b. is_name_byte b ≡ true) at.1 (prefix_len_passes is_name_byte xs n 0 lt))))
    (λ ge. omega arith)
    (cases_lt n (prefix_len is_name_byte xs))

-- two tests that are true together are one
same_test : (a b : Bool) → (a ≡ true → b ≡ true) → (b ≡ true → a ≡ true) → a ≡ b
same_test a b there back = by_test a
    (λ yes. yes ∙ sym (there yes))
    (λ no. by_test b (λ yes. absurd (both_ways a no (back yes))) (λ none. no ∙ sym none))

has-drop : (xs : List ℕ) (n k b : ℕ) → has (drop n xs) k b ≡ has xs (n + k) b
has-drop xs n k b = same_test _ _
    (λ h. let at = has_tells (drop n xs) k b h in has_from xs (n + k) b (omega (arith, length-drop n xs, at.0)) (sym (get_or-drop n xs k 0) ∙ at.1))
    (λ h. let at = has_tells xs (n + k) b h in has_from (drop n xs) k b (omega (arith, length-drop n xs, at.0)) (get_or-drop n xs k 0 ∙ at.1))

-- within a run the colon behind it stays where it is
pub labelled_inside : (xs : List ℕ) (n : ℕ) → n ≤ prefix_len is_name_byte xs → is_labelled (drop n xs) ≡ is_labelled xs
unfolding is_labelled
labelled_inside xs n le =
    has-drop xs n (prefix_len is_name_byte (drop n xs)) 58 ∙ ap (λ k. has xs k 58) (sym (run_rest is_name_byte xs n le))
