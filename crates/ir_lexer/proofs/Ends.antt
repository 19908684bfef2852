-- A token before a byte that ends tokens is found as it was written.
use Rattle.std.proofs.Common.{◌≡◌, ℕ, zero, suc, ◌+◌, ◌-◌, ◌<◌, ◌≤◌, Bool, true, false, not, ◌&&◌, ◌||◌, ◌⊎◌, List, [], ◌∷◌, ◌++◌, length, take, drop, get_or, eqb, refl, sym, ap, subst, ◌∙◌, ⊎_elim, inl, inr, arith, Option, Some, None, length-append}
use Rattle.std.proofs.lemmas.Bool.{and_from, and_parts, or_cases, or_left, or_right, eqb-true, eq-eqb, ne_eqb, false≢true, both_ways, false_from_ne_true, cases_lt}
use Rattle.std.proofs.lemmas.List.{take_all, take_at, take-append-le, get_or_at, get_or_append_left}
use Rattle.std.specs.List.{list_all, list_any, prefix_len}
use Rattle.std.specs.Char.{is_ascii_digit}
use Rattle.ir_lexer.specs.declared.token.Kind.{Kind}
use Rattle.ir_lexer.specs.declared.token.Kind.TheVariants as kinds
use Rattle.ir_lexer.specs.declared.class.Class.{Class}
use Rattle.ir_lexer.specs.declared.class.Class.TheVariants as classes
use Rattle.ir_lexer.specs.Signs.{is_blank, begins_word, begins_name, is_name_byte, is_meta_byte, is_mark}
use Rattle.ir_lexer.specs.Spelled.{headed, after, is_quoted, is_run, is_name, is_decimal, is_integer, has, is_label, is_word, is_one_mark, is_spelled}
use Rattle.ir_lexer.specs.Written.{is_end, IsEnd, MayFollow}
use Rattle.ir_lexer.specs.Mirrors.Front.{class_of, with_sign, behind, quoted_len, name_len, integer_len, c_string_len, is_labelled, sized, quoted, lettered, numbered, front_of, front}
use Rattle.ir_lexer.proofs.Runs.{by_test}
use Rattle.ir_lexer.proofs.Lengths.{Measures, quoted_measures, quoted_only, with_sign_of, run_measures, headed_first}
use Rattle.ir_lexer.proofs.Names.{name_measures, name_quoted, name_plain, name_decimal, integer_signed, integer_plain, minus_is_name, quote_is_no_digit, minus_is_no_digit, quoted_first, decimal_first, run_first, name_from_begin, name_from_digit, begin_from_word, digit_begins_no_name, digit_is_no, has_tells, has_from, IsLabelOf, label_tells}
use Rattle.ir_lexer.proofs.Fronts.{sized_of, no_zero, class_at, class_letter, class_signs, class_mark, class_integer, name_class, c_begins, word_begins, mark_tells, c_string_beats, c_string_shape, c_string_run, any_tells, reach_label, reach, AllOf}

-- what no token goes on with

-- the next byte, where there is one, doesn't pass
abbrev Stops : (ℕ → Bool) → List ℕ → Type 0
Stops p [] = Unit {0}
Stops p (b ∷ bs) = p b ≡ false

end_tells : (P : ℕ → Type 0) (b : ℕ) → is_end b ≡ true → AllOf P (32 ∷ 9 ∷ 13 ∷ 10 ∷ 61 ∷ 44 ∷ 42 ∷ 40 ∷ 41 ∷ 91 ∷ 93 ∷ 123 ∷ 125 ∷ 60 ∷ 62 ∷ 124 ∷ 43 ∷ 58 ∷ 94 ∷ []) → P b
unfolding is_end is_blank is_mark
end_tells P b h all = ⊎_elim
    (λ blank. ⊎_elim
    (λ h. ⊎_elim
    (λ h. ⊎_elim (λ h. subst P (sym (eqb-true b 32 h)) all.0) (λ h. subst P (sym (eqb-true b 9 h)) all.1.0) (or_cases (eqb b 32) (eqb b 9) h))
    (λ h. subst P (sym (eqb-true b 13 h)) all.1.1.0)
    (or_cases (eqb b 32 || eqb b 9) (eqb b 13) h))
    (λ h. subst P (sym (eqb-true b 10 h)) all.1.1.1.0)
    (or_cases (eqb b 32 || eqb b 9 || eqb b 13) (eqb b 10) blank))
    (λ mark. any_tells P b (61 ∷ 44 ∷ 42 ∷ 40 ∷ 41 ∷ 91 ∷ 93 ∷ 123 ∷ 125 ∷ 60 ∷ 62 ∷ 124 ∷ 43 ∷ 58 ∷ 94 ∷ []) (and_parts _ (not (eqb b 58)) mark).0 all.1.1.1.1)
    (or_cases (is_blank b) (is_mark b && not (eqb b 58)) h)

end_stops_names : (rest : List ℕ) → IsEnd rest → Stops is_name_byte rest
unfolding is_name_byte begins_name begins_word
end_stops_names [] end = tt
end_stops_names (b ∷ bs) end = end_tells (λ x. is_name_byte x ≡ false) b end (refl, (refl, (refl, (refl, (refl, (refl, (refl, (refl, (refl, (refl, (refl, (refl, (refl, (refl, (refl, (refl, (refl, (refl, (refl, tt)))))))))))))))))))

end_stops_meta : (rest : List ℕ) → IsEnd rest → Stops is_meta_byte rest
unfolding is_meta_byte is_name_byte begins_name begins_word
end_stops_meta [] end = tt
end_stops_meta (b ∷ bs) end = end_tells (λ x. is_meta_byte x ≡ false) b end (refl, (refl, (refl, (refl, (refl, (refl, (refl, (refl, (refl, (refl, (refl, (refl, (refl, (refl, (refl, (refl, (refl, (refl, (refl, tt)))))))))))))))))))

end_stops_digits : (rest : List ℕ) → IsEnd rest → Stops is_ascii_digit rest
end_stops_digits [] end = tt
end_stops_digits (b ∷ bs) end = end_tells (λ x. is_ascii_digit x ≡ false) b end (refl, (refl, (refl, (refl, (refl, (refl, (refl, (refl, (refl, (refl, (refl, (refl, (refl, (refl, (refl, (refl, (refl, (refl, (refl, tt)))))))))))))))))))

no_ends : (is_end 58 ≡ false) × (is_end 34 ≡ false)
unfolding is_end is_blank is_mark
no_ends = (refl, refl)

-- the byte behind the text ends tokens
end_at : (text rest : List ℕ) → IsEnd rest → length text < length (text ++ rest) → is_end (get_or (text ++ rest) (length text) 0) ≡ true
end_at text [] end lt = absurd (omega (arith, length-append text []))
end_at text (b ∷ bs) end lt = ap is_end (get_or_at text b bs 0 (length text) refl) ∙ end

no_colon : (text rest : List ℕ) → IsEnd rest → has (text ++ rest) (length text) 58 ≡ false
no_colon text rest end = false_from_ne_true _ (λ h.
    let at = has_tells (text ++ rest) (length text) 58 h in
    both_ways _ no_ends.0 (sym (ap is_end at.1) ∙ end_at text rest end at.0))

-- how long parts of tokens are with the end behind them

steady_run : (p : ℕ → Bool) (text rest : List ℕ) → list_all p text ≡ true → Stops p rest → prefix_len p (text ++ rest) ≡ length text
steady_run p [] [] all stops = refl
steady_run p [] (b ∷ bs) all stops = rw stops refl
steady_run p (x ∷ xs) rest all stops =
    let parts = and_parts (p x) _ all in
    let more : prefix_len p (xs ++ rest) ≡ length xs = steady_run p xs rest parts.1 stops in
    rw parts.0 (omega arith)

steady_headed : (first p : ℕ → Bool) (text rest : List ℕ) → ((b : ℕ) → first b ≡ true → p b ≡ true) → headed first p text ≡ true → Stops p rest → prefix_len p (text ++ rest) ≡ length text
steady_headed first p [] rest within passes stops = absurd (false≢true passes)
steady_headed first p (x ∷ xs) rest within passes stops =
    let parts = and_parts (first x) _ passes in
    steady_run p (x ∷ xs) rest (and_from (p x) _ (within x parts.0) parts.1) stops

whole : (xs : List ℕ) → take (length xs) xs ≡ xs
whole xs = take_all (length xs) xs (omega arith)

steady_quoted : (text rest : List ℕ) → is_quoted text ≡ true → quoted_len (text ++ rest) ≡ length text
steady_quoted text rest passes =
    let front_is : take (length text) (text ++ rest) ≡ text = take_at text rest (length text) refl in
    sym (quoted_only (text ++ rest) (length text) (omega (arith, length-append text rest)) (ap is_quoted front_is ∙ passes))

steady_decimal : (text rest : List ℕ) → is_decimal text ≡ true → IsEnd rest → prefix_len is_ascii_digit (text ++ rest) ≡ length text
unfolding is_decimal
steady_decimal text rest passes end = steady_headed is_ascii_digit is_ascii_digit text rest (λ b h. h) passes (end_stops_digits rest end)

steady_names : (text rest : List ℕ) → is_run text ≡ true → IsEnd rest → prefix_len is_name_byte (text ++ rest) ≡ length text
unfolding is_run
steady_names text rest passes end = steady_headed is_name_byte is_name_byte text rest (λ b h. h) passes (end_stops_names rest end)

steady_name : (text rest : List ℕ) → is_name text ≡ true → IsEnd rest → name_len (text ++ rest) ≡ length text
unfolding is_name is_decimal is_quoted
steady_name [] rest passes end = absurd (false≢true passes)
steady_name (x ∷ xs) rest passes end = ⊎_elim
    (λ unquoted. ⊎_elim
    (λ plain.
    let first = (and_parts (begins_name x) _ plain).0 in
    name_plain x (xs ++ rest) first ∙ steady_headed begins_name is_name_byte (x ∷ xs) rest name_from_begin plain (end_stops_names rest end))
    (λ decimal.
    let first = (and_parts (is_ascii_digit x) _ decimal).0 in
    name_decimal x (xs ++ rest) (digit_is_no x 34 first quote_is_no_digit) (digit_begins_no_name x first) ∙ steady_decimal (x ∷ xs) rest decimal end)
    (or_cases (headed begins_name is_name_byte (x ∷ xs)) (is_decimal (x ∷ xs)) unquoted))
    (λ quoted. name_quoted x (xs ++ rest) (and_parts (eqb x 34) _ quoted).0 ∙ steady_quoted (x ∷ xs) rest quoted)
    (or_cases (headed begins_name is_name_byte (x ∷ xs) || is_decimal (x ∷ xs)) (is_quoted (x ∷ xs)) passes)

list_wider : (p q : ℕ → Bool) → ((b : ℕ) → p b ≡ true → q b ≡ true) → (xs : List ℕ) → list_all p xs ≡ true → list_all q xs ≡ true
list_wider p q wider [] all = refl
list_wider p q wider (x ∷ xs) all = let parts = and_parts (p x) _ all in and_from (q x) _ (wider x parts.0) (list_wider p q wider xs parts.1)

decimal_names : (xs : List ℕ) → is_decimal xs ≡ true → list_all is_name_byte xs ≡ true
unfolding is_decimal
decimal_names [] passes = refl
decimal_names (x ∷ xs) passes = list_wider is_ascii_digit is_name_byte name_from_digit (x ∷ xs) passes

integer_names : (xs : List ℕ) → is_integer xs ≡ true → list_all is_name_byte xs ≡ true
unfolding is_integer
integer_names [] passes = refl
integer_names (x ∷ xs) passes = ⊎_elim
    (λ decimal. decimal_names (x ∷ xs) decimal)
    (λ signed.
    let parts = and_parts (eqb x 45) _ signed in
    and_from (is_name_byte x) _ (ap is_name_byte (eqb-true x 45 parts.0) ∙ minus_is_name) (decimal_names xs parts.1))
    (or_cases (is_decimal (x ∷ xs)) _ passes)

decimal_some : (xs : List ℕ) → is_decimal xs ≡ true → 0 < length xs
unfolding is_decimal
decimal_some [] passes = absurd (false≢true passes)
decimal_some (x ∷ xs) passes = omega arith

steady_integer : (text rest : List ℕ) → is_integer text ≡ true → IsEnd rest → integer_len (text ++ rest) ≡ length text
unfolding is_integer is_decimal
steady_integer [] rest passes end = absurd (false≢true passes)
steady_integer (x ∷ xs) rest passes end = ⊎_elim
    (λ decimal. integer_plain x (xs ++ rest) (digit_is_no x 45 (and_parts (is_ascii_digit x) _ decimal).0 minus_is_no_digit) ∙ steady_decimal (x ∷ xs) rest decimal end)
    (λ signed.
    let parts = and_parts (eqb x 45) _ signed in
    let e : prefix_len is_ascii_digit (xs ++ rest) ≡ length xs = steady_decimal xs rest parts.1 end in
    let n : 0 < length xs = decimal_some xs parts.1 in
    integer_signed x (xs ++ rest) parts.0 ∙ rw (parts.0, e) (with_sign_of (length xs) n))
    (or_cases (is_decimal (x ∷ xs)) (after 45 is_decimal (x ∷ xs)) passes)

-- each kind

front_class : (b : ℕ) (bs : List ℕ) (c : Class) → class_of b ≡ c → front (b ∷ bs) ≡ front_of c (b ∷ bs) bs
front_class b bs c e = ap (λ d. front_of d (b ∷ bs) bs) e

sized_signed : (kind : Kind) (len n : ℕ) → len ≡ n → 0 < n → sized kind (with_sign len) ≡ Some (kind, suc n)
sized_signed kind len n e some = ap (λ k. sized kind (with_sign k)) e ∙ ap (sized kind) (with_sign_of n some) ∙ sized_of kind (suc n) (omega arith)

some_of : (test : List ℕ → Bool) (len : List ℕ → ℕ) → Measures test len → (xs : List ℕ) → test xs ≡ true → 0 < length xs
some_of test len measures xs passes = measures.some xs (length xs) (omega arith) (ap test (whole xs) ∙ passes)

stays_string : (text rest : List ℕ) → is_quoted text ≡ true → IsEnd rest → quoted (text ++ rest) ≡ Some (kinds.Str, length text)
unfolding quoted
stays_string text rest passes end =
    let e : quoted_len (text ++ rest) ≡ length text = steady_quoted text rest passes in
    let more : eqb (length text) 0 ≡ false = no_zero _ (some_of is_quoted quoted_len quoted_measures text passes) in
    let none : has (text ++ rest) (length text) 58 ≡ false = no_colon text rest end in
    rw (e, more, none) refl

stays_integer : (text rest : List ℕ) → is_integer text ≡ true → IsEnd rest → 0 < length text → numbered (text ++ rest) ≡ Some (kinds.Int, length text)
unfolding numbered is_labelled
stays_integer text rest passes end some =
    let run : prefix_len is_name_byte (text ++ rest) ≡ length text = steady_run is_name_byte text rest (integer_names text passes) (end_stops_names rest end) in
    let none : has (text ++ rest) (length text) 58 ≡ false = no_colon text rest end in
    let e : integer_len (text ++ rest) ≡ length text = steady_integer text rest passes end in
    rw (run, none, e) (sized_of kinds.Int (length text) some)

no_c_string : (text rest : List ℕ) → prefix_len is_name_byte (text ++ rest) ≡ length text → IsEnd rest → c_string_len (text ++ rest) ≡ 0
no_c_string text rest run end = ⊎_elim
    (λ some.
    let shape = c_string_shape (text ++ rest) some in
    let ys : List ℕ = shape.0 in
    let e : text ++ rest ≡ 99 ∷ 34 ∷ ys = shape.1 in
    absurd (both_ways _ no_ends.1 (second text rest ys e run end)))
    (λ le. omega arith)
    (cases_lt 0 (c_string_len (text ++ rest)))
  where
    second : (text rest ys : List ℕ) → text ++ rest ≡ 99 ∷ 34 ∷ ys → prefix_len is_name_byte (text ++ rest) ≡ length text → IsEnd rest → is_end 34 ≡ true
    second text rest ys e run end =
        let one : length text ≡ 1 = sym run ∙ ap (prefix_len is_name_byte) e ∙ (c_string_run ys).0 in
        let lt : length text < length (text ++ rest) = omega (arith, ap length e) in
        let byte : get_or (text ++ rest) (length text) 0 ≡ 34 = ap (λ n. get_or (text ++ rest) n 0) one ∙ ap (λ xs. get_or xs 1 0) e in
        sym (ap is_end byte) ∙ end_at text rest end lt

stays_word : (text rest : List ℕ) → is_word text ≡ true → IsEnd rest → lettered (text ++ rest) ≡ Some (kinds.Word, length text)
unfolding lettered is_labelled is_word
stays_word text rest passes end =
    let run : prefix_len is_name_byte (text ++ rest) ≡ length text = steady_headed begins_word is_name_byte text rest (λ b h. name_from_begin b (begin_from_word b h)) passes (end_stops_names rest end) in
    let none : has (text ++ rest) (length text) 58 ≡ false = no_colon text rest end in
    let c : eqb (c_string_len (text ++ rest)) 0 ≡ true = eq-eqb _ 0 (no_c_string text rest run end) in
    rw (run, none, c) refl

stays_c_string : (b : ℕ) (bs rest : List ℕ) → after 99 is_quoted (b ∷ bs) ≡ true → lettered ((b ∷ bs) ++ rest) ≡ Some (kinds.CStr, length (b ∷ bs))
unfolding lettered c_string_len
stays_c_string b bs rest passes =
    let parts = and_parts (eqb b 99) _ passes in
    let inner : quoted_len (bs ++ rest) ≡ length bs = steady_quoted bs rest parts.1 in
    let some : 0 < length bs = some_of is_quoted quoted_len quoted_measures bs parts.1 in
    let long : c_string_len ((b ∷ bs) ++ rest) ≡ suc (length bs) = rw (parts.0, inner) (with_sign_of (length bs) some) in
    let no_label : is_labelled ((b ∷ bs) ++ rest) ≡ false = (c_string_beats ((b ∷ bs) ++ rest) (omega (arith, long))).1 in
    let more : eqb (suc (length bs)) 0 ≡ false = no_zero _ (omega arith) in
    rw (no_label, long, more) refl

-- the label of a text is the label of what begins with it
label_stays : (text rest : List ℕ) (n : ℕ) → n < length text → IsLabelOf text n → IsLabelOf (text ++ rest) n
label_stays text rest n lt label =
    let at = has_tells text n 58 label.colon in
    let same : take n (text ++ rest) ≡ take n text = take-append-le n text rest (omega arith) in
    record {
      colon = has_from (text ++ rest) n 58 (omega (arith, length-append text rest)) (get_or_append_left text rest 0 n lt ∙ at.1);
      front = ⊎_elim (λ run. inl (ap is_run same ∙ run)) (λ quote. inr (ap is_quoted same ∙ quote)) label.front;
    }

front_label : (b : ℕ) (bs : List ℕ) (n : ℕ) → n < length (b ∷ bs) → IsLabelOf (b ∷ bs) n → front (b ∷ bs) ≡ Some (kinds.Label, suc n)
unfolding quoted lettered numbered
front_label b bs n lt label = ⊎_elim
    (λ run.
    let there = reach_label (b ∷ bs) n label.colon run in
    ⊎_elim
    (λ letter. front_class b bs classes.Letter letter ∙ rw there.1 (ap (λ k. Some (kinds.Label, suc k)) (sym there.0)))
    (λ number. front_class b bs classes.Number number ∙ rw there.1 (ap (λ k. Some (kinds.Label, suc k)) (sym there.0)))
    (name_class b (run_first b bs n run).1))
    (λ quote.
    let e : quoted_len (b ∷ bs) ≡ n = sym (quoted_only (b ∷ bs) n (omega arith) quote) in
    let some = quoted_measures.some (b ∷ bs) n (omega arith) quote in
    let more : eqb n 0 ≡ false = no_zero _ some in
    let colon = label.colon in
    front_class b bs classes.Quote (class_at b 34 classes.Quote (quoted_first b bs n quote) class_signs.4) ∙ rw (e, more, colon) refl)
    label.front

nothing : (kind : Kind) → is_spelled kind [] ≡ true → ⊥
nothing kind passes = reach [] kind 0 (omega arith) passes

stays_some : (b : ℕ) (bs rest : List ℕ) (kind : Kind) → is_spelled kind (b ∷ bs) ≡ true → MayFollow kind rest → front ((b ∷ bs) ++ rest) ≡ Some (kind, length (b ∷ bs))
unfolding is_run is_one_mark
stays_some b bs rest kinds.AtName passes end =
    let parts = and_parts (eqb b 64) _ passes in
    front_class b (bs ++ rest) classes.At (class_at b 64 classes.At parts.0 class_signs.0)
    ∙ sized_signed kinds.AtName (name_len (bs ++ rest)) (length bs) (steady_name bs rest parts.1 end) (some_of is_name name_len name_measures bs parts.1)
stays_some b bs rest kinds.LocalName passes end =
    let parts = and_parts (eqb b 37) _ passes in
    front_class b (bs ++ rest) classes.Percent (class_at b 37 classes.Percent parts.0 class_signs.1)
    ∙ sized_signed kinds.LocalName (name_len (bs ++ rest)) (length bs) (steady_name bs rest parts.1 end) (some_of is_name name_len name_measures bs parts.1)
stays_some b bs rest kinds.Hash passes end =
    let parts = and_parts (eqb b 35) _ passes in
    front_class b (bs ++ rest) classes.Hash (class_at b 35 classes.Hash parts.0 class_signs.2)
    ∙ sized_signed kinds.Hash (prefix_len is_name_byte (bs ++ rest)) (length bs) (steady_names bs rest parts.1 end) (some_of is_run (prefix_len is_name_byte) run_measures bs parts.1)
stays_some b bs rest kinds.Meta passes end =
    let parts = and_parts (eqb b 33) _ passes in
    front_class b (bs ++ rest) classes.Bang (class_at b 33 classes.Bang parts.0 class_signs.3)
    ∙ ap (λ n. Some (kinds.Meta, suc n)) (steady_run is_meta_byte bs rest parts.1 (end_stops_meta rest end))
stays_some b bs rest kinds.Str passes end =
    let first = quoted_first b bs (length (b ∷ bs)) (ap is_quoted (whole (b ∷ bs)) ∙ passes) in
    front_class b (bs ++ rest) classes.Quote (class_at b 34 classes.Quote first class_signs.4) ∙ stays_string (b ∷ bs) rest passes end
stays_some b bs rest kinds.CStr passes end =
    let first = c_begins b bs (length (b ∷ bs)) (ap (after 99 is_quoted) (whole (b ∷ bs)) ∙ passes) in
    front_class b (bs ++ rest) classes.Letter (class_letter b first) ∙ stays_c_string b bs rest passes
stays_some b bs rest kinds.Label passes end =
    let parts = label_tells (b ∷ bs) (length (b ∷ bs)) (omega arith) (ap is_label (whole (b ∷ bs)) ∙ passes) in
    let lt : parts.0 < length (b ∷ bs) = omega (arith, parts.1) in
    front_label b (bs ++ rest) parts.0 (omega (arith, length-append bs rest)) (label_stays (b ∷ bs) rest parts.0 lt parts.2)
    ∙ ap (λ n. Some (kinds.Label, n)) (sym parts.1)
stays_some b bs rest kinds.Word passes end =
    let first = word_begins b bs (length (b ∷ bs)) (ap is_word (whole (b ∷ bs)) ∙ passes) in
    front_class b (bs ++ rest) classes.Letter (class_letter b first) ∙ stays_word (b ∷ bs) rest passes end
stays_some b bs rest kinds.Int passes end =
    let number = class_integer b bs (length (b ∷ bs)) (ap is_integer (whole (b ∷ bs)) ∙ passes) in
    front_class b (bs ++ rest) classes.Number number ∙ stays_integer (b ∷ bs) rest passes end (omega arith)
stays_some b bs rest kinds.Mark passes end =
    let mark = mark_tells b bs (length (b ∷ bs)) (omega arith) (ap is_one_mark (whole (b ∷ bs)) ∙ passes) in
    front_class b (bs ++ rest) classes.Mark (class_mark b mark.0) ∙ ap (λ n. Some (kinds.Mark, n)) (sym mark.1)

-- what was written is found
pub stays : (text rest : List ℕ) (kind : Kind) → is_spelled kind text ≡ true → MayFollow kind rest → front (text ++ rest) ≡ Some (kind, length text)
stays [] rest kind passes end = absurd (nothing kind passes)
stays (b ∷ bs) rest kind passes end = stays_some b bs rest kind passes end
