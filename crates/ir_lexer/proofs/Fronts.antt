-- The token at the front is spelled so, and whatever else is spelled there is no longer.
use Rattle.std.proofs.Common.{◌≡◌, ℕ, zero, suc, ◌<◌, ◌≤◌, Bool, true, false, ◌||◌, ◌⊎◌, List, [], ◌∷◌, length, take, eqb, refl, sym, ap, subst, ◌∙◌, ⊎_elim, inl, inr, arith, Option, Some, None}
use Rattle.std.proofs.lemmas.Bool.{and_from, and_parts, or_cases, or_left, or_right, and_right, cases_lt, eqb-true, eq-eqb, ne_eqb, eqb-false, false≢true, both_ways, cond_both}
use Rattle.std.proofs.lemmas.List.{take_all}
use Rattle.std.proofs.lemmas.List.Sums.{prefix_len-le-length}
use Rattle.std.specs.List.{list_all, list_any, prefix_len}
use Rattle.std.specs.Char.{is_ascii_digit}
use Rattle.ir_lexer.specs.declared.token.Kind.{Kind}
use Rattle.ir_lexer.specs.declared.token.Kind.TheVariants as kinds
use Rattle.ir_lexer.specs.declared.class.Class.{Class}
use Rattle.ir_lexer.specs.declared.class.Class.TheVariants as classes
use Rattle.ir_lexer.specs.Signs.{begins_word, begins_name, is_name_byte, is_meta_byte, is_mark}
use Rattle.ir_lexer.specs.Spelled.{after, is_quoted, is_run, is_name, is_decimal, is_integer, has, is_label, is_word, is_one_mark, is_spelled}
use Rattle.ir_lexer.specs.Mirrors.Front.{class_of, with_sign, behind, quoted_len, name_len, integer_len, c_string_len, is_labelled, sized, quoted, lettered, numbered, front_of, front}
use Rattle.ir_lexer.proofs.Runs.{by_test, run_passes, run_most}
use Rattle.ir_lexer.proofs.Lengths.{Measures, quoted_measures, quoted_only, with_sign_of, with_sign_some, c_string_measures, run_measures, begun, headed_first, headed_most, behind_measures}
use Rattle.ir_lexer.proofs.Names.{name_measures, integer_measures, integer_first, integer_in_run, quoted_first, run_first, name_from_begin, name_from_digit, begin_from_word, digit_begins_no_word, has_tells, IsLabelOf, label_tells, label_from, run_to_colon}

-- what a class says of the first byte
abbrev pub FirstIs : Class → ℕ → Type 0
FirstIs classes.Letter b = begins_word b ≡ true
FirstIs classes.Number b = (is_ascii_digit b || eqb b 45) ≡ true
FirstIs classes.At b = b ≡ 64
FirstIs classes.Percent b = b ≡ 37
FirstIs classes.Hash b = b ≡ 35
FirstIs classes.Bang b = b ≡ 33
FirstIs classes.Quote b = b ≡ 34
FirstIs classes.Mark b = is_mark b ≡ true
FirstIs classes.Other b = Unit {0}

class_tells : (b : ℕ) → FirstIs (class_of b) b
unfolding class_of
class_tells b =
    let P : Class → Type 0 = λ c. FirstIs c b in
    cond_both (begins_word b) _ _ P (λ yes. yes) (λ _.
    cond_both (is_ascii_digit b || eqb b 45) _ _ P (λ yes. yes) (λ _.
    cond_both (eqb b 64) _ _ P (λ yes. eqb-true b 64 yes) (λ _.
    cond_both (eqb b 37) _ _ P (λ yes. eqb-true b 37 yes) (λ _.
    cond_both (eqb b 35) _ _ P (λ yes. eqb-true b 35 yes) (λ _.
    cond_both (eqb b 33) _ _ P (λ yes. eqb-true b 33 yes) (λ _.
    cond_both (eqb b 34) _ _ P (λ yes. eqb-true b 34 yes) (λ _.
    cond_both (is_mark b) _ _ P (λ yes. yes) (λ _. tt))))))))

-- the class of a first byte
pub class_at : (b sign : ℕ) (c : Class) → eqb b sign ≡ true → class_of sign ≡ c → class_of b ≡ c
class_at b sign c h e = ap class_of (eqb-true b sign h) ∙ e

pub class_letter : (b : ℕ) → begins_word b ≡ true → class_of b ≡ classes.Letter
unfolding class_of
class_letter b h = rw h refl

pub class_number : (b : ℕ) → begins_word b ≡ false → (is_ascii_digit b || eqb b 45) ≡ true → class_of b ≡ classes.Number
unfolding class_of
class_number b other h = rw (other, h) refl

pub class_signs : (class_of 64 ≡ classes.At) × (class_of 37 ≡ classes.Percent) × (class_of 35 ≡ classes.Hash) × (class_of 33 ≡ classes.Bang) × (class_of 34 ≡ classes.Quote) × (class_of 45 ≡ classes.Number) × (begins_word 99 ≡ true)
unfolding class_of begins_word is_mark
class_signs = (refl, refl, refl, refl, refl, refl, refl)

-- a fact at each number of a list
abbrev pub AllOf : (ℕ → Type 0) → List ℕ → Type 0
AllOf P [] = Unit {0}
AllOf P (x ∷ xs) = P x × AllOf P xs

pub any_tells : (P : ℕ → Type 0) (b : ℕ) (xs : List ℕ) → list_any (λ x. eqb b x) xs ≡ true → AllOf P xs → P b
any_tells P b [] h all = absurd (false≢true h)
any_tells P b (x ∷ xs) h all = ⊎_elim
    (λ here. subst P (sym (eqb-true b x here)) all.0)
    (λ there. any_tells P b xs there all.1)
    (or_cases (eqb b x) _ h)

pub class_mark : (b : ℕ) → is_mark b ≡ true → class_of b ≡ classes.Mark
unfolding class_of begins_word is_mark
class_mark b h = any_tells (λ x. class_of x ≡ classes.Mark) b (61 ∷ 44 ∷ 42 ∷ 40 ∷ 41 ∷ 91 ∷ 93 ∷ 123 ∷ 125 ∷ 60 ∷ 62 ∷ 124 ∷ 43 ∷ 58 ∷ 94 ∷ []) h (refl, (refl, (refl, (refl, (refl, (refl, (refl, (refl, (refl, (refl, (refl, (refl, (refl, (refl, (refl, tt)))))))))))))))

-- A token that was found: it has bytes, it is within the rest, and it is spelled so.
pub record IsFound (rest : List ℕ) (kind : Kind) (len : ℕ) : Type 0 where
  pub some : 0 < len
  pub within : len ≤ length rest
  pub spelled : is_spelled kind (take len rest) ≡ true

abbrev pub Found : List ℕ → Option (Kind × ℕ) → Type 0
Found rest None = Unit {0}
Found rest (Some f) = IsFound rest f.0 f.1

-- What is spelled at the front is shorter than the token that was found, or is that token.
abbrev pub Reach : Option (Kind × ℕ) → Kind → ℕ → Type 0
Reach None kind len = ⊥
Reach (Some f) kind len = (len < f.1) ⊎ ((len ≡ f.1) × (kind ≡ f.0))

pub no_zero : (n : ℕ) → 0 < n → eqb n 0 ≡ false
no_zero n some = ne_eqb n 0 (λ e. omega arith)

pub sized_of : (kind : Kind) (len : ℕ) → 0 < len → sized kind len ≡ Some (kind, len)
sized_of kind len some = let e : eqb len 0 ≡ false = no_zero len some in rw e refl

found_sized : (rest : List ℕ) (kind : Kind) (len : ℕ) → (0 < len → IsFound rest kind len) → Found rest (sized kind len)
found_sized rest kind zero h = tt
found_sized rest kind (suc n) h = rw (sized_of kind (suc n) (omega arith)) (h (omega arith))

same_or_less : (kind : Kind) (len m : ℕ) → m ≤ len → Reach (Some (kind, len)) kind m
same_or_less kind len m le = ⊎_elim (λ lt. inl lt) (λ ge. inr (omega arith, refl)) (cases_lt m len)

reach_sized : (kind : Kind) (len m : ℕ) → 0 < m → m ≤ len → Reach (sized kind len) kind m
reach_sized kind len m some le = rw (sized_of kind len (omega arith)) (same_or_less kind len m le)

-- what stands behind a sign

behind_is : (sign : ℕ) (len : List ℕ → ℕ) (b : ℕ) (bs : List ℕ) → b ≡ sign → behind sign len (b ∷ bs) ≡ with_sign (len bs)
behind_is sign len b bs e = let h : eqb b sign ≡ true = eq-eqb b sign e in rw h refl

found_behind : (kind : Kind) (sign : ℕ) (test : List ℕ → Bool) (len : List ℕ → ℕ) → Measures test len → ((text : List ℕ) → after sign test text ≡ is_spelled kind text) → (b : ℕ) (bs : List ℕ) → b ≡ sign → Found (b ∷ bs) (sized kind (with_sign (len bs)))
found_behind kind sign test len measures same b bs e =
    let whole = behind_measures sign test len measures in
    let is = behind_is sign len b bs e in
    let P : ℕ → Type 0 = λ n. Found (b ∷ bs) (sized kind n) in
    subst P is (found_sized (b ∷ bs) kind (behind sign len (b ∷ bs)) (λ some. record {
      some = some;
      within = whole.within (b ∷ bs);
      spelled = sym (same (take (behind sign len (b ∷ bs)) (b ∷ bs))) ∙ whole.found (b ∷ bs) some;
    }))

reach_behind : (kind : Kind) (sign : ℕ) (test : List ℕ → Bool) (len : List ℕ → ℕ) → Measures test len → (b : ℕ) (bs : List ℕ) (m : ℕ) → m ≤ length (b ∷ bs) → after sign test (take m (b ∷ bs)) ≡ true → (eqb b sign ≡ true) × Reach (sized kind (with_sign (len bs))) kind m
reach_behind kind sign test len measures b bs zero le passes = absurd (false≢true passes)
reach_behind kind sign test len measures b bs (suc m) le passes =
    let whole = behind_measures sign test len measures in
    let first = (and_parts (eqb b sign) _ passes).0 in
    let is = behind_is sign len b bs (eqb-true b sign first) in
    (first, reach_sized kind (with_sign (len bs)) (suc m) (omega arith) (omega (arith, is, whole.most (b ∷ bs) (suc m) le passes)))

-- what begins with a quote

found_quoted : (rest : List ℕ) → Found rest (quoted rest)
unfolding quoted
found_quoted rest =
    let P : Option (Kind × ℕ) → Type 0 = λ o. Found rest o in
    by_test (eqb (quoted_len rest) 0)
    (λ none. rw none tt)
    (λ more.
    let some : 0 < quoted_len rest = omega (arith, eqb-false _ _ more) in
    rw more (cond_both (has rest (quoted_len rest) 58) _ _ P
    (λ colon. record {
      some = omega arith;
      within = omega (arith, (has_tells rest (quoted_len rest) 58 colon).0);
      spelled = label_from rest (quoted_len rest) colon (or_right _ _ (quoted_measures.found rest some));
    })
    (λ _. record { some = some; within = quoted_measures.within rest; spelled = quoted_measures.found rest some })))

reach_string : (rest : List ℕ) (m : ℕ) → m ≤ length rest → is_quoted (take m rest) ≡ true → Reach (quoted rest) kinds.Str m
unfolding quoted
reach_string rest m le passes =
    let P : Option (Kind × ℕ) → Type 0 = λ o. Reach o kinds.Str m in
    let some = quoted_measures.some rest m le passes in
    let most = quoted_measures.most rest m le passes in
    let more : eqb (quoted_len rest) 0 ≡ false = no_zero _ (omega arith) in
    rw more (cond_both (has rest (quoted_len rest) 58) _ _ P (λ _. inl (omega arith)) (λ _. same_or_less kinds.Str (quoted_len rest) m most))

reach_quoted_label : (rest : List ℕ) (n : ℕ) → n ≤ length rest → has rest n 58 ≡ true → is_quoted (take n rest) ≡ true → Reach (quoted rest) kinds.Label (suc n)
unfolding quoted
reach_quoted_label rest n le colon passes =
    let some = quoted_measures.some rest n le passes in
    let e : quoted_len rest ≡ n = sym (quoted_only rest n le passes) in
    let more : eqb n 0 ≡ false = no_zero _ (omega arith) in
    rw (e, more, colon) (inr (refl, refl))

-- what begins with a letter

found_label : (rest : List ℕ) → is_labelled rest ≡ true → 0 < prefix_len is_name_byte rest → IsFound rest kinds.Label (suc (prefix_len is_name_byte rest))
unfolding is_labelled
found_label rest colon some = record {
  some = omega arith;
  within = omega (arith, (has_tells rest (prefix_len is_name_byte rest) 58 colon).0);
  spelled = label_from rest (prefix_len is_name_byte rest) colon (or_left _ _ (run_measures.found rest some));
}

found_lettered : (b : ℕ) (bs : List ℕ) → begins_word b ≡ true → Found (b ∷ bs) (lettered (b ∷ bs))
unfolding lettered is_word
found_lettered b bs begins =
    let P : Option (Kind × ℕ) → Type 0 = λ o. Found (b ∷ bs) o in
    let word = begun begins_word is_name_byte b bs begins (name_from_begin b (begin_from_word b begins)) in
    cond_both (is_labelled (b ∷ bs)) _ _ P
    (λ colon. found_label (b ∷ bs) colon word.0)
    (λ _. cond_both (eqb (c_string_len (b ∷ bs)) 0) _ _ P
    (λ _. record { some = word.0; within = prefix_len-le-length is_name_byte (b ∷ bs); spelled = word.1 })
    (λ more.
    let some : 0 < c_string_len (b ∷ bs) = omega (arith, eqb-false _ _ more) in
    record { some = some; within = c_string_measures.within (b ∷ bs); spelled = c_string_measures.found (b ∷ bs) some }))

pub reach_label : (rest : List ℕ) (n : ℕ) → has rest n 58 ≡ true → is_run (take n rest) ≡ true → (n ≡ prefix_len is_name_byte rest) × (is_labelled rest ≡ true)
unfolding is_labelled
reach_label rest n colon run =
    let e = run_to_colon rest n colon run in
    (e, subst (λ k. has rest k 58 ≡ true) e colon)

reach_lettered_label : (rest : List ℕ) (n : ℕ) → has rest n 58 ≡ true → is_run (take n rest) ≡ true → Reach (lettered rest) kinds.Label (suc n)
unfolding lettered
reach_lettered_label rest n colon run =
    let label = reach_label rest n colon run in
    rw label.1 (inr (ap (λ k. suc k) label.0, refl))

reach_numbered_label : (rest : List ℕ) (n : ℕ) → has rest n 58 ≡ true → is_run (take n rest) ≡ true → Reach (numbered rest) kinds.Label (suc n)
unfolding numbered
reach_numbered_label rest n colon run =
    let label = reach_label rest n colon run in
    rw label.1 (inr (ap (λ k. suc k) label.0, refl))

-- a string with c before it begins so
pub c_string_shape : (xs : List ℕ) → 0 < c_string_len xs → (ys : List ℕ) × (xs ≡ 99 ∷ 34 ∷ ys) × (2 ≤ c_string_len xs)
unfolding c_string_len quoted_len
c_string_shape [] some = absurd (omega arith)
c_string_shape (x ∷ xs) some = by_test (eqb x 99)
    (λ c.
    let inner : 0 < quoted_len xs = with_sign_some (quoted_len xs) (rw c at some) in
    shape xs inner (eqb-true x 99 c) (rw (c, with_sign_of (quoted_len xs) inner) (omega arith)))
    (λ no. absurd (let h = rw no at some in omega arith))
  where
    shape : (zs : List ℕ) → 0 < quoted_len zs → x ≡ 99 → 2 ≤ c_string_len (x ∷ xs) → (ys : List ℕ) × (x ∷ zs ≡ 99 ∷ 34 ∷ ys) × (2 ≤ c_string_len (x ∷ xs))
    shape [] inner e long = absurd (omega arith)
    shape (z ∷ zs) inner e long = by_test (eqb z 34)
        (λ quote. (zs, (let q = eqb-true z 34 quote in cc), long))
        (λ no. absurd (let h = rw no at inner in omega arith))

pub c_string_run : (ys : List ℕ) → (prefix_len is_name_byte (99 ∷ 34 ∷ ys) ≡ 1) × (is_labelled (99 ∷ 34 ∷ ys) ≡ false)
unfolding is_labelled has is_name_byte begins_name begins_word
c_string_run ys = (refl, and_right _ _ refl)

-- so it is longer than the word c, and no label
pub c_string_beats : (xs : List ℕ) → 0 < c_string_len xs → (prefix_len is_name_byte xs < c_string_len xs) × (is_labelled xs ≡ false)
c_string_beats xs some =
    let shape = c_string_shape xs some in
    let run = c_string_run shape.0 in
    let len : prefix_len is_name_byte xs ≡ 1 = ap (prefix_len is_name_byte) shape.1 ∙ run.0 in
    (omega (arith, shape.2), ap is_labelled shape.1 ∙ run.1)

reach_word : (rest : List ℕ) (m : ℕ) → m ≤ length rest → is_word (take m rest) ≡ true → Reach (lettered rest) kinds.Word m
unfolding lettered is_word
reach_word rest m le passes =
    let P : Option (Kind × ℕ) → Type 0 = λ o. Reach o kinds.Word m in
    let most = headed_most begins_word is_name_byte (λ b h. name_from_begin b (begin_from_word b h)) rest m le passes in
    cond_both (is_labelled rest) _ _ P
    (λ _. inl (omega arith))
    (λ _. cond_both (eqb (c_string_len rest) 0) _ _ P
    (λ _. same_or_less kinds.Word _ m most)
    (λ more.
    let some : 0 < c_string_len rest = omega (arith, eqb-false _ _ more) in
    inl (omega (arith, (c_string_beats rest some).0))))

reach_c_string : (rest : List ℕ) (m : ℕ) → m ≤ length rest → after 99 is_quoted (take m rest) ≡ true → Reach (lettered rest) kinds.CStr m
unfolding lettered
reach_c_string rest m le passes =
    let P : Option (Kind × ℕ) → Type 0 = λ o. Reach o kinds.CStr m in
    let some = c_string_measures.some rest m le passes in
    let most = c_string_measures.most rest m le passes in
    let more : eqb (c_string_len rest) 0 ≡ false = no_zero _ (omega arith) in
    let no_label : is_labelled rest ≡ false = (c_string_beats rest (omega arith)).1 in
    rw (no_label, more) (same_or_less kinds.CStr _ m most)

-- what begins with a digit or -

found_numbered : (b : ℕ) (bs : List ℕ) → is_name_byte b ≡ true → Found (b ∷ bs) (numbered (b ∷ bs))
unfolding numbered
found_numbered b bs name =
    let P : Option (Kind × ℕ) → Type 0 = λ o. Found (b ∷ bs) o in
    let run = begun is_name_byte is_name_byte b bs name name in
    cond_both (is_labelled (b ∷ bs)) _ _ P
    (λ colon. found_label (b ∷ bs) colon run.0)
    (λ _. found_sized (b ∷ bs) kinds.Int (integer_len (b ∷ bs)) (λ some. record {
      some = some;
      within = integer_measures.within (b ∷ bs);
      spelled = integer_measures.found (b ∷ bs) some;
    }))

reach_integer : (rest : List ℕ) (m : ℕ) → m ≤ length rest → is_integer (take m rest) ≡ true → Reach (numbered rest) kinds.Int m
unfolding numbered
reach_integer rest m le passes =
    let P : Option (Kind × ℕ) → Type 0 = λ o. Reach o kinds.Int m in
    let some = integer_measures.some rest m le passes in
    let most = integer_measures.most rest m le passes in
    cond_both (is_labelled rest) _ _ P
    (λ _. inl (omega (arith, integer_in_run rest)))
    (λ _. reach_sized kinds.Int (integer_len rest) m some most)

-- first bytes

minus_is_name : is_name_byte 45 ≡ true
unfolding is_name_byte begins_name begins_word
minus_is_name = refl

number_name : (b : ℕ) → (is_ascii_digit b || eqb b 45) ≡ true → is_name_byte b ≡ true
number_name b first = ⊎_elim
    (λ digit. name_from_digit b digit)
    (λ minus. subst (λ x. is_name_byte x ≡ true) (sym (eqb-true b 45 minus)) minus_is_name)
    (or_cases (is_ascii_digit b) (eqb b 45) first)

one_mark : (b : ℕ) (bs : List ℕ) → is_mark b ≡ true → is_one_mark (take 1 (b ∷ bs)) ≡ true
unfolding is_one_mark
one_mark b bs mark = and_from (is_mark b) _ mark refl

-- a mark is one byte
pub mark_tells : (b : ℕ) (bs : List ℕ) (m : ℕ) → m ≤ length (b ∷ bs) → is_one_mark (take m (b ∷ bs)) ≡ true → (is_mark b ≡ true) × (m ≡ 1)
unfolding is_one_mark
mark_tells b bs zero le passes = absurd (false≢true passes)
mark_tells b [] (suc m) le passes = ((and_parts (is_mark b) _ passes).0, omega arith)
mark_tells b (c ∷ cs) (suc zero) le passes = ((and_parts (is_mark b) _ passes).0, refl)
mark_tells b (c ∷ cs) (suc (suc m)) le passes = absurd (false≢true (and_parts (is_mark b) _ passes).1)

reach_meta : (b : ℕ) (bs : List ℕ) (m : ℕ) → m ≤ length (b ∷ bs) → after 33 (list_all is_meta_byte) (take m (b ∷ bs)) ≡ true → (eqb b 33 ≡ true) × Reach (Some (kinds.Meta, suc (prefix_len is_meta_byte bs))) kinds.Meta m
reach_meta b bs zero le passes = absurd (false≢true passes)
reach_meta b bs (suc m) le passes =
    let parts = and_parts (eqb b 33) _ passes in
    let most : m ≤ prefix_len is_meta_byte bs = run_most is_meta_byte bs m (omega arith) parts.1 in
    (parts.0, same_or_less kinds.Meta (suc (prefix_len is_meta_byte bs)) (suc m) (omega arith))

pub c_begins : (b : ℕ) (bs : List ℕ) (m : ℕ) → after 99 is_quoted (take m (b ∷ bs)) ≡ true → begins_word b ≡ true
c_begins b bs zero passes = absurd (false≢true passes)
c_begins b bs (suc m) passes = subst (λ x. begins_word x ≡ true) (sym (eqb-true b 99 (and_parts (eqb b 99) _ passes).0)) class_signs.6

pub word_begins : (b : ℕ) (bs : List ℕ) (m : ℕ) → is_word (take m (b ∷ bs)) ≡ true → begins_word b ≡ true
unfolding is_word
word_begins b bs m passes = (headed_first begins_word is_name_byte b bs m passes).1

pub class_integer : (b : ℕ) (bs : List ℕ) (m : ℕ) → is_integer (take m (b ∷ bs)) ≡ true → class_of b ≡ classes.Number
class_integer b bs m passes = ⊎_elim
    (λ digit. class_number b (digit_begins_no_word b digit) (or_left _ _ digit))
    (λ minus. class_at b 45 classes.Number minus class_signs.5)
    (integer_first b bs m passes)

pub name_class : (b : ℕ) → is_name_byte b ≡ true → (class_of b ≡ classes.Letter) ⊎ (class_of b ≡ classes.Number)
unfolding is_name_byte begins_name
name_class b name = by_test (begins_word b)
    (λ word. inl (class_letter b word))
    (λ none. inr (class_number b none (⊎_elim
    (λ begins. ⊎_elim (λ word. absurd (both_ways _ none word)) (λ minus. or_right _ _ minus) (or_cases (begins_word b) (eqb b 45) begins))
    (λ digit. or_left _ _ digit)
    (or_cases (begins_word b || eqb b 45) (is_ascii_digit b) name))))

reach_at : (b : ℕ) (bs : List ℕ) (c : Class) (kind : Kind) (m : ℕ) → class_of b ≡ c → Reach (front_of c (b ∷ bs) bs) kind m → Reach (front (b ∷ bs)) kind m
reach_at b bs c kind m e h = subst (λ d. Reach (front_of d (b ∷ bs) bs) kind m) (sym e) h

reach_any_label : (b : ℕ) (bs : List ℕ) (m : ℕ) → m ≤ length (b ∷ bs) → is_label (take m (b ∷ bs)) ≡ true → Reach (front (b ∷ bs)) kinds.Label m
reach_any_label b bs m le passes =
    let parts = label_tells (b ∷ bs) m le passes in
    let n = parts.0 in
    let label : IsLabelOf (b ∷ bs) n = parts.2 in
    let at_n : Reach (front (b ∷ bs)) kinds.Label (suc n) = ⊎_elim
    (λ run. ⊎_elim
    (λ letter. reach_at b bs classes.Letter kinds.Label (suc n) letter (reach_lettered_label (b ∷ bs) n label.colon run))
    (λ number. reach_at b bs classes.Number kinds.Label (suc n) number (reach_numbered_label (b ∷ bs) n label.colon run))
    (name_class b (run_first b bs n run).1))
    (λ quoted. reach_at b bs classes.Quote kinds.Label (suc n) (class_at b 34 classes.Quote (quoted_first b bs n quoted) class_signs.4) (reach_quoted_label (b ∷ bs) n (omega arith) label.colon quoted))
    label.front in
    subst (λ k. Reach (front (b ∷ bs)) kinds.Label k) (sym parts.1) at_n

-- what is found

found_of : (c : Class) (b : ℕ) (bs : List ℕ) → FirstIs c b → Found (b ∷ bs) (front_of c (b ∷ bs) bs)
found_of classes.Letter b bs first = found_lettered b bs first
found_of classes.Number b bs first = found_numbered b bs (number_name b first)
found_of classes.At b bs first = found_behind kinds.AtName 64 is_name name_len name_measures (λ text. refl) b bs first
found_of classes.Percent b bs first = found_behind kinds.LocalName 37 is_name name_len name_measures (λ text. refl) b bs first
found_of classes.Hash b bs first = found_behind kinds.Hash 35 is_run (prefix_len is_name_byte) run_measures (λ text. refl) b bs first
found_of classes.Bang b bs first = record {
  some = omega arith;
  within = omega (arith, prefix_len-le-length is_meta_byte bs);
  spelled = and_from (eqb b 33) _ (eq-eqb b 33 first) (run_passes is_meta_byte bs (prefix_len is_meta_byte bs) (omega arith));
}
found_of classes.Quote b bs first = found_quoted (b ∷ bs)
found_of classes.Mark b bs first = record { some = omega arith; within = omega arith; spelled = one_mark b bs first }
found_of classes.Other b bs first = tt

pub found : (rest : List ℕ) → Found rest (front rest)
found [] = tt
found (b ∷ bs) = found_of (class_of b) b bs (class_tells b)

-- what is reached

reach_first : (b : ℕ) (bs : List ℕ) (kind : Kind) (m : ℕ) → m ≤ length (b ∷ bs) → is_spelled kind (take m (b ∷ bs)) ≡ true → Reach (front (b ∷ bs)) kind m
reach_first b bs kinds.AtName m le passes =
    let there = reach_behind kinds.AtName 64 is_name name_len name_measures b bs m le passes in
    reach_at b bs classes.At kinds.AtName m (class_at b 64 classes.At there.0 class_signs.0) there.1
reach_first b bs kinds.LocalName m le passes =
    let there = reach_behind kinds.LocalName 37 is_name name_len name_measures b bs m le passes in
    reach_at b bs classes.Percent kinds.LocalName m (class_at b 37 classes.Percent there.0 class_signs.1) there.1
reach_first b bs kinds.Hash m le passes =
    let there = reach_behind kinds.Hash 35 is_run (prefix_len is_name_byte) run_measures b bs m le passes in
    reach_at b bs classes.Hash kinds.Hash m (class_at b 35 classes.Hash there.0 class_signs.2) there.1
reach_first b bs kinds.Meta m le passes =
    let there = reach_meta b bs m le passes in
    reach_at b bs classes.Bang kinds.Meta m (class_at b 33 classes.Bang there.0 class_signs.3) there.1
reach_first b bs kinds.Str m le passes =
    reach_at b bs classes.Quote kinds.Str m (class_at b 34 classes.Quote (quoted_first b bs m passes) class_signs.4) (reach_string (b ∷ bs) m le passes)
reach_first b bs kinds.CStr m le passes =
    reach_at b bs classes.Letter kinds.CStr m (class_letter b (c_begins b bs m passes)) (reach_c_string (b ∷ bs) m le passes)
reach_first b bs kinds.Label m le passes = reach_any_label b bs m le passes
reach_first b bs kinds.Word m le passes =
    reach_at b bs classes.Letter kinds.Word m (class_letter b (word_begins b bs m passes)) (reach_word (b ∷ bs) m le passes)
reach_first b bs kinds.Int m le passes =
    reach_at b bs classes.Number kinds.Int m (class_integer b bs m passes) (reach_integer (b ∷ bs) m le passes)
reach_first b bs kinds.Mark m le passes =
    let mark = mark_tells b bs m le passes in
    reach_at b bs classes.Mark kinds.Mark m (class_mark b mark.0) (inr (mark.1, refl))

nothing_spelled : (kind : Kind) → is_spelled kind [] ≡ false
unfolding is_quoted is_label has is_word is_integer is_decimal is_one_mark
nothing_spelled kinds.AtName = refl
nothing_spelled kinds.LocalName = refl
nothing_spelled kinds.Hash = refl
nothing_spelled kinds.Meta = refl
nothing_spelled kinds.Str = refl
nothing_spelled kinds.CStr = refl
nothing_spelled kinds.Label = refl
nothing_spelled kinds.Word = refl
nothing_spelled kinds.Int = refl
nothing_spelled kinds.Mark = refl

pub reach : (rest : List ℕ) (kind : Kind) (m : ℕ) → m ≤ length rest → is_spelled kind (take m rest) ≡ true → Reach (front rest) kind m
reach [] kind zero le passes = absurd (both_ways _ (nothing_spelled kind) passes)
reach [] kind (suc m) le passes = absurd (omega arith)
reach (b ∷ bs) kind m le passes = reach_first b bs kind m le passes

-- no bytes are tokens of two kinds

one_front : (o : Option (Kind × ℕ)) (text : List ℕ) (kind other : Kind) → Found text o → Reach o kind (length text) → Reach o other (length text) → kind ≡ other
one_front None text kind other is a b = absurd a
one_front (Some f) text kind other is a b = ⊎_elim
    (λ less. absurd (omega (arith, is.within)))
    (λ same. ⊎_elim
    (λ less. absurd (omega (arith, is.within)))
    (λ too. same.1 ∙ sym too.1)
    b)
    a

pub one_kind : (kind other : Kind) (text : List ℕ) → is_spelled kind text ≡ true → is_spelled other text ≡ true → kind ≡ other
one_kind kind other text a b =
    let whole : take (length text) text ≡ text = take_all (length text) text (omega arith) in
    one_front (front text) text kind other (found text)
    (reach text kind (length text) (omega arith) (ap (is_spelled kind) whole ∙ a))
    (reach text other (length text) (omega arith) (ap (is_spelled other) whole ∙ b))
