-- Names of what is left: they are names, apart from each other, and none is one of an intrinsic.
use Rattle.std.proofs.Common.{◌≡◌, ◌≢◌, ◌∙◌, ℕ, ◌+◌, ◌*◌, ◌^◌, ◌<◌, ◌≤◌, Bool, true, false, cond, nat_le, ◌%◌, lit≤, List, [], ◌∷◌, ◌++◌, length, Option, Some, slice_get, All, refl, ap, sym, subst, arith, if◌then◌else◌}
use Rattle.std.specs.Prelude.{codes}
use Rattle.std.specs.Fmt.{decimal}
use Rattle.std.specs.List.{AllZip, AllByRecursion}
use Rattle.std.proofs.lemmas.Bool.Decides.{nat_tests}
use Rattle.std.proofs.lemmas.Fmt.{decimal_by_steps, length-decimal-le}
use Rattle.std.proofs.lemmas.List.{length-append}
use Rattle.std.proofs.lemmas.List.Elements.{All-nil, All-cons, All-append, All-push}
use Rattle.ir_types.specs.declared.scalar.Known.{Known}
use Rattle.ir_types.specs.declared.scalar.Known.TheVariants.{Unknown, Num, Null}
use Rattle.ir_syntax.specs.declared.item.Param.{Param}
use Rattle.ir_syntax.specs.declared.item.Func.{Func}
use Rattle.ir_syntax.specs.declared.item.Item.{Item}
use Rattle.ir_syntax.specs.declared.item.Item.TheVariants as item
use Rattle.ir_syntax.specs.FormedItem.{IsName, is_reserved}
use Rattle.ir_syntax.specs.Straight.{word_param}
use Rattle.demands.specs.Order.{number_of}
use Rattle.demands.specs.Names.{item_text, items_text, are_unknown, copy_name, AreWords}
use Rattle.demands.specs.Demands.{IsKnownOf}
use Rattle.straight_plan.specs.declared.cut.Ask.{Ask}
use Rattle.straight_plan.specs.Asked.{name_at, is_copied}
use Rattle.straight_plan.specs.Left.{is_entry, left_name}
use Rattle.straight_leave.specs.PlainNames.{begins_as_copy}

-- ---- patterns of i32 have numbers of 64 bits

number_short : (k : Known) → IsKnownOf word_param k → number_of k < 2 ^ 64
number_short Unknown h = omega arith
number_short (Num n) h = let small : n < 2 ^ 32 = grind (arith, nat_tests) in omega arith
number_short Null h = omega arith

pub words_of_params : (ps : List Param) (ks : List Known) → AllByRecursion (λ p. p ≡ word_param) ps → AllZip IsKnownOf ps ks → AreWords ks
words_of_params [] [] all z = tt
words_of_params [] (k ∷ ks) all z = absurd z
words_of_params (p ∷ ps) [] all z = absurd z
words_of_params (p ∷ ps) (k ∷ ks) all z = (number_short k (subst (λ (q : Param). IsKnownOf q k) all.0 z.0), words_of_params ps ks all.1 z.1)

-- ---- the length of a copy's name, and that no byte of it is zero

item_short : (k : Known) → number_of k < 2 ^ 64 → length (item_text k) ≤ 20
item_short Unknown h = lit≤ tt
item_short (Num n) h = length-decimal-le 20 n (omega arith) (omega arith) h
item_short Null h = lit≤ tt

text_short : (ks : List Known) → AreWords ks → length (items_text ks) ≤ 21 * length ks
text_short [] h = omega arith
text_short (k ∷ []) h = omega (arith, item_short k h.0)
text_short (k ∷ q ∷ ks) h = omega (arith, item_short k h.0, length-append (item_text k) (44 ∷ items_text (q ∷ ks)), text_short (q ∷ ks) h.1)

abbrev HasNoZero : List ℕ → Type 0
HasNoZero bytes = All (λ byte. byte ≢ 0) bytes

decimal_no_zero : (n : ℕ) → n < 2 ^ 64 → HasNoZero (decimal n)
decimal_no_zero =
    decimal_by_steps (λ n ds. HasNoZero ds) (λ n h. All-cons (λ byte. byte ≢ 0) (48 + n) [] (λ e. omega arith) (All-nil (λ byte. byte ≢ 0)))
    (λ n ds h d. All-push (λ byte. byte ≢ 0) ds (48 + n % 10) d (λ e. omega arith))

no_zeros : (bytes : List ℕ) → AllByRecursion (λ byte. byte ≢ 0) bytes → HasNoZero bytes
no_zeros [] h = All-nil (λ byte. byte ≢ 0)
no_zeros (byte ∷ bytes) h = All-cons (λ byte. byte ≢ 0) byte bytes h.0 (no_zeros bytes h.1)

item_no_zero : (k : Known) → number_of k < 2 ^ 64 → HasNoZero (item_text k)
item_no_zero Unknown h = no_zeros (codes "_") ((λ e. omega arith), tt)
item_no_zero (Num n) h = decimal_no_zero n h
item_no_zero Null h = no_zeros (codes "null") ((λ e. omega arith), ((λ e. omega arith), ((λ e. omega arith), ((λ e. omega arith), tt))))

text_no_zero : (ks : List Known) → AreWords ks → HasNoZero (items_text ks)
text_no_zero [] h = All-nil (λ byte. byte ≢ 0)
text_no_zero (k ∷ []) h = item_no_zero k h.0
text_no_zero (k ∷ q ∷ ks) h =
    All-append (λ byte. byte ≢ 0) (item_text k) (44 ∷ items_text (q ∷ ks)) (item_no_zero k h.0) (All-cons (λ byte. byte ≢ 0) 44 (items_text (q ∷ ks)) (λ e. omega arith) (text_no_zero (q ∷ ks) h.1))

marked : List Known → List ℕ → List ℕ
marked ks name = codes "(" ++ items_text ks ++ codes ")" ++ name

marked_is_name : (ks : List Known) (name : List ℕ) → AreWords ks → length ks ≤ 32 → IsName name → length name ≤ 3072 → IsName (marked ks name)
unfolding marked
marked_is_name ks name words few is short =
    let open_text = codes "(" ++ items_text ks in
    let closed = open_text ++ codes ")" in
    let text = text_short ks words in
    let one : length open_text ≡ 1 + length (items_text ks) = length-append (codes "(") (items_text ks) in
    let two : length closed ≡ length open_text + 1 = length-append open_text (codes ")") in
    let all : length (closed ++ name) ≡ length closed + length name = length-append closed name in
    record {
      not_empty = omega (arith, all, two);
      short = omega (arith, all, two, one, text);
      no_zero = All-append (λ byte. byte ≢ 0) closed name
          (All-append (λ byte. byte ≢ 0) open_text (codes ")")
          (All-append (λ byte. byte ≢ 0) (codes "(") (items_text ks) (no_zeros (codes "(") ((λ e. omega arith), tt)) (text_no_zero ks words)) (no_zeros (codes ")") ((λ e. omega arith), tt)))
          is.no_zero;
    }

pub left_name_is : (items : List Item) (start ask : Ask) (f : Func) → slice_get items ask.place ≡ Some (item.Func f) → AreWords ask.pattern → length ask.pattern ≤ 32 → IsName f.name
    → (is_copied items ask.place ≡ false → are_unknown ask.pattern ≡ true) → IsName (left_name start ask f.name)
unfolding marked
left_name_is items start ask f at words few is copied = by (is_entry start ask)
  where
    copy : (b : Bool) → are_unknown ask.pattern ≡ b → IsName (cond b f.name (marked ask.pattern f.name))
    copy true e = is
    copy false e = marked_is_name ask.pattern f.name words few is (short (is_copied items ask.place) refl)
      where
        short : (c : Bool) → is_copied items ask.place ≡ c → length f.name ≤ 3072
        short true t = let le : nat_le (length f.name) 3072 ≡ true = sym (ap (λ (o : Option Item). nat_le (length (name_at o)) 3072) at) ∙ t in grind (arith, nat_tests)
        short false g = absurd (two (sym (copied g) ∙ e))
          where
            two : true ≡ false → ⊥
            two h = cc

    by : (b : Bool) → IsName (if b then f.name else copy_name ask.pattern f.name)
    by true = is
    by false = copy (are_unknown ask.pattern) refl

-- ---- names that are apart

begins : (ks : List Known) (name : List ℕ) → begins_as_copy (marked ks name) ≡ true
unfolding marked
begins [] name = refl
begins (k ∷ ks) name = refl

abbrev pub NamesApart : Type 0
NamesApart = (p q : List Known) (f g : List ℕ) → AreWords p → AreWords q → are_unknown p ≡ false → are_unknown q ≡ false → copy_name p f ≡ copy_name q g → (p ≡ q) × (f ≡ g)

-- where two copies, neither of them the entry's, have one name, they are of functions of one name with one pattern, or nothing is known of both
pub copies_apart : NamesApart → (p q : List Known) (f g : List ℕ) → AreWords p → AreWords q → begins_as_copy f ≡ false → begins_as_copy g ≡ false → copy_name p f ≡ copy_name q g
    → (f ≡ g) × (are_unknown p ≡ are_unknown q) × (are_unknown p ≡ false → p ≡ q)
unfolding marked
copies_apart apart p q f g words words' plain plain' same = by (are_unknown p) (are_unknown q) refl refl
  where
    name : (ks : List Known) (n : List ℕ) (b : Bool) → are_unknown ks ≡ b → copy_name ks n ≡ cond b n (marked ks n)
    name ks n b e = ap (λ c. cond c n (marked ks n)) e

    two : true ≡ false → ⊥
    two h = cc

    by : (b c : Bool) → are_unknown p ≡ b → are_unknown q ≡ c → (f ≡ g) × (are_unknown p ≡ are_unknown q) × (are_unknown p ≡ false → p ≡ q)
    by true true e h = (sym (name p f true e) ∙ same ∙ name q g true h, e ∙ sym h, λ k. absurd (two (sym e ∙ k)))
    by true false e h =
        let names : f ≡ marked q g = sym (name p f true e) ∙ same ∙ name q g false h in
        absurd (two (sym (begins q g) ∙ ap begins_as_copy (sym names) ∙ plain))
    by false true e h =
        let names : marked p f ≡ g = sym (name p f false e) ∙ same ∙ name q g true h in
        absurd (two (sym (begins p f) ∙ ap begins_as_copy names ∙ plain'))
    by false false e h = let both = apart p q f g words words' e h same in (both.1, e ∙ sym h, λ k. both.0)

-- the entry's own name isn't one of a copy
pub entry_apart : (q : List Known) (f g : List ℕ) → begins_as_copy f ≡ false → f ≡ copy_name q g → f ≡ g
unfolding marked
entry_apart q f g plain same = by (are_unknown q) same
  where
    by : (b : Bool) → f ≡ cond b g (marked q g) → f ≡ g
    by true e = e
    by false e = absurd (two (sym (begins q g) ∙ ap begins_as_copy (sym e) ∙ plain))
      where
        two : true ≡ false → ⊥
        two h = cc

-- ---- names of intrinsics

reserved_marked : (ks : List Known) (name : List ℕ) → is_reserved (marked ks name) ≡ false
unfolding marked
reserved_marked [] name = refl
reserved_marked (k ∷ ks) name = refl

pub left_name_free : (start ask : Ask) (name : List ℕ) → is_reserved name ≡ false → is_reserved (left_name start ask name) ≡ false
unfolding marked
left_name_free start ask name free = by (is_entry start ask)
  where
    copy : (b : Bool) → is_reserved (cond b name (marked ask.pattern name)) ≡ false
    copy true = free
    copy false = reserved_marked ask.pattern name

    by : (b : Bool) → is_reserved (if b then name else copy_name ask.pattern name) ≡ false
    by true = free
    by false = copy (are_unknown ask.pattern)
