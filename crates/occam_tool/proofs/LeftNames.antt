-- The names of what is left are bytes, and none is that of an intrinsic.
use Rattle.std.proofs.Common.{◌≡◌, ◌∙◌, ◌≢◌, ◌⊎◌, inl, inr, ℕ, suc, ◌+◌, ◌%◌, ◌<◌, ◌≤◌, ◌^◌, Bool, true, false, not, ◌&&◌, ◌||◌, ◌==◌, nat_le, nat_eq, cond, List, [], ◌∷◌, ◌++◌, length, slice_get, if◌then◌else◌, Option, Some, None, IsTrue, All, refl, sym, ap, subst, arith}
use Rattle.std.specs.List.{list_all, AllByRecursion, AllZip, filter_map, cons_option}
use Rattle.std.specs.Char.{is_ascii_digit, is_ascii_alphabetic}
use Rattle.std.specs.Int.{is_in_range}
use Rattle.std.specs.Fmt.{decimal}
use Rattle.std.proofs.lemmas.Fmt.{decimal_by_steps}
use Rattle.std.proofs.lemmas.Bool.{and_parts}
use Rattle.std.proofs.lemmas.Bool.Decides.{Decides-eqb, nat_tests}
use Rattle.std.proofs.lemmas.List.Elements.{recursion_from_All, All-from_recursion}
use Rattle.ir_types.specs.declared.scalar.Known.{Known}
use Rattle.ir_types.specs.declared.scalar.Known.TheVariants.{Unknown, Num, Null}
use Rattle.ir_lexer.specs.Signs.{begins_word, begins_name, is_name_byte}
use Rattle.straight_form.specs.Names.{is_unquoted, is_plain_name, is_reserved}
use Rattle.std.specs.Prelude.{codes}
use Rattle.ir_types.specs.declared.scalar.Scalar.{Scalar}
use Rattle.ir_types.specs.declared.scalar.Scalar.TheVariants.{I1, I8, I16, I32, I64, Ptr}
use Rattle.ir_syntax.specs.declared.item.Param.{Param}
use Rattle.ir_syntax.specs.declared.item.Item.{Item}
use Rattle.ir_syntax.specs.declared.item.Item.TheVariants as item
use Rattle.ir_syntax.specs.declared.item.Module.{Module}
use Rattle.ir_syntax.specs.FormedBody.{item_name}
use Rattle.ir_syntax.specs.Suits.{is_number_of}
use Rattle.demands.specs.Demands.{IsFunctionFor, IsKnownOf}
use Rattle.demands.specs.Names.{item_text, items_text, copy_name, are_unknown}
use Rattle.straight_plan.specs.declared.cut.Ask.{Ask}
use Rattle.straight_plan.specs.declared.cut.Cut.{Cut}
use Rattle.straight_plan.specs.Left.{IsPlan, asks_of, is_entry, left_name, left_item, left_items, left_module}
use Rattle.ir_writer.specs.Ranges.{AreBytes}
use Rattle.straight_leave.specs.PlainNames.{begins_as_copy, HaveNoCopyNames, HaveNoReservedNames}
use Rattle.straight_meaning.specs.Lawful.{first_byte}

abbrev pub Small : List ℕ → Type 0
Small name = AllByRecursion (λ byte. byte < 256) name

-- ---- plain names

or_cases : (x y : Bool) → (x || y) ≡ true → (x ≡ true) ⊎ (y ≡ true)
or_cases true y e = inl refl
or_cases false y e = inr e

in_range : (low high b : ℕ) → is_in_range low high b ≡ true → b ≤ high
in_range low high b e = let both = and_parts (nat_le low b) (nat_le b high) e in grind (arith, nat_tests, both.1)

alphabetic_small : (b : ℕ) → is_ascii_alphabetic b ≡ true → b < 256
alphabetic_small b e = either (or_cases (is_in_range 65 90 b) (is_in_range 97 122 b) e)
  where
    either : (is_in_range 65 90 b ≡ true) ⊎ (is_in_range 97 122 b ≡ true) → b < 256
    either (inl h) = let n = in_range 65 90 b h in omega (arith, n)
    either (inr h) = let n = in_range 97 122 b h in omega (arith, n)

equal_small : (b n : ℕ) → n < 256 → (b == n) ≡ true → b < 256
equal_small b n small e = subst (λ x. x < 256) (sym ((Decides-eqb b n).0 e)) small

word_small : (b : ℕ) → begins_word b ≡ true → b < 256
unfolding begins_word
word_small b e = first (or_cases (is_ascii_alphabetic b || (b == 36) || (b == 46)) (b == 95) e)
  where
    third : (is_ascii_alphabetic b ≡ true) ⊎ ((b == 36) ≡ true) → b < 256
    third (inl h) = alphabetic_small b h
    third (inr h) = equal_small b 36 (omega arith) h

    second : ((is_ascii_alphabetic b || (b == 36)) ≡ true) ⊎ ((b == 46) ≡ true) → b < 256
    second (inl h) = third (or_cases (is_ascii_alphabetic b) (b == 36) h)
    second (inr h) = equal_small b 46 (omega arith) h

    first : ((is_ascii_alphabetic b || (b == 36) || (b == 46)) ≡ true) ⊎ ((b == 95) ≡ true) → b < 256
    first (inl h) = second (or_cases (is_ascii_alphabetic b || (b == 36)) (b == 46) h)
    first (inr h) = equal_small b 95 (omega arith) h

begins_small : (b : ℕ) → begins_name b ≡ true → b < 256
unfolding begins_name
begins_small b e = either (or_cases (begins_word b) (b == 45) e)
  where
    either : (begins_word b ≡ true) ⊎ ((b == 45) ≡ true) → b < 256
    either (inl h) = word_small b h
    either (inr h) = equal_small b 45 (omega arith) h

within_small : (b : ℕ) → is_name_byte b ≡ true → b < 256
unfolding is_name_byte
within_small b e = either (or_cases (begins_name b) (is_ascii_digit b) e)
  where
    either : (begins_name b ≡ true) ⊎ (is_ascii_digit b ≡ true) → b < 256
    either (inl h) = begins_small b h
    either (inr h) = let n = in_range 48 57 b h in omega (arith, n)

all_within : (bs : List ℕ) → list_all is_name_byte bs ≡ true → Small bs
all_within [] e = tt
all_within (b ∷ bs) e = let both = and_parts (is_name_byte b) (list_all is_name_byte bs) e in (within_small b both.0, all_within bs both.1)

unquoted_small : (name : List ℕ) → is_unquoted name ≡ true → Small name
unquoted_small [] e = tt
unquoted_small (b ∷ bs) e = let both = and_parts (begins_name b) (list_all is_name_byte bs) e in (begins_small b both.0, all_within bs both.1)

unquoted_of : (name : List ℕ) → is_plain_name name ≡ true → is_unquoted name ≡ true
unquoted_of name e =
    let both = and_parts (is_unquoted name && nat_le (length name) 4096) (not (is_reserved name)) e in
    (and_parts (is_unquoted name) (nat_le (length name) 4096) both.0).0

pub plain_small : (name : List ℕ) → is_plain_name name ≡ true → Small name
plain_small name e = unquoted_small name (unquoted_of name e)

-- a plain name doesn't begin with `(`
open_begins : begins_name 40 ≡ false
unfolding begins_word begins_name
open_begins = refl

false_true : {P : Type 0} → false ≡ true → P
false_true e = absurd (cc)

unquoted_first : (name : List ℕ) → is_unquoted name ≡ true → slice_get name 0 ≢ Some 40
unquoted_first [] e f = false_true e
unquoted_first (b ∷ bs) e f =
    let both = and_parts (begins_name b) (list_all is_name_byte bs) e in
    let is : b ≡ 40 = cc in false_true (sym open_begins ∙ ap begins_name (sym is) ∙ both.0)

pub plain_first : (name : List ℕ) → is_plain_name name ≡ true → slice_get name 0 ≢ Some 40
plain_first name e = unquoted_first name (unquoted_of name e)

-- ---- names of copies

small_append : (xs ys : List ℕ) → Small xs → Small ys → Small (xs ++ ys)
small_append [] ys h g = g
small_append (x ∷ xs) ys h g = (h.0, small_append xs ys h.1 g)

small_decimal : (n : ℕ) → n < 2 ^ 64 → Small (decimal n)
small_decimal = decimal_by_steps (λ n ds. Small ds) (λ n h. (omega arith, tt)) (λ n ds h d. small_append ds ((48 + n % 10) ∷ []) d (omega arith, tt))

abbrev pub IsShort : Known → Type 0
IsShort Unknown = Unit {0}
IsShort (Num n) = n < 2 ^ 64
IsShort Null = Unit {0}

small_item : (known : Known) → IsShort known → Small (item_text known)
small_item Unknown h = (omega arith, tt)
small_item (Num n) h = small_decimal n h
small_item Null h = (omega arith, (omega arith, (omega arith, (omega arith, tt))))

small_items : (items : List Known) → AllByRecursion IsShort items → Small (items_text items)
small_items [] h = tt
small_items (item ∷ []) h = small_item item h.0
small_items (item ∷ next ∷ more) h = small_append (item_text item) (44 ∷ items_text (next ∷ more)) (small_item item h.0) (omega arith, small_items (next ∷ more) h.1)

pub copy_small : (pattern : List Known) (name : List ℕ) → AllByRecursion IsShort pattern → Small name → Small (copy_name pattern name)
copy_small pattern name h g = either (are_unknown pattern)
  where
    either : (t : Bool) → Small (cond t name (codes "(" ++ items_text pattern ++ codes ")" ++ name))
    either true = g
    either false = small_append (codes "(" ++ items_text pattern ++ codes ")") name (small_append (codes "(" ++ items_text pattern) (codes ")") (small_append (codes "(") (items_text pattern) (omega arith, tt) (small_items pattern h)) (omega arith, tt)) g

-- ---- names of what is left

number_short : (ty : Scalar) (n : ℕ) → IsTrue (is_number_of ty n) → n < 2 ^ 64
number_short I1 n h = grind (arith, nat_tests, h)
number_short I8 n h = grind (arith, nat_tests, h)
number_short I16 n h = grind (arith, nat_tests, h)
number_short I32 n h = grind (arith, nat_tests, h)
number_short I64 n h = grind (arith, nat_tests, h)
number_short Ptr n h = false_true h

known_short : (p : Param) (known : Known) → IsKnownOf p known → IsShort known
known_short p Unknown h = tt
known_short p (Num n) h = number_short p.ty n h
known_short p Null h = tt

pattern_short : (ps : List Param) (pattern : List Known) → AllZip IsKnownOf ps pattern → AllByRecursion IsShort pattern
pattern_short [] [] h = tt
pattern_short [] (k ∷ ks) h = absurd h
pattern_short (p ∷ ps) [] h = absurd h
pattern_short (p ∷ ps) (k ∷ ks) h = (known_short p k h.0, pattern_short ps ks h.1)

left_small : (start ask : Ask) (name : List ℕ) → AllByRecursion IsShort ask.pattern → Small name → Small (left_name start ask name)
left_small start ask name h g = either (is_entry start ask)
  where
    either : (t : Bool) → Small (if t then name else copy_name ask.pattern name)
    either true = g
    either false = copy_small ask.pattern name h g

abbrev HaveSmallNames : List Item → Type 0
HaveSmallNames items = AllByRecursion (λ i. Small (item_name i)) items

at_place : (items : List Item) (k : ℕ) (i : Item) → HaveSmallNames items → slice_get items k ≡ Some i → Small (item_name i)
at_place [] k i h e = absurd (cc)
at_place (x ∷ xs) ℕ.zero i h e = let is : x ≡ i = cc in subst (λ y. Small (item_name y)) is h.0
at_place (x ∷ xs) (suc k) i h e = at_place xs k i h.1 e

names_small : (items : List Item) (asks : List Ask) (start : Ask) (plan : List Cut) → HaveSmallNames items → AllByRecursion (λ (cut : Cut). IsFunctionFor cut.ask.pattern (slice_get items cut.ask.place)) plan
    → HaveSmallNames (filter_map (λ (cut : Cut). left_item items asks start cut (slice_get items cut.ask.place)) plan)
names_small items asks start [] small h = tt
names_small items asks start (cut ∷ plan) small h = by (slice_get items cut.ask.place) refl h.0 (names_small items asks start plan small h.1)
  where
    by : (o : Option Item) → slice_get items cut.ask.place ≡ o → IsFunctionFor cut.ask.pattern o → HaveSmallNames (filter_map (λ (c : Cut). left_item items asks start c (slice_get items c.ask.place)) plan)
        → HaveSmallNames (cons_option (left_item items asks start cut o) (filter_map (λ (c : Cut). left_item items asks start c (slice_get items c.ask.place)) plan))
    by None e fn rest = absurd fn
    by (Some (item.Var v)) e fn rest = absurd fn
    by (Some (item.Func f)) e fn rest = (left_small start cut.ask f.name (pattern_short f.params cut.ask.pattern fn.1) (at_place items cut.ask.place (item.Func f) small e), rest)

all_plain : (items : List Item) → AllByRecursion (λ i. IsTrue (is_plain_name (item_name i))) items → HaveSmallNames items
all_plain [] h = tt
all_plain (i ∷ is) h = (plain_small (item_name i) h.0, all_plain is h.1)

all_bytes : (items : List Item) → HaveSmallNames items → AllByRecursion (λ i. AreBytes (item_name i)) items
all_bytes [] h = tt
all_bytes (i ∷ is) h = (All-from_recursion (λ byte. byte < 256) (item_name i) h.0, all_bytes is h.1)

-- names of what is left of a module with plain names are bytes
pub left_bytes : (m : Module) (start : Ask) (plan : List Cut) → All (λ i. IsTrue (is_plain_name (item_name i))) m.items → IsPlan m.items start plan → All (λ i. AreBytes (item_name i)) (left_module m start plan).items
left_bytes m start plan plain p =
    let small = all_plain m.items (recursion_from_All (λ i. IsTrue (is_plain_name (item_name i))) m.items plain) in
    let left = names_small m.items (asks_of plan) start plan small (recursion_from_All (λ (cut : Cut). IsFunctionFor cut.ask.pattern (slice_get m.items cut.ask.place)) plan p.functions) in
    All-from_recursion (λ i. AreBytes (item_name i)) (left_items m.items start plan) (all_bytes (left_items m.items start plan) left)

-- ---- other facts of plain names

plain_open : (name : List ℕ) → is_plain_name name ≡ true → begins_as_copy name ≡ false
plain_open [] e = false_true (unquoted_of [] e)
plain_open (b ∷ bs) e = by (nat_eq b 40) refl
  where
    by : (t : Bool) → nat_eq b 40 ≡ t → begins_as_copy (b ∷ bs) ≡ false
    by true f = absurd (plain_first (b ∷ bs) e (ap (λ x. Some x) ((Decides-eqb b 40).0 f)))
    by false f = grind (arith, f)

plain_free : (name : List ℕ) → is_plain_name name ≡ true → is_reserved name ≡ false
plain_free name e =
    let both = and_parts (is_unquoted name && nat_le (length name) 4096) (not (is_reserved name)) e in
    by (is_reserved name) both.1
  where
    by : (t : Bool) → not t ≡ true → t ≡ false
    by true f = false_true f
    by false f = refl

each_plain : (P : List ℕ → Type 0) → ((name : List ℕ) → is_plain_name name ≡ true → P name) → (items : List Item) → AllByRecursion (λ i. IsTrue (is_plain_name (item_name i))) items → AllByRecursion (λ i. P (item_name i)) items
each_plain P f [] h = tt
each_plain P f (i ∷ is) h = (f (item_name i) h.0, each_plain P f is h.1)

all_of : (P : List ℕ → Type 0) → ((name : List ℕ) → is_plain_name name ≡ true → P name) → (items : List Item) → All (λ i. IsTrue (is_plain_name (item_name i))) items → All (λ i. P (item_name i)) items
all_of P f items h = All-from_recursion (λ i. P (item_name i)) items (each_plain P f items (recursion_from_All (λ i. IsTrue (is_plain_name (item_name i))) items h))

pub no_copies : (items : List Item) → All (λ i. IsTrue (is_plain_name (item_name i))) items → HaveNoCopyNames items
no_copies items h = all_of (λ name. begins_as_copy name ≡ false) plain_open items h

pub no_intrinsics : (items : List Item) → All (λ i. IsTrue (is_plain_name (item_name i))) items → HaveNoReservedNames items
no_intrinsics items h = all_of (λ name. is_reserved name ≡ false) plain_free items h

pub names_apart : (items : List Item) → All (λ i. IsTrue (is_plain_name (item_name i))) items → All (λ i. first_byte (item_name i) ≢ Some 40) items
names_apart items h = all_of (λ name. first_byte name ≢ Some 40) plain_first items h
