-- Names of copies are names: of at most 4,096 bytes, none of them zero, and none that LLVM reserves.
use Rattle.std.proofs.Common.{◌≡◌, ◌≢◌, ◌∙◌, ℕ, suc, ◌+◌, ◌*◌, ◌%◌, ◌^◌, ◌<◌, ◌≤◌, false, List, [], ◌∷◌, ◌++◌, length, refl, ap, sym, subst, arith, length-append}
use Rattle.std.specs.Prelude.{codes, IsTrue}
use Rattle.std.specs.List.{AllZip}
use Rattle.std.specs.Fmt.{decimal}
use Rattle.std.proofs.lemmas.Bool.{false≢true, ltb-true}
use Rattle.std.proofs.lemmas.Fmt.{decimal_by_steps, length-decimal-le}
use Rattle.ir_types.specs.declared.scalar.Scalar.{Scalar}
use Rattle.ir_types.specs.declared.scalar.Scalar.TheVariants.{I1, I8, I16, I32, I64, Ptr}
use Rattle.ir_types.specs.declared.scalar.Known.{Known}
use Rattle.ir_types.specs.declared.scalar.Known.TheVariants.{Unknown, Num, Null}
use Rattle.ir_types.specs.Names.{IsName}
use Rattle.ir_types.specs.Scalars.{is_number_of}
use Rattle.ir_syntax.specs.declared.item.Param.{Param}
use Rattle.ir_syntax.specs.FormedItem.{is_reserved}
use Rattle.fold_facts.specs.Operands.{known_fact}
use Rattle.fold_facts.specs.OfFunction.{IsFactOf}
use Rattle.demands.specs.Order.{number_of}
use Rattle.demands.specs.Names.{item_text, items_text, are_unknown, copy_name, AreWords}
use Rattle.residual_laws.proofs.Every.{Every, every_of_all, all_of_every, every_append}
use Rattle.linking_again.proofs.Suiting.{copy_text}

-- ---- patterns

number_short : (ty : Scalar) (n : ℕ) → IsTrue (is_number_of ty n) → n < 2 ^ 64
number_short I1 n h = omega (arith, ltb-true n 2 h)
number_short I8 n h = omega (arith, ltb-true n (2 ^ 8) h)
number_short I16 n h = omega (arith, ltb-true n (2 ^ 16) h)
number_short I32 n h = omega (arith, ltb-true n (2 ^ 32) h)
number_short I64 n h = ltb-true n (2 ^ 64) h
number_short Ptr n h = absurd (false≢true h)

one_word : (ty : Scalar) (item : Known) → IsFactOf ty (known_fact item) → number_of item < 2 ^ 64
one_word ty Unknown h = omega arith
one_word ty (Num n) h = number_short ty n h
one_word ty Null h = omega arith

-- what may be known of parameters are words
pub known_words : (params : List Param) (pattern : List Known) → AllZip (λ (param : Param) item. IsFactOf param.ty (known_fact item)) params pattern → AreWords pattern
known_words [] [] h = tt
known_words [] (item ∷ more) h = absurd h
known_words (param ∷ params) [] h = absurd h
known_words (param ∷ params) (item ∷ more) h = (one_word param.ty item h.0, known_words params more h.1)

pub known_long : (params : List Param) (pattern : List Known) → AllZip (λ (param : Param) item. IsFactOf param.ty (known_fact item)) params pattern → length pattern ≡ length params
known_long [] [] h = refl
known_long [] (item ∷ more) h = absurd h
known_long (param ∷ params) [] h = absurd h
known_long (param ∷ params) (item ∷ more) h = ap suc (known_long params more h.1)

-- ---- lengths

item_length : (item : Known) → number_of item < 2 ^ 64 → length (item_text item) ≤ 20
item_length Unknown h = omega arith
item_length (Num n) h = length-decimal-le 20 n (omega arith) (omega (arith, h)) h
item_length Null h = omega arith

items_length : (items : List Known) → AreWords items → length (items_text items) ≤ 21 * length items
items_length [] h = omega arith
items_length (item ∷ []) h = omega (arith, item_length item h.0)
items_length (item ∷ next ∷ more) h =
    let one : length (item_text item) ≤ 20 = item_length item h.0 in
    let rest : length (items_text (next ∷ more)) ≤ 21 * length (next ∷ more) = items_length (next ∷ more) h.1 in
    let all : length (item_text item ++ 44 ∷ items_text (next ∷ more)) ≡ length (item_text item) + suc (length (items_text (next ∷ more))) = length-append (item_text item) (44 ∷ items_text (next ∷ more)) in
    omega (arith, one, rest, all)

-- ---- bytes

abbrev NoZero : List ℕ → Type 0
NoZero bytes = Every (λ byte. byte ≢ 0) bytes

decimal_bytes : (n : ℕ) → n < 2 ^ 64 → NoZero (decimal n)
decimal_bytes = decimal_by_steps (λ n ds. NoZero ds) (λ n h. ((λ e. omega arith), tt)) (λ n ds h d. every_append (λ byte. byte ≢ 0) ds ((48 + n % 10) ∷ []) d ((λ e. omega arith), tt))

item_bytes : (item : Known) → number_of item < 2 ^ 64 → NoZero (item_text item)
item_bytes Unknown h = ((λ e. omega arith), tt)
item_bytes (Num n) h = decimal_bytes n h
item_bytes Null h = ((λ e. omega arith), ((λ e. omega arith), ((λ e. omega arith), ((λ e. omega arith), tt))))

items_bytes : (items : List Known) → AreWords items → NoZero (items_text items)
items_bytes [] h = tt
items_bytes (item ∷ []) h = item_bytes item h.0
items_bytes (item ∷ next ∷ more) h = every_append (λ byte. byte ≢ 0) (item_text item) (44 ∷ items_text (next ∷ more)) (item_bytes item h.0) ((λ e. omega arith), items_bytes (next ∷ more) h.1)

-- ---- names

-- A copy of a function with a short name and few parameters has a name.
pub copy_is_name : (pattern : List Known) (name : List ℕ) → AreWords pattern → length pattern ≤ 32 → are_unknown pattern ≡ false → IsName name → length name ≤ 3072 → IsName (copy_name pattern name)
copy_is_name pattern name words few known is short = subst IsName (sym (copy_text pattern name known)) (record {
  not_empty = omega (arith, long);
  short = omega (arith, long, items_length pattern words, few, short);
  no_zero = all_of_every (λ byte. byte ≢ 0) (codes "(" ++ items_text pattern ++ codes ")" ++ name) (every_append (λ byte. byte ≢ 0) (codes "(" ++ items_text pattern ++ codes ")") name
      (every_append (λ byte. byte ≢ 0) (codes "(" ++ items_text pattern) (codes ")") ((λ e. omega arith), items_bytes pattern words) ((λ e. omega arith), tt)) (every_of_all (λ byte. byte ≢ 0) name is.no_zero));
})
  where
    long : length (codes "(" ++ items_text pattern ++ codes ")" ++ name) ≡ suc (length (items_text pattern) + suc (length name))
    long =
        let one : length (codes "(" ++ items_text pattern ++ codes ")" ++ name) ≡ length (codes "(" ++ items_text pattern ++ codes ")") + length name = length-append (codes "(" ++ items_text pattern ++ codes ")") name in
        let two : length (codes "(" ++ items_text pattern ++ codes ")") ≡ length (codes "(" ++ items_text pattern) + 1 = length-append (codes "(" ++ items_text pattern) (codes ")") in
        let three : length (codes "(" ++ items_text pattern) ≡ suc (length (items_text pattern)) = refl in
        omega (arith, one, two, three)

pub copy_not_reserved : (pattern : List Known) (name : List ℕ) → are_unknown pattern ≡ false → is_reserved (copy_name pattern name) ≡ false
copy_not_reserved pattern name known = ap is_reserved (copy_text pattern name known) ∙ refl
