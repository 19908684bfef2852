-- A row that is read is that of a demand, and each demand's row is read as the demand.
use Rattle.std.proofs.Common.{◌≡◌, ℕ, ◌+◌, ◌*◌, ◌/◌, ◌%◌, ◌≤◌, eqb, Bool, true, false, cond, ◌&&◌, List, [], ◌∷◌, Option, None, Some, map, refl, ap, subst, ◌∙◌, arith}
use Rattle.std.specs.Prelude.{option_and_then}
use Rattle.std.specs.Option.{option_map}
use Rattle.std.specs.List.{AllZip}
use Rattle.std.proofs.lemmas.Option.{none-some, cond_some, option_and_then_some}
use Rattle.std.proofs.lemmas.Bool.Decides.{nat_tests}
use Rattle.ir_types.specs.declared.scalar.Known.{Known}
use Rattle.ir_types.specs.declared.scalar.Known.TheVariants.{Unknown, Num, Null}
use Rattle.ir_syntax.specs.declared.item.Param.{Param}
use Rattle.ir_syntax.specs.Suits.{is_number_of, is_pointer}
use Rattle.demands.specs.Order.{number_of}
use Rattle.demands.specs.Rows.{number_bit, null_bit, bits_by}
use Rattle.demands.specs.Demands.{IsKnownOf}
use Rattle.demands.specs.Reading.{is_null_of, read_known, read_items}
use Rattle.demands.proofs.Bits.{number_bit-le, null_bit-le}

-- ---- tests and numbers

pub both : (a b : Bool) → (a && b) ≡ true → (a ≡ true) × (b ≡ true)
both true true e = (refl, refl)
both true false e = absurd (cc)
both false b e = absurd (cc)

pub map_some : {A B : Type 0} (f : A → B) (o : Option A) (y : B) → option_map f o ≡ Some y → (x : A) × (o ≡ Some x) × (f x ≡ y)
map_some f None y e = absurd (none-some y e)
map_some f (Some x) y e = (x, refl, cc)

parity : (n : ℕ) → cond (eqb (n % 2) 1) 1 0 ≡ n % 2
parity n = grind (arith, nat_tests)

even : (a b : ℕ) → a ≡ 0 → eqb ((a + 2 * b) % 2) 1 ≡ false
even a b e = grind (arith, nat_tests)

odd : (a b : ℕ) → a ≡ 1 → eqb ((a + 2 * b) % 2) 1 ≡ true
odd a b e = grind (arith, nat_tests)

half : (a b : ℕ) → a ≤ 1 → (a + 2 * b) / 2 ≡ b
half a b h = omega arith

-- ---- one item

record IsReadAs (param : Param) (number null : Bool) (word : ℕ) (known : Known) : Type 0 where
  suits : IsKnownOf param known
  number_is : number_bit known ≡ cond number 1 0
  null_is : null_bit known ≡ cond null 1 0
  word_is : number_of known ≡ word

read_known-sound : (param : Param) (number null : Bool) (word : ℕ) (known : Known) → read_known param.ty number null word ≡ Some known → IsReadAs param number null word known
read_known-sound param true true word known e = absurd (none-some known e)
read_known-sound param true false word known e =
    let s = cond_some (is_number_of param.ty word) (Num word) known e in
    subst (IsReadAs param true false word) s.1 (record { suits = s.0; number_is = refl; null_is = refl; word_is = refl })
read_known-sound param false true word known e =
    let s = cond_some (is_null_of param.ty word) Null known e in
    let b = both (is_pointer param.ty) (eqb word 0) s.0 in
    subst (IsReadAs param false true word) s.1 (record { suits = b.0; number_is = refl; null_is = refl; word_is = grind (arith, nat_tests, b.1) })
read_known-sound param false false word known e =
    let s = cond_some (eqb word 0) Unknown known e in
    subst (IsReadAs param false false word) s.1 (record { suits = tt; number_is = refl; null_is = refl; word_is = grind (arith, nat_tests, s.0) })

read_known-complete : (param : Param) (known : Known) (numbers nulls : ℕ) → IsKnownOf param known
    → read_known param.ty (eqb ((number_bit known + 2 * numbers) % 2) 1) (eqb ((null_bit known + 2 * nulls) % 2) 1) (number_of known) ≡ Some known
read_known-complete param Unknown numbers nulls h =
    λ i. read_known param.ty (even 0 numbers refl i) (even 0 nulls refl i) 0
read_known-complete param (Num n) numbers nulls h =
    (λ i. read_known param.ty (odd 1 numbers refl i) (even 0 nulls refl i) n) ∙ ap (λ (b : Bool). cond b (Some (Num n)) None) h
read_known-complete param Null numbers nulls h =
    (λ i. read_known param.ty (even 0 numbers refl i) (odd 1 nulls refl i) 0) ∙ ap (λ (b : Bool). cond (b && true) (Some Null) None) h

-- ---- all items

pub record AreReadAs (params : List Param) (numbers nulls : ℕ) (words : List ℕ) (items : List Known) : Type 0 where
  pub suits : AllZip IsKnownOf params items
  pub numbers_are : bits_by number_bit items ≡ numbers
  pub nulls_are : bits_by null_bit items ≡ nulls
  pub words_are : map number_of items ≡ words

pub read_items-sound : (params : List Param) (numbers nulls : ℕ) (words : List ℕ) (items : List Known) → read_items params numbers nulls words ≡ Some items → AreReadAs params numbers nulls words items
read_items-sound [] numbers nulls [] items e =
    let s = cond_some (eqb numbers 0 && eqb nulls 0) [] items e in
    let b = both (eqb numbers 0) (eqb nulls 0) s.0 in
    subst (AreReadAs [] numbers nulls []) s.1 (record { suits = tt; numbers_are = grind (arith, nat_tests, b.0); nulls_are = grind (arith, nat_tests, b.1); words_are = refl })
read_items-sound [] numbers nulls (word ∷ words) items e = absurd (none-some items e)
read_items-sound (param ∷ params) numbers nulls [] items e = absurd (none-some items e)
read_items-sound (param ∷ params) numbers nulls (word ∷ words) items e =
    option_and_then_some (λ (known : Known). option_map (λ (rest : List Known). known ∷ rest) (read_items params (numbers / 2) (nulls / 2) words)) (read_known param.ty (eqb (numbers % 2) 1) (eqb (nulls % 2) 1) word) items e
    (λ known first others.
    let one = read_known-sound param (eqb (numbers % 2) 1) (eqb (nulls % 2) 1) word known first in
    let more = map_some (λ (rest : List Known). known ∷ rest) (read_items params (numbers / 2) (nulls / 2) words) items others in
    let all = read_items-sound params (numbers / 2) (nulls / 2) words more.0 more.1 in
    subst (AreReadAs (param ∷ params) numbers nulls (word ∷ words)) more.2 (record {
      suits = (one.suits, all.suits);
      numbers_are = omega (arith, one.number_is, parity numbers, all.numbers_are);
      nulls_are = omega (arith, one.null_is, parity nulls, all.nulls_are);
      words_are = λ i. one.word_is i ∷ all.words_are i;
    }))

pub read_items-complete : (params : List Param) (items : List Known) → AllZip IsKnownOf params items → read_items params (bits_by number_bit items) (bits_by null_bit items) (map number_of items) ≡ Some items
read_items-complete [] [] h = refl
read_items-complete [] (item ∷ items) h = elim h [ ]
read_items-complete (param ∷ params) [] h = elim h [ ]
read_items-complete (param ∷ params) (item ∷ items) h =
    let numbers : ℕ = bits_by number_bit items in
    let nulls : ℕ = bits_by null_bit items in
    let put = λ (rest : List Known). item ∷ rest in
    let step = λ (known : Known). option_map (λ (rest : List Known). known ∷ rest) (read_items params ((number_bit item + 2 * numbers) / 2) ((null_bit item + 2 * nulls) / 2) (map number_of items)) in
    ap (option_and_then step) (read_known-complete param item numbers nulls h.0)
    ∙ (λ i. option_map put (read_items params (half (number_bit item) numbers (number_bit-le item) i) (half (null_bit item) nulls (null_bit-le item) i) (map number_of items)))
    ∙ ap (option_map put) (read_items-complete params items h.1)
