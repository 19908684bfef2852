-- What is read of a row is a demand of the program, and no demand is missed.
use Rattle.std.proofs.Common.{◌≡◌, ℕ, ◌+◌, ◌*◌, ◌/◌, ◌%◌, ◌^◌, ◌<◌, ◌≤◌, eqb, Bool, true, false, cond, ◌&&◌, List, [], ◌∷◌, length, Option, None, Some, map, refl, ap, sym, subst, ◌∙◌, arith}
use Rattle.std.specs.Prelude.{is_some, nat_lt, nat_le}
use Rattle.std.specs.Option.{option_map}
use Rattle.std.specs.List.{AllZip}
use Rattle.std.proofs.lemmas.List.{length-map}
use Rattle.std.proofs.lemmas.Option.{none-some, cond_some}
use Rattle.std.proofs.lemmas.Bool.Decides.{nat_tests}
use Rattle.ir_types.specs.declared.scalar.Known.{Known}
use Rattle.ir_syntax.specs.declared.symbol.Sym.{Sym}
use Rattle.ir_syntax.specs.declared.item.Param.{Param}
use Rattle.ir_syntax.specs.declared.item.Item.{Item}
use Rattle.ir_syntax.specs.declared.item.Item.TheVariants as item
use Rattle.ir_syntax.specs.declared.item.Module.{Module}
use Rattle.demands.specs.declared.demand.Demand.{Demand}
use Rattle.demands.specs.declared.demand.Demand.TheVariants.{Func, Var}
use Rattle.demands.specs.Order.{number_of}
use Rattle.demands.specs.Rows.{number_bit, null_bit, bits_by, pattern_bits, place_word, words_of, IsShortSymbol, FitsRow}
use Rattle.demands.specs.Demands.{IsKnownOf, IsVariable, IsFunctionFor, IsDemand, item_at}
use Rattle.demands.specs.Reading.{is_empty, read_items, read_pattern, read_symbol, read_at, read_row}
use Rattle.demands.proofs.Bits.{number_bit-le, bits_by-lt}
use Rattle.demands.proofs.SameDemand.{row-same}
use Rattle.demands.proofs.RowReading.{both, map_some, read_items-sound, read_items-complete}

-- ---- patterns

record IsPattern (params : List Param) (bits : ℕ) (words : List ℕ) (pattern : List Known) : Type 0 where
  suits : AllZip IsKnownOf params pattern
  bits_are : pattern_bits pattern ≡ bits
  words_are : map number_of pattern ≡ words

pattern-sound : (params : List Param) (bits : ℕ) (words : List ℕ) (pattern : List Known) → read_pattern params bits words ≡ Some pattern → IsPattern params bits words pattern
pattern-sound params bits words pattern e =
    let small = some_then (nat_le (length params) 32 && eqb (length words) (length params)) (read_items params (bits % 2 ^ 32) (bits / 2 ^ 32) words) pattern e in
    let all = read_items-sound params (bits % 2 ^ 32) (bits / 2 ^ 32) words pattern small in
    record { suits = all.suits; bits_are = omega (arith, all.numbers_are, all.nulls_are); words_are = all.words_are }
  where
    some_then : (b : Bool) (o : Option (List Known)) (y : List Known) → cond b o None ≡ Some y → o ≡ Some y
    some_then true o y h = h
    some_then false o y h = absurd (none-some y h)

length-zip : (params : List Param) (items : List Known) → AllZip IsKnownOf params items → length params ≡ length items
length-zip [] [] h = refl
length-zip [] (y ∷ ys) h = elim h [ ]
length-zip (x ∷ xs) [] h = elim h [ ]
length-zip (x ∷ xs) (y ∷ ys) h = omega (arith, length-zip xs ys h.1)

pattern-complete : (params : List Param) (pattern : List Known) → length pattern ≤ 32 → AllZip IsKnownOf params pattern → read_pattern params (pattern_bits pattern) (map number_of pattern) ≡ Some pattern
pattern-complete params pattern few h =
    let numbers : ℕ = bits_by number_bit pattern in
    let nulls : ℕ = bits_by null_bit pattern in
    let long = length-zip params pattern h in
    let low = bits_by-lt number_bit number_bit-le pattern 32 few in
    let first : (numbers + 2 ^ 32 * nulls) % 2 ^ 32 ≡ numbers = omega arith in
    let second : (numbers + 2 ^ 32 * nulls) / 2 ^ 32 ≡ nulls = omega arith in
    let fits : (nat_le (length params) 32 && eqb (length (map number_of pattern)) (length params)) ≡ true = grind (arith, nat_tests, long, length-map pattern number_of) in
    ap (λ (b : Bool). cond b (read_items params (pattern_bits pattern % 2 ^ 32) (pattern_bits pattern / 2 ^ 32) (map number_of pattern)) None) fits
    ∙ (λ i. read_items params (first i) (second i) (map number_of pattern))
    ∙ read_items-complete params pattern h

-- ---- symbols

symbol-of : (symbol : Sym) (kind : ℕ) → IsShortSymbol symbol → kind ≤ 1 → read_symbol (place_word symbol kind) ≡ symbol
symbol-of symbol kind h low =
    let first : (symbol.module * 2 ^ 33 + symbol.item * 2 + kind) / 2 ^ 33 ≡ symbol.module = omega (arith, h.short_item) in
    let second : (symbol.module * 2 ^ 33 + symbol.item * 2 + kind) / 2 % 2 ^ 32 ≡ symbol.item = omega (arith, h.short_item) in
    λ i. record { «module» = first i; item = second i }

kind-of : (symbol : Sym) (kind : ℕ) → kind ≤ 1 → place_word symbol kind % 2 ≡ kind
kind-of symbol kind low = omega arith

place-of : (place : ℕ) → place_word (read_symbol place) (place % 2) ≡ place
place-of place = omega arith

short-of : (place : ℕ) → place < 2 ^ 64 → IsShortSymbol (read_symbol place)
short-of place h = record { short_module = omega arith; short_item = omega arith }

-- ---- demands

record IsFound (modules : List Module) (place bits : ℕ) (words : List ℕ) (d : Demand) : Type 0 where
  demand : IsDemand modules d
  words_are : words_of d ≡ place ∷ bits ∷ words

empty : (words : List ℕ) → is_empty words ≡ true → [] ≡ words
empty [] e = refl
empty (word ∷ words) e = absurd (cc)

cond_func : (b : Bool) (o : Option Demand) (d : Demand) → cond b o None ≡ Some d → (b ≡ true) × (o ≡ Some d)
cond_func true o d e = (refl, e)
cond_func false o d e = absurd (none-some d e)

at-sound : (modules : List Module) (symbol : Sym) (kind bits : ℕ) (words : List ℕ) (d : Demand) (found : Option Item) → IsShortSymbol symbol → found ≡ item_at modules symbol
    → read_at symbol kind bits words found ≡ Some d → IsFound modules (place_word symbol kind) bits words d
at-sound modules symbol kind bits words d None short is e = absurd (none-some d e)
at-sound modules symbol kind bits words d (Some (item.Var var)) short is e =
    let s = cond_some (eqb kind 1 && is_some var.init && eqb bits 0 && is_empty words) (Var symbol) d e in
    let a = both (eqb kind 1 && is_some var.init && eqb bits 0) (is_empty words) s.0 in
    let b = both (eqb kind 1 && is_some var.init) (eqb bits 0) a.0 in
    let c = both (eqb kind 1) (is_some var.init) b.0 in
    let kind_is : 1 ≡ kind = grind (arith, nat_tests, c.0) in
    let bits_are : 0 ≡ bits = grind (arith, nat_tests, b.1) in
    subst (IsFound modules (place_word symbol kind) bits words) s.1 (record {
      demand = record { short = short; defined = subst IsVariable is c.1 };
      words_are = λ i. place_word symbol (kind_is i) ∷ bits_are i ∷ empty words a.1 i;
    })
at-sound modules symbol kind bits words d (Some (item.Func func)) short is e =
    let s = cond_func (eqb kind 0 && is_some func.body) (option_map (λ (pattern : List Known). Func symbol pattern) (read_pattern func.params bits words)) d e in
    let a = both (eqb kind 0) (is_some func.body) s.0 in
    let kind_is : 0 ≡ kind = grind (arith, nat_tests, a.0) in
    let m = map_some (λ (pattern : List Known). Func symbol pattern) (read_pattern func.params bits words) d s.1 in
    let p = pattern-sound func.params bits words m.0 m.1 in
    subst (IsFound modules (place_word symbol kind) bits words) m.2 (record {
      demand = record { short = short; defined = subst (IsFunctionFor m.0) is (a.1, p.suits) };
      words_are = λ i. place_word symbol (kind_is i) ∷ p.bits_are i ∷ p.words_are i;
    })

demand-sound : (modules : List Module) (place bits : ℕ) (words : List ℕ) (d : Demand) → place < 2 ^ 64
    → read_at (read_symbol place) (place % 2) bits words (item_at modules (read_symbol place)) ≡ Some d → IsDemand modules d × (words_of d ≡ place ∷ bits ∷ words)
demand-sound modules place bits words d small e =
    let f = at-sound modules (read_symbol place) (place % 2) bits words d (item_at modules (read_symbol place)) (short-of place small) refl e in
    (f.demand, f.words_are ∙ ap (λ (p : ℕ). p ∷ bits ∷ words) (place-of place))

variable-complete : (symbol : Sym) (found : Option Item) → IsVariable found → read_at symbol 1 0 [] found ≡ Some (Var symbol)
variable-complete symbol None h = elim h [ ]
variable-complete symbol (Some (item.Var var)) h = ap (λ (b : Bool). cond (b && true && true) (Some (Var symbol)) None) h
variable-complete symbol (Some (item.Func func)) h = elim h [ ]

function-complete : (symbol : Sym) (pattern : List Known) (found : Option Item) → length pattern ≤ 32 → IsFunctionFor pattern found → read_at symbol 0 (pattern_bits pattern) (map number_of pattern) found ≡ Some (Func symbol pattern)
function-complete symbol pattern None few h = elim h [ ]
function-complete symbol pattern (Some (item.Var var)) few h = elim h [ ]
function-complete symbol pattern (Some (item.Func func)) few h =
    let put = λ (items : List Known). Func symbol items in
    ap (λ (b : Bool). cond b (option_map put (read_pattern func.params (pattern_bits pattern) (map number_of pattern))) None) h.0
    ∙ ap (option_map put) (pattern-complete func.params pattern few h.1)

heads : (x y : ℕ) (xs ys : List ℕ) → x ∷ xs ≡ y ∷ ys → x ≡ y
heads x y xs ys e = cc

tails : (x y : ℕ) (xs ys : List ℕ) → x ∷ xs ≡ y ∷ ys → xs ≡ ys
tails x y xs ys e = cc

-- the reading of the row with these words
read : List Module → ℕ → ℕ → List ℕ → Option Demand
read modules place bits words = read_at (read_symbol place) (place % 2) bits words (item_at modules (read_symbol place))

at-place : (modules : List Module) (symbol : Sym) (kind bits : ℕ) (words : List ℕ) → IsShortSymbol symbol → kind ≤ 1 → read modules (place_word symbol kind) bits words ≡ read_at symbol kind bits words (item_at modules symbol)
unfolding read
at-place modules symbol kind bits words short low =
    λ i. read_at (symbol-of symbol kind short low i) (kind-of symbol kind low i) bits words (item_at modules (symbol-of symbol kind short low i))

at-row : (modules : List Module) (place bits from more : ℕ) (words others : List ℕ) → from ∷ more ∷ others ≡ place ∷ bits ∷ words → read modules place bits words ≡ read modules from more others
at-row modules place bits from more words others e =
    let rest = tails from place (more ∷ others) (bits ∷ words) e in
    λ i. read modules (sym (heads from place (more ∷ others) (bits ∷ words) e) i) (sym (heads more bits others words rest) i) (sym (tails more bits others words rest) i)

complete : (modules : List Module) (place bits : ℕ) (words : List ℕ) (d : Demand) → length words ≤ 32 → IsDemand modules d → words_of d ≡ place ∷ bits ∷ words → read modules place bits words ≡ Some d
complete modules place bits words (Var symbol) few h e =
    at-row modules place bits (place_word symbol 1) 0 words [] e ∙ at-place modules symbol 1 0 [] h.short (omega arith) ∙ variable-complete symbol (item_at modules symbol) h.defined
complete modules place bits words (Func symbol pattern) few h e =
    let rest = tails (place_word symbol 0) place (pattern_bits pattern ∷ map number_of pattern) (bits ∷ words) e in
    let long : length (map number_of pattern) ≡ length words = ap length (tails (pattern_bits pattern) bits (map number_of pattern) words rest) in
    at-row modules place bits (place_word symbol 0) (pattern_bits pattern) words (map number_of pattern) e
    ∙ at-place modules symbol 0 (pattern_bits pattern) (map number_of pattern) h.short (omega arith)
    ∙ function-complete symbol pattern (item_at modules symbol) (omega (arith, long, length-map pattern number_of)) h.defined

-- ---- rows

no-row : (d : Demand) → words_of d ≡ [] → ⊥
no-row (Func symbol pattern) e = cc
no-row (Var symbol) e = cc

no-short-row : (d : Demand) (place : ℕ) → words_of d ≡ place ∷ [] → ⊥
no-short-row (Func symbol pattern) place e = cc
no-short-row (Var symbol) place e = cc

-- the place of a demand is a word
place-short : (modules : List Module) (place bits : ℕ) (words : List ℕ) (d : Demand) → IsDemand modules d → words_of d ≡ place ∷ bits ∷ words → nat_lt place (2 ^ 64) ≡ true
place-short modules place bits words (Var symbol) h e =
    let first = heads (place_word symbol 1) place (0 ∷ []) (bits ∷ words) e in
    let small : place < 2 ^ 64 = omega (arith, first, h.short.short_module, h.short.short_item) in
    grind (arith, nat_tests, small)
place-short modules place bits words (Func symbol pattern) h e =
    let first = heads (place_word symbol 0) place (pattern_bits pattern ∷ map number_of pattern) (bits ∷ words) e in
    let small : place < 2 ^ 64 = omega (arith, first, h.short.short_module, h.short.short_item) in
    grind (arith, nat_tests, small)

-- what is read of a row is a demand that has it
pub row-sound : (modules : List Module) (row : List ℕ) (d : Demand) → read_row modules row ≡ Some d → IsDemand modules d × (words_of d ≡ row)
row-sound modules [] d e = absurd (none-some d e)
row-sound modules (place ∷ []) d e = absurd (none-some d e)
row-sound modules (place ∷ bits ∷ words) d e =
    let s = cond_func (nat_lt place (2 ^ 64)) (read_at (read_symbol place) (place % 2) bits words (item_at modules (read_symbol place))) d e in
    let small : place < 2 ^ 64 = grind (arith, nat_tests, s.0) in
    demand-sound modules place bits words d small s.1

-- each demand is read from its row
pub row-complete : (modules : List Module) (row : List ℕ) (d : Demand) → length row ≤ 34 → IsDemand modules d → words_of d ≡ row → read_row modules row ≡ Some d
unfolding read
row-complete modules [] d few h e = absurd (no-row d e)
row-complete modules (place ∷ []) d few h e = absurd (no-short-row d place e)
row-complete modules (place ∷ bits ∷ words) d few h e =
    ap (λ (b : Bool). cond b (read modules place bits words) None) (place-short modules place bits words d h e)
    ∙ complete modules place bits words d (omega (arith, few)) h e

fits-row : (modules : List Module) (d : Demand) → length (words_of d) ≤ 34 → IsDemand modules d → FitsRow d
fits-row modules (Var symbol) few h = record { symbol = h.short; items = omega arith }
fits-row modules (Func symbol pattern) few h = record { symbol = h.short; items = omega (arith, length-map pattern number_of) }

pub one-demand : (modules : List Module) (row : List ℕ) (d e : Demand) → length row ≤ 34 → IsDemand modules d → IsDemand modules e → words_of d ≡ row → words_of e ≡ row → d ≡ e
one-demand modules row d e few h g r s =
    row-same d e (fits-row modules d (subst (λ (words : List ℕ). length words ≤ 34) (sym r) few) h) (fits-row modules e (subst (λ (words : List ℕ). length words ≤ 34) (sym s) few) g) (r ∙ sym s)
