-- Demands that the order ties are one, and demands of one row are one.
use Rattle.std.proofs.Common.{◌≡◌, ℕ, ◌+◌, ◌*◌, ◌^◌, ◌<◌, ◌≤◌, ◌↔◌, List, [], ◌∷◌, length, map, Ordering, Less, Equal, Greater, ⊎_elim, refl, ap, sym, subst, ◌∙◌, arith}
use Rattle.std.specs.Ordering.{nat_cmp, ordering_then}
use Rattle.std.specs.Cmp.Lexicographic.{slice_cmp}
use Rattle.std.proofs.lemmas.Bool.{cases_order}
use Rattle.std.proofs.lemmas.Bool.Decides.{nat_tests}
use Rattle.std.proofs.lemmas.Cmp.{tied_itself}
use Rattle.ir_types.specs.declared.scalar.Known.{Known}
use Rattle.ir_types.specs.declared.scalar.Known.TheVariants.{Unknown, Num, Null}
use Rattle.ir_syntax.specs.declared.symbol.Sym.{Sym}
use Rattle.demands.specs.declared.demand.Demand.{Demand}
use Rattle.demands.specs.declared.demand.Demand.TheVariants.{Func, Var}
use Rattle.demands.specs.Order.{kind_of, number_of, symbol_of, known_order, pattern_order, symbol_order, demand_order}
use Rattle.demands.specs.Rows.{number_bit, null_bit, bits_by, pattern_bits, place_word, words_of, IsShortSymbol, FitsRow, IsInRowOrder}
use Rattle.demands.proofs.Bits.{number_bit-le, null_bit-le, bits_by-lt}
use Rattle.demands.specs.TotalOrder.{demand_total}

-- ---- ties

nat-tied : (x y : ℕ) → nat_cmp x y ≡ Equal → x ≡ y
nat-tied x y e = grind (arith, nat_tests)

then-tied : (o p : Ordering) → ordering_then o p ≡ Equal → (o ≡ Equal) × (p ≡ Equal)
then-tied Less p e = absurd (cc)
then-tied Equal p e = (refl, e)
then-tied Greater p e = absurd (cc)

known-same : (a b : Known) → kind_of a ≡ kind_of b → number_of a ≡ number_of b → a ≡ b
known-same Unknown Unknown e f = refl
known-same Unknown (Num n) e f = absurd (omega arith)
known-same Unknown Null e f = absurd (omega arith)
known-same (Num n) Unknown e f = absurd (omega arith)
known-same (Num m) (Num n) e f = ap Num f
known-same (Num n) Null e f = absurd (omega arith)
known-same Null Unknown e f = absurd (omega arith)
known-same Null (Num n) e f = absurd (omega arith)
known-same Null Null e f = refl

known-tied : (a b : Known) → known_order a b ≡ Equal → a ≡ b
known-tied a b e =
    let t = then-tied (nat_cmp (kind_of a) (kind_of b)) (nat_cmp (number_of a) (number_of b)) e in
    known-same a b (nat-tied (kind_of a) (kind_of b) t.0) (nat-tied (number_of a) (number_of b) t.1)

pattern-tied : (p q : List Known) → pattern_order p q ≡ Equal → p ≡ q
pattern-tied [] [] e = refl
pattern-tied [] (y ∷ ys) e = absurd (cc)
pattern-tied (x ∷ xs) [] e = absurd (cc)
pattern-tied (x ∷ xs) (y ∷ ys) e =
    let t = then-tied (known_order x y) (pattern_order xs ys) e in
    λ i. known-tied x y t.0 i ∷ pattern-tied xs ys t.1 i

pub symbol-tied : (s t : Sym) → symbol_order s t ≡ Equal → s ≡ t
symbol-tied s t e =
    let h = then-tied (nat_cmp s.module t.module) (nat_cmp s.item t.item) e in
    λ i. record { «module» = nat-tied s.module t.module h.0 i; item = nat-tied s.item t.item h.1 i }

demand-tied : (a b : Demand) → demand_order a b ≡ Equal → a ≡ b
demand-tied (Var s) (Var t) e = ap Var (symbol-tied s t (then-tied (symbol_order s t) Equal e).0)
demand-tied (Var s) (Func t q) e = absurd (cc)
demand-tied (Func s p) (Var t) e = absurd (cc)
demand-tied (Func s p) (Func t q) e =
    let h = then-tied (symbol_order s t) (pattern_order p q) e in
    λ i. Func (symbol-tied s t h.0 i) (pattern-tied p q h.1 i)

pub equal-is-same : (a b : Demand) → (demand_order a b ≡ Equal) ↔ (a ≡ b)
equal-is-same a b = (demand-tied a b, λ e. subst (λ (d : Demand). demand_order a d ≡ Equal) e (tied_itself demand_total a))

-- ---- one row

heads : (x y : ℕ) (xs ys : List ℕ) → x ∷ xs ≡ y ∷ ys → x ≡ y
heads x y xs ys e = cc

tails : (x y : ℕ) (xs ys : List ℕ) → x ∷ xs ≡ y ∷ ys → xs ≡ ys
tails x y xs ys e = cc

bits-same : (a b : Known) → number_bit a ≡ number_bit b → null_bit a ≡ null_bit b → number_of a ≡ number_of b → a ≡ b
bits-same Unknown Unknown e f g = refl
bits-same Unknown (Num n) e f g = absurd (omega arith)
bits-same Unknown Null e f g = absurd (omega arith)
bits-same (Num n) Unknown e f g = absurd (omega arith)
bits-same (Num m) (Num n) e f g = ap Num g
bits-same (Num n) Null e f g = absurd (omega arith)
bits-same Null Unknown e f g = absurd (omega arith)
bits-same Null (Num n) e f g = absurd (omega arith)
bits-same Null Null e f g = refl

items-same : (p q : List Known) → bits_by number_bit p ≡ bits_by number_bit q → bits_by null_bit p ≡ bits_by null_bit q → map number_of p ≡ map number_of q → p ≡ q
items-same [] [] e f g = refl
items-same [] (y ∷ ys) e f g = absurd (cc)
items-same (x ∷ xs) [] e f g = absurd (cc)
items-same (x ∷ xs) (y ∷ ys) e f g =
    let number = number_bit-le x in
    let number' = number_bit-le y in
    let null = null_bit-le x in
    let null' = null_bit-le y in
    let first : number_bit x ≡ number_bit y = omega arith in
    let second : null_bit x ≡ null_bit y = omega arith in
    let one = bits-same x y first second (heads (number_of x) (number_of y) (map number_of xs) (map number_of ys) g) in
    let more = items-same xs ys (omega arith) (omega arith) (tails (number_of x) (number_of y) (map number_of xs) (map number_of ys) g) in
    λ i. one i ∷ more i

pattern-same : (p q : List Known) → length p ≤ 32 → length q ≤ 32 → pattern_bits p ≡ pattern_bits q → map number_of p ≡ map number_of q → p ≡ q
pattern-same p q few less e g =
    let low = bits_by-lt number_bit number_bit-le p 32 few in
    let low' = bits_by-lt number_bit number_bit-le q 32 less in
    let numbers : bits_by number_bit p ≡ bits_by number_bit q = omega arith in
    let nulls : bits_by null_bit p ≡ bits_by null_bit q = omega arith in
    items-same p q numbers nulls g

symbol-same : (s t : Sym) (k l : ℕ) → IsShortSymbol s → IsShortSymbol t → k ≤ 1 → l ≤ 1 → place_word s k ≡ place_word t l → (s ≡ t) × (k ≡ l)
symbol-same s t k l h g a b e =
    let m : s.module ≡ t.module = omega (arith, h.short_item, g.short_item) in
    let n : s.item ≡ t.item = omega (arith, h.short_item, g.short_item) in
    ((λ i. record { «module» = m i; item = n i }), omega arith)

pub row-same : (a b : Demand) → FitsRow a → FitsRow b → words_of a ≡ words_of b → a ≡ b
row-same (Var s) (Var t) h g e =
    ap Var (symbol-same s t 1 1 h.symbol g.symbol (omega arith) (omega arith) (heads (place_word s 1) (place_word t 1) (0 ∷ []) (0 ∷ []) e)).0
row-same (Var s) (Func t q) h g e =
    absurd (omega (arith, (symbol-same s t 1 0 h.symbol g.symbol (omega arith) (omega arith) (heads (place_word s 1) (place_word t 0) (0 ∷ []) (pattern_bits q ∷ map number_of q) e)).1))
row-same (Func s p) (Var t) h g e =
    absurd (omega (arith, (symbol-same s t 0 1 h.symbol g.symbol (omega arith) (omega arith) (heads (place_word s 0) (place_word t 1) (pattern_bits p ∷ map number_of p) (0 ∷ []) e)).1))
row-same (Func s p) (Func t q) h g e =
    let rest = tails (place_word s 0) (place_word t 0) (pattern_bits p ∷ map number_of p) (pattern_bits q ∷ map number_of q) e in
    let symbol = (symbol-same s t 0 0 h.symbol g.symbol (omega arith) (omega arith) (heads (place_word s 0) (place_word t 0) (pattern_bits p ∷ map number_of p) (pattern_bits q ∷ map number_of q) e)).0 in
    let items = pattern-same p q h.items g.items (heads (pattern_bits p) (pattern_bits q) (map number_of p) (map number_of q) rest) (tails (pattern_bits p) (pattern_bits q) (map number_of p) (map number_of q) rest) in
    λ i. Func (symbol i) (items i)

-- ---- the order of rows

less : (x y : ℕ) → x < y → nat_cmp x y ≡ Less
less x y h = grind (arith, nat_tests)

tied : (x y : ℕ) → x ≡ y → nat_cmp x y ≡ Equal
tied x y h = grind (arith, nat_tests)

greater : (x y : ℕ) → y < x → nat_cmp x y ≡ Greater
greater x y h = grind (arith, nat_tests)

then-equal : (x y : ℕ) (o : Ordering) → x ≡ y → ordering_then (nat_cmp x y) o ≡ o
then-equal x y o h = ap (λ (first : Ordering). ordering_then first o) (tied x y h)

place-order : (s t : Sym) (kind : ℕ) → IsShortSymbol s → IsShortSymbol t → nat_cmp (place_word s kind) (place_word t kind) ≡ symbol_order s t
place-order s t kind h g = by_place s.module s.item t.module t.item kind h.short_item g.short_item
  where
    by_place : (m n p q kind : ℕ) → n < 2 ^ 32 → q < 2 ^ 32 → nat_cmp (m * 2 ^ 33 + n * 2 + kind) (p * 2 ^ 33 + q * 2 + kind) ≡ ordering_then (nat_cmp m p) (nat_cmp n q)
    by_place m n p q kind a b =
        ⊎_elim
        (λ same.
        ⊎_elim
        (λ alike. tied (m * 2 ^ 33 + n * 2 + kind) (p * 2 ^ 33 + q * 2 + kind) (omega arith) ∙ sym (then-equal m p (nat_cmp n q) same ∙ tied n q alike))
        (λ others.
        ⊎_elim
        (λ below. less (m * 2 ^ 33 + n * 2 + kind) (p * 2 ^ 33 + q * 2 + kind) (omega arith) ∙ sym (then-equal m p (nat_cmp n q) same ∙ less n q below))
        (λ above. greater (m * 2 ^ 33 + n * 2 + kind) (p * 2 ^ 33 + q * 2 + kind) (omega arith) ∙ sym (then-equal m p (nat_cmp n q) same ∙ greater n q above))
        others)
        (cases_order n q))
        (λ others.
        ⊎_elim
        (λ below. less (m * 2 ^ 33 + n * 2 + kind) (p * 2 ^ 33 + q * 2 + kind) (omega arith) ∙ sym (ap (λ (o : Ordering). ordering_then o (nat_cmp n q)) (less m p below)))
        (λ above. greater (m * 2 ^ 33 + n * 2 + kind) (p * 2 ^ 33 + q * 2 + kind) (omega arith) ∙ sym (ap (λ (o : Ordering). ordering_then o (nat_cmp n q)) (greater m p above)))
        others)
        (cases_order m p)

variables-in-row-order : (s t : Sym) → IsShortSymbol s → IsShortSymbol t → slice_cmp nat_cmp (words_of (Var s)) (words_of (Var t)) ≡ demand_order (Var s) (Var t)
variables-in-row-order s t h g = ap (λ (o : Ordering). ordering_then o Equal) (place-order s t 1 h g)

first-decides : (o p q : Ordering) → (o ≡ Equal → ⊥) → ordering_then o p ≡ ordering_then o q
first-decides Less p q h = refl
first-decides Equal p q h = absurd (h refl)
first-decides Greater p q h = refl

pub in-row-order : (a b : Demand) → IsShortSymbol (symbol_of a) → IsShortSymbol (symbol_of b) → IsInRowOrder a b → slice_cmp nat_cmp (words_of a) (words_of b) ≡ demand_order a b
in-row-order (Var s) (Var t) h g k = variables-in-row-order s t h g
in-row-order (Var s) (Func t q) h g k = elim k [ ]
in-row-order (Func s p) (Var t) h g k = elim k [ ]
in-row-order (Func s p) (Func t q) h g k =
    ap (λ (o : Ordering). ordering_then o (ordering_then (nat_cmp (pattern_bits p) (pattern_bits q)) (slice_cmp nat_cmp (map number_of p) (map number_of q)))) (place-order s t 0 h g)
    ∙ first-decides (symbol_order s t) (ordering_then (nat_cmp (pattern_bits p) (pattern_bits q)) (slice_cmp nat_cmp (map number_of p) (map number_of q))) (pattern_order p q) (λ e. k (symbol-tied s t e))
