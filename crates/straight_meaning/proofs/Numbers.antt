-- The new numbers of results: the value of a result whose instruction is left stands at its new number.
use Rattle.std.proofs.Common.{◌≡◌, ◌∙◌, ℕ, zero, suc, ◌+◌, ◌<◌, ◌≤◌, Bool, true, false, List, [], ◌∷◌, Option, Some, None, slice_get, drop, refl, sym, ap, subst, arith}
use Rattle.std.specs.Prelude.{nat_eq, if◌then◌else◌}
use Rattle.std.proofs.lemmas.Bool.{eqb-true, eqb-false, eq-eqb}
use Rattle.ir_syntax.specs.declared.body.Inst.{Inst}
use Rattle.straight_plan.specs.declared.fact.Fact.{Fact}
use Rattle.straight_plan.specs.Folding.{fact_at}
use Rattle.straight_plan.specs.Residual.{stays, stay_count}
use Rattle.straight_meaning.specs.State.{Value, Register, register}
use Rattle.straight_meaning.specs.Matching.{stays_at, left_registers}

-- ---- the rest of a list

pub drop_at : (insts : List Inst) (k : ℕ) (i : Inst) (is : List Inst) → drop k insts ≡ i ∷ is → slice_get insts k ≡ Some i
drop_at [] zero i is e = cc
drop_at [] (suc k) i is e = cc
drop_at (x ∷ xs) zero i is e = cc
drop_at (x ∷ xs) (suc k) i is e = drop_at xs k i is e

pub drop_more : (insts : List Inst) (k : ℕ) (i : Inst) (is : List Inst) → drop k insts ≡ i ∷ is → drop (suc k) insts ≡ is
drop_more [] zero i is e = cc
drop_more [] (suc k) i is e = cc
drop_more (x ∷ xs) zero i is e = cc
drop_more (x ∷ xs) (suc k) i is e = drop_more xs k i is e

-- ---- counts of what stays

abbrev one_if : List Fact → ℕ → Inst → ℕ
one_if facts k i = if stays (fact_at (slice_get facts k)) i then 1 else 0

count_more : (facts : List Fact) (k j p : ℕ) (insts : List Inst) (i : Inst) → k + j ≡ p → slice_get insts j ≡ Some i
    → stay_count facts k (suc j) insts ≡ stay_count facts k j insts + one_if facts p i
count_more facts k zero p [] i e h = cc
count_more facts k (suc j) p [] i e h = cc
count_more facts k zero p (x ∷ xs) i e h =
    let place : k ≡ p = omega (arith, e) in
    let here : x ≡ i = cc in
    let same : one_if facts k x ≡ one_if facts p i = ap (λ j. one_if facts j x) place ∙ ap (one_if facts p) here in
    omega (arith, same)
count_more facts k (suc j) p (x ∷ xs) i e h = omega (arith, count_more facts (suc k) j p xs i (omega (arith, e)) h)

pub count_left : (facts : List Fact) (k : ℕ) (insts : List Inst) (i : Inst) → slice_get insts k ≡ Some i → stays (fact_at (slice_get facts k)) i ≡ true
    → suc (stay_count facts 0 k insts) ≡ stay_count facts 0 (suc k) insts
count_left facts k insts i h s =
    let one : one_if facts k i ≡ 1 = ap (λ b. if b then 1 else 0) s in
    omega (arith, count_more facts 0 k k insts i (omega arith) h, one)

pub count_folded : (facts : List Fact) (k : ℕ) (insts : List Inst) (i : Inst) → slice_get insts k ≡ Some i → stays (fact_at (slice_get facts k)) i ≡ false
    → stay_count facts 0 k insts ≡ stay_count facts 0 (suc k) insts
count_folded facts k insts i h s =
    let none : one_if facts k i ≡ 0 = ap (λ b. if b then 1 else 0) s in
    omega (arith, count_more facts 0 k k insts i (omega arith) h, none)

count_grows : (facts : List Fact) (k j l : ℕ) (insts : List Inst) → j ≤ l → stay_count facts k j insts ≤ stay_count facts k l insts
count_grows facts k zero l insts h = omega arith
count_grows facts k (suc j) zero insts h = absurd (omega arith)
count_grows facts k (suc j) (suc l) [] h = omega arith
count_grows facts k (suc j) (suc l) (x ∷ xs) h = omega (arith, count_grows facts (suc k) j l xs (omega arith))

count_rises : (facts : List Fact) (j l : ℕ) (insts : List Inst) (i : Inst) → slice_get insts j ≡ Some i → stays (fact_at (slice_get facts j)) i ≡ true → j < l
    → stay_count facts 0 j insts < stay_count facts 0 l insts
count_rises facts j l insts i h s less = omega (arith, count_left facts j insts i h s, count_grows facts 0 (suc j) l insts (omega arith))

number_apart : (a b : ℕ) → (a ≡ b → ⊥) → nat_eq a b ≡ false
number_apart a b h = elim (nat_eq a b) as (λ t. nat_eq a b ≡ t → t ≡ false) [ true ↦ λ e. absurd (h (eqb-true a b e)) | false ↦ λ e. refl ] refl

-- neither is below the other
pub neither : (a b : ℕ) → (a < b → ⊥) → (b < a → ⊥) → a ≡ b
neither a b f g = let up : b ≤ a = omega (arith, f) in let down : a ≤ b = omega (arith, g) in omega arith

-- what stays is told apart by its new numbers
same_number : (facts : List Fact) (insts : List Inst) (l j : ℕ) (i o : Inst) → slice_get insts j ≡ Some i → stays (fact_at (slice_get facts j)) i ≡ true
    → slice_get insts l ≡ Some o → stays (fact_at (slice_get facts l)) o ≡ true → nat_eq (stay_count facts 0 l insts) (stay_count facts 0 j insts) ≡ nat_eq l j
same_number facts insts l j i o h s g t = elim (nat_eq l j) as (λ b. nat_eq l j ≡ b → nat_eq (stay_count facts 0 l insts) (stay_count facts 0 j insts) ≡ b) [
  | true ↦ λ e. eq-eqb (stay_count facts 0 l insts) (stay_count facts 0 j insts) (ap (λ k. stay_count facts 0 k insts) (eqb-true l j e))
  | false ↦ λ e. number_apart (stay_count facts 0 l insts) (stay_count facts 0 j insts) (λ same.
      eqb-false l j e (neither l j
      (λ up. let less = count_rises facts l j insts o g t up in omega (arith, same, less))
      (λ down. let less = count_rises facts j l insts i h s down in omega (arith, same, less))))
] refl

-- ---- registers

-- not the register of the result j
not_at : (j : ℕ) (r : Register) (rs : List Register) (found : Option Value) → (r.0 ≡ j → ⊥) → found ≡ register j rs → found ≡ (if nat_eq r.0 j then Some r.1 else register j rs)
not_at j r rs found h e = e ∙ ap (λ t. if t then Some r.1 else register j rs) (sym (number_apart r.0 j h))

kept_or_not : (facts : List Fact) (insts : List Inst) (j : ℕ) (i o : Inst) (r : Register) (more rs : List Register) (b : Bool) → slice_get insts j ≡ Some i
    → stays (fact_at (slice_get facts j)) i ≡ true → slice_get insts r.0 ≡ Some o → stays (fact_at (slice_get facts r.0)) o ≡ b
    → register (stay_count facts 0 j insts) more ≡ register j rs
    → register (stay_count facts 0 j insts) (if b then (stay_count facts 0 r.0 insts, r.1) ∷ more else more) ≡ (if nat_eq r.0 j then Some r.1 else register j rs)
kept_or_not facts insts j i o r more rs true h s g t e =
    ap (λ b. if b then Some r.1 else register (stay_count facts 0 j insts) more) (same_number facts insts r.0 j i o h s g t)
    ∙ ap (λ found. if nat_eq r.0 j then Some r.1 else found) e
kept_or_not facts insts j i o r more rs false h s g t e = not_at j r rs (register (stay_count facts 0 j insts) more)
    (λ same.
    let here : slice_get insts j ≡ Some o = subst (λ k. slice_get insts k ≡ Some o) same g in
    let one : o ≡ i = cc in
    let gone : stays (fact_at (slice_get facts j)) o ≡ false = subst (λ k. stays (fact_at (slice_get facts k)) o ≡ false) same t in
    let wrong : true ≡ false = sym s ∙ ap (stays (fact_at (slice_get facts j))) (sym one) ∙ gone in
    cc) e

at_register : (facts : List Fact) (insts : List Inst) (j : ℕ) (i : Inst) (r : Register) (more rs : List Register) (o : Option Inst) → slice_get insts j ≡ Some i
    → stays (fact_at (slice_get facts j)) i ≡ true → slice_get insts r.0 ≡ o → register (stay_count facts 0 j insts) more ≡ register j rs
    → register (stay_count facts 0 j insts) (stays_at facts insts r.0 o more r) ≡ (if nat_eq r.0 j then Some r.1 else register j rs)
at_register facts insts j i r more rs None h s g e = not_at j r rs (register (stay_count facts 0 j insts) more)
    (λ same. let here : slice_get insts j ≡ None = subst (λ k. slice_get insts k ≡ None) same g in cc) e
at_register facts insts j i r more rs (Some o) h s g e = kept_or_not facts insts j i o r more rs (stays (fact_at (slice_get facts r.0)) o) h s g refl e

-- the value of a result whose instruction is left stands at its new number
pub register_left : (facts : List Fact) (insts : List Inst) (rs : List Register) (j : ℕ) (i : Inst) → slice_get insts j ≡ Some i → stays (fact_at (slice_get facts j)) i ≡ true
    → register (stay_count facts 0 j insts) (left_registers facts insts rs) ≡ register j rs
register_left facts insts [] j i h s = refl
register_left facts insts (r ∷ rs) j i h s =
    at_register facts insts j i r (left_registers facts insts rs) rs (slice_get insts r.0) h s refl (register_left facts insts rs j i h s)

-- a result whose instruction is left has its new number behind those before
pub registers_left : (facts : List Fact) (insts : List Inst) (rs : List Register) (k : ℕ) (v : Value) (i : Inst) → slice_get insts k ≡ Some i → stays (fact_at (slice_get facts k)) i ≡ true
    → left_registers facts insts ((k, v) ∷ rs) ≡ (stay_count facts 0 k insts, v) ∷ left_registers facts insts rs
registers_left facts insts rs k v i h s = ap (λ o. stays_at facts insts k o (left_registers facts insts rs) (k, v)) h
    ∙ ap (λ b. if b then (stay_count facts 0 k insts, v) ∷ left_registers facts insts rs else left_registers facts insts rs) s

-- and one whose instruction isn't left has none
pub registers_folded : (facts : List Fact) (insts : List Inst) (rs : List Register) (k : ℕ) (v : Value) (i : Inst) → slice_get insts k ≡ Some i → stays (fact_at (slice_get facts k)) i ≡ false
    → left_registers facts insts ((k, v) ∷ rs) ≡ left_registers facts insts rs
registers_folded facts insts rs k v i h s = ap (λ o. stays_at facts insts k o (left_registers facts insts rs) (k, v)) h
    ∙ ap (λ b. if b then (stay_count facts 0 k insts, v) ∷ left_registers facts insts rs else left_registers facts insts rs) s
