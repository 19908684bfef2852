-- Elements of lists, what a list contains, how often it counts one, and slots.
use Rattle.std.proofs.Common.{◌≡◌, ◌≢◌, ◌⊎◌, inl, inr, ℕ, zero, suc, ◌+◌, ◌<◌, ◌==◌, Bool, true, cond, List, [], ◌∷◌, ◌++◌, length, set, All, Contains, slice_index_or, slice_get, Option, Some, option_and_then, refl, sym, ap, subst, arith}
use Rattle.std.specs.Prelude.{flat_map, count_by}
use Rattle.std.specs.List.{AllZip}
use Rattle.std.proofs.lemmas.Bool.Decides.{nat_tests}
use Rattle.std.proofs.lemmas.List.Elements.{All-head, All-tail, All-cons, All-nil}
use Rattle.std.proofs.lemmas.List.Sums.{sum_by-cons}
use Rattle.std.proofs.lemmas.Option.{same_Some}
use Rattle.ir_syntax.specs.declared.symbol.Sym.{Sym}
use Rattle.block_memory.specs.declared.value.Val.{Val}
use Rattle.ir_steps.specs.States.{slot}
use Rattle.ir_steps.proofs.Fits.{Has}

pub is_or_not : (m n : ℕ) → (m ≡ n) ⊎ (m ≢ n)
is_or_not m n = grind arith

-- ---- what holds of each element

pub all_left : {A : Type 0} (P : A → Type 0) (xs ys : List A) → All P (xs ++ ys) → All P xs
all_left P [] ys h = All-nil P
all_left P (x ∷ xs) ys h = All-cons P x xs (All-head P x (xs ++ ys) h) (all_left P xs ys (All-tail P x (xs ++ ys) h))

pub all_right : {A : Type 0} (P : A → Type 0) (xs ys : List A) → All P (xs ++ ys) → All P ys
all_right P [] ys h = h
all_right P (x ∷ xs) ys h = all_right P xs ys (All-tail P x (xs ++ ys) h)

-- what holds of each element of each list holds of those of one
pub all_within : {A B : Type 0} (P : B → Type 0) (f : A → List B) (xs : List A) (k : ℕ) (x : A) → slice_get xs k ≡ Some x → All P (flat_map f xs) → All P (f x)
all_within P f [] k x e h = cc
all_within P f (y ∷ ys) zero x e h = subst (λ z. All P (f z)) (same_Some y x e) (all_left P (f y) (flat_map f ys) h)
all_within P f (y ∷ ys) (suc k) x e h = all_within P f ys k x e (all_right P (f y) (flat_map f ys) h)

-- ---- elements by place

pub has_get : {A : Type 0} (xs : List A) (k : ℕ) → k < length xs → Has (λ x. slice_get xs k ≡ Some x) (slice_get xs k)
has_get [] k l = absurd (omega arith)
has_get (x ∷ xs) zero l = refl
has_get (x ∷ xs) (suc k) l = has_get xs k (omega arith)

pub zip_has : {A B : Type 0} (R : A → B → Type 0) (xs : List A) (ys : List B) (k : ℕ) (x : A) → AllZip R xs ys → slice_get xs k ≡ Some x → Has (R x) (slice_get ys k)
zip_has R [] ys k x h e = cc
zip_has R (y ∷ xs) [] k x h e = absurd h
zip_has R (y ∷ xs) (z ∷ zs) zero x h e = subst (λ w. R w z) (same_Some y x e) h.0
zip_has R (y ∷ xs) (z ∷ zs) (suc k) x h e = zip_has R xs zs k x h.1 e

get_set_same : {A : Type 0} (xs : List A) (k : ℕ) (v : A) → k < length xs → slice_get (set xs k v) k ≡ Some v
get_set_same [] k v l = absurd (omega arith)
get_set_same (x ∷ xs) zero v l = refl
get_set_same (x ∷ xs) (suc k) v l = get_set_same xs k v (omega arith)

get_set_other : {A : Type 0} (xs : List A) (k r : ℕ) (v : A) → r ≢ k → slice_get (set xs k v) r ≡ slice_get xs r
get_set_other [] k r v n = refl
get_set_other (x ∷ xs) zero zero v n = absurd (n refl)
get_set_other (x ∷ xs) zero (suc r) v n = refl
get_set_other (x ∷ xs) (suc k) zero v n = refl
get_set_other (x ∷ xs) (suc k) (suc r) v n = get_set_other xs k r v (λ e. n (ap suc e))

pub slot_set_same : (xs : List (Option (Val Sym))) (k : ℕ) (v : Val Sym) → k < length xs → slot (set xs k (Some v)) k ≡ Some v
slot_set_same xs k v l = ap (option_and_then (λ o. o)) (get_set_same xs k (Some v) l)

pub slot_set_other : (xs : List (Option (Val Sym))) (k r : ℕ) (v : Val Sym) → r ≢ k → slot (set xs k (Some v)) r ≡ slot xs r
slot_set_other xs k r v n = ap (option_and_then (λ o. o)) (get_set_other xs k r (Some v) n)

-- ---- what a list contains

pub contains_none : {A : Type 0} (x : A) → Contains [] x → ⊥
contains_none x h = omega (arith, h.1)

pub contains_here : {A : Type 0} (x : A) (xs : List A) → Contains (x ∷ xs) x
contains_here x xs = (0, omega arith, refl)

pub contains_there : {A : Type 0} (y x : A) (xs : List A) → Contains xs x → Contains (y ∷ xs) x
contains_there y x xs h = (suc h.0, omega (arith, h.1), h.2)

contains_at : {A : Type 0} (y x : A) (xs : List A) (k : ℕ) → k < length (y ∷ xs) → slice_index_or (y ∷ xs) k x ≡ x → (y ≡ x) ⊎ Contains xs x
contains_at y x xs zero l e = inl e
contains_at y x xs (suc k) l e = let less : k < length xs = omega arith in inr (k, less, e)

pub contains_cases : {A : Type 0} (y x : A) (xs : List A) → Contains (y ∷ xs) x → (y ≡ x) ⊎ Contains xs x
contains_cases y x xs h = contains_at y x xs h.0 h.1 h.2

-- ---- counts

pub counted_cons : {A : Type 0} (p : A → Bool) (x : A) (xs : List A) → count_by p (x ∷ xs) ≡ (cond (p x) 1 0) + count_by p xs
counted_cons p x xs = sum_by-cons (λ y. cond (p y) 1 0) x xs

pub same_is : (n : ℕ) → (n == n) ≡ true
same_is n = grind (arith, nat_tests)

pub same_number : (a b : ℕ) → (a == b) ≡ true → a ≡ b
same_number a b e = grind (arith, nat_tests, e)

counted_here : (n : ℕ) (xs : List ℕ) → 0 < count_by (λ x. x == n) (n ∷ xs)
counted_here n xs =
    let one : ◌≡◌ {A = ℕ} (cond (n == n) 1 0) 1 = ap (λ b. cond b 1 0) (same_is n) in
    let more = counted_cons (λ x. x == n) n xs in
    omega (arith, one, more)

-- what is contained is counted
pub contains_counted : (xs : List ℕ) (n : ℕ) → Contains xs n → 0 < count_by (λ x. x == n) xs
contains_counted [] n h = absurd (contains_none n h)
contains_counted (x ∷ xs) n h = elim (contains_cases x n xs h) [
  | inl e ↦ subst (λ y. 0 < count_by (λ x. x == n) (y ∷ xs)) (sym e) (counted_here n xs)
  | inr more ↦ let less = contains_counted xs n more in let split = counted_cons (λ y. y == n) x xs in omega (arith, less, split)
]
