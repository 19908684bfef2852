-- Lists: what is filtered, and what is joined of one item each.
use Rattle.std.proofs.Common.{◌≡◌, ◌∙◌, ◌⊎◌, inl, inr, ℕ, zero, suc, ◌+◌, Bool, true, false, cond, List, [], ◌∷◌, ◌++◌, Some, length, refl, ap, sym, arith}
use Rattle.std.specs.Prelude.{slice_get, flat_map}
use Rattle.std.specs.List.{filter}
use Rattle.std.proofs.lemmas.Bool.{false≢true}
use Rattle.std.proofs.lemmas.Option.{none-some}
use Rattle.fold_facts.proofs.Lists.{some_is}
use Rattle.residual_laws.proofs.Every.{Every}

-- ---- what is filtered

pub every_filter : {X : Type 0} (P : X → Type 0) (test : X → Bool) (xs : List X) → Every P xs → Every P (filter test xs)
every_filter P test [] h = tt
every_filter P test (x ∷ xs) h = by (test x) (every_filter P test xs h.1)
  where
    by : (b : Bool) → Every P (filter test xs) → Every P (cond b (x ∷ filter test xs) (filter test xs))
    by true rest = (h.0, rest)
    by false rest = rest

pub every_passes : {X : Type 0} (test : X → Bool) (xs : List X) → Every (λ x. test x ≡ true) (filter test xs)
every_passes test [] = tt
every_passes test (x ∷ xs) = by (test x) refl (every_passes test xs)
  where
    by : (b : Bool) → test x ≡ b → Every (λ y. test y ≡ true) (filter test xs) → Every (λ y. test y ≡ true) (cond b (x ∷ filter test xs) (filter test xs))
    by true e rest = (e, rest)
    by false e rest = rest

-- what passes is among what is filtered
pub filter_has : {X : Type 0} (test : X → Bool) (xs : List X) (k : ℕ) (x : X) → slice_get xs k ≡ Some x → test x ≡ true → (j : ℕ) × (slice_get (filter test xs) j ≡ Some x)
filter_has test [] k x is passes = absurd (none-some x is)
filter_has test (y ∷ ys) zero x is passes = by (test y) (ap test (some_is is) ∙ passes)
  where
    by : (b : Bool) → b ≡ true → (j : ℕ) × (slice_get (cond b (y ∷ filter test ys) (filter test ys)) j ≡ Some x)
    by true e = (0, is)
    by false e = absurd (false≢true e)
filter_has test (y ∷ ys) (suc k) x is passes = by (test y) (filter_has test ys k x is passes)
  where
    by : (b : Bool) → (j : ℕ) × (slice_get (filter test ys) j ≡ Some x) → (j : ℕ) × (slice_get (cond b (y ∷ filter test ys) (filter test ys)) j ≡ Some x)
    by true h = (suc h.0, h.1)
    by false h = h

-- ---- one item each

-- the list has one item
abbrev pub IsOne : {B : Type 0} → List B → Type 0
IsOne {B} l = (b : B) × (l ≡ b ∷ [])

pub flat_long : {A B : Type 0} (f : A → List B) (xs : List A) → Every (λ x. IsOne (f x)) xs → length (flat_map f xs) ≡ length xs
flat_long f [] h = refl
flat_long f (x ∷ xs) h = ap (λ l. length (l ++ flat_map f xs)) h.0.1 ∙ ap suc (flat_long f xs h.1)

-- each stands at the place of what it is of
pub flat_at : {A B : Type 0} (f : A → List B) (xs : List A) (k : ℕ) (x : A) → Every (λ y. IsOne (f y)) xs → slice_get xs k ≡ Some x → (b : B) × (f x ≡ b ∷ []) × (slice_get (flat_map f xs) k ≡ Some b)
flat_at f [] k x h is = absurd (none-some x is)
flat_at {A} {B} f (y ∷ ys) zero x h is = (h.0.0, ap f (sym (some_is is)) ∙ h.0.1, ap (λ l. slice_get (l ++ flat_map f ys) 0) h.0.1)
flat_at {A} {B} f (y ∷ ys) (suc k) x h is =
    let rest = flat_at f ys k x h.1 is in
    (rest.0, rest.1, ap (λ l. slice_get (l ++ flat_map f ys) (suc k)) h.0.1 ∙ rest.2)

-- and is of what stands at its place
pub flat_of : {A B : Type 0} (f : A → List B) (xs : List A) (k : ℕ) (b : B) → Every (λ y. IsOne (f y)) xs → slice_get (flat_map f xs) k ≡ Some b → (x : A) × (slice_get xs k ≡ Some x) × (f x ≡ b ∷ [])
flat_of f [] k b h is = absurd (none-some b is)
flat_of {A} {B} f (y ∷ ys) zero b h is =
    let same : h.0.0 ≡ b = some_is (sym (ap (λ l. slice_get (l ++ flat_map f ys) 0) h.0.1) ∙ is) in
    (y, refl, h.0.1 ∙ ap (λ c. c ∷ []) same)
flat_of {A} {B} f (y ∷ ys) (suc k) b h is =
    let rest = flat_of f ys k b h.1 (sym (ap (λ l. slice_get (l ++ flat_map f ys) (suc k)) h.0.1) ∙ is) in
    (rest.0, rest.1, rest.2)

-- ---- two lists together

pub first_or_rest : {A : Type 0} (xs ys : List A) (k : ℕ) (x : A) → slice_get (xs ++ ys) k ≡ Some x → (slice_get xs k ≡ Some x) ⊎ ((j : ℕ) × (length xs + j ≡ k) × (slice_get ys j ≡ Some x))
first_or_rest [] ys k x is = inr (k, zero_on k, is)
  where
    zero_on : (n : ℕ) → 0 + n ≡ n
    zero_on n = omega arith
first_or_rest (y ∷ ys) zs zero x is = inl is
first_or_rest (y ∷ ys) zs (suc k) x is = by (first_or_rest ys zs k x is)
  where
    by : (slice_get ys k ≡ Some x) ⊎ ((j : ℕ) × (length ys + j ≡ k) × (slice_get zs j ≡ Some x)) → (slice_get (y ∷ ys) (suc k) ≡ Some x) ⊎ ((j : ℕ) × (suc (length ys) + j ≡ suc k) × (slice_get zs j ≡ Some x))
    by (inl e) = inl e
    by (inr (j, at, e)) = inr (j, omega (arith, at), e)
