-- Elements of lists, and what a test finds among them.
use Rattle.std.proofs.Common.{◌≡◌, ◌∙◌, ◌⊎◌, inl, inr, ℕ, zero, suc, ◌<◌, ◌≤◌, Bool, true, false, cond, ◌||◌, List, [], ◌∷◌, ◌++◌, length, take, None, Some, get_or, refl, sym, ap, subst, arith}
use Rattle.std.specs.List.{AllZip, Contains, slice_get, list_any, find, flat_map}
use Rattle.std.proofs.lemmas.Bool.{false≢true}
use Rattle.std.proofs.lemmas.List.Elements.{Contains-append_left, Contains-append_right, Contains-append_cases}

-- ---- elements

pub length_taken : {A : Type 0} (xs : List A) (i : ℕ) → i ≤ length xs → length (take i xs) ≡ i
length_taken xs zero within = by xs
  where
    by : {A : Type 0} (ys : List A) → length (take 0 ys) ≡ 0
    by [] = refl
    by (y ∷ ys) = refl
length_taken [] (suc i) within = absurd (omega arith)
length_taken (x ∷ xs) (suc i) within = ap suc (length_taken xs i (omega arith))

pub contains_here : {A : Type 0} (x : A) (xs : List A) → Contains (x ∷ xs) x
contains_here x xs = (0, omega arith, refl)

pub contains_later : {A : Type 0} (x : A) (xs : List A) (y : A) → Contains xs y → Contains (x ∷ xs) y
contains_later x xs y h = (suc h.0, omega (arith, h.1), h.2)

pub contains_none : {A : Type 0} (y : A) → Contains [] y → ⊥
contains_none y h = absurd (omega (arith, h.1))

pub contains_cases : {A : Type 0} (x : A) (xs : List A) (y : A) → Contains (x ∷ xs) y → (x ≡ y) ⊎ Contains xs y
contains_cases x xs y h = by h.0 h.1 h.2
  where
    by : (k : ℕ) → k < length (x ∷ xs) → get_or (x ∷ xs) k y ≡ y → (x ≡ y) ⊎ Contains xs y
    by zero less is = inl is
    by (suc k) less is = inr (k, omega (arith, less), is)

pub contains_get : {A : Type 0} (xs : List A) (y : A) → Contains xs y → (k : ℕ) × (slice_get xs k ≡ Some y)
contains_get [] y h = absurd (contains_none y h)
contains_get (x ∷ xs) y h = elim (contains_cases x xs y h) [
  | inl same ↦ (0, ap Some same)
  | inr rest ↦ let at = contains_get xs y rest in (suc at.0, at.1)
]

pub get_contains : {A : Type 0} (xs : List A) (k : ℕ) (y : A) → slice_get xs k ≡ Some y → Contains xs y
get_contains [] k y is = absurd (cc)
get_contains (x ∷ xs) zero y is = let same : x ≡ y = cc in subst (λ z. Contains (x ∷ xs) z) same (contains_here x xs)
get_contains (x ∷ xs) (suc k) y is = contains_later x xs y (get_contains xs k y is)

-- ---- tests

pub any_to : {A : Type 0} (p : A → Bool) (xs : List A) → list_any p xs ≡ true → (x : A) × Contains xs x × (p x ≡ true)
any_to p [] is = absurd (false≢true is)
any_to {A} p (x ∷ xs) is = by (p x) refl (any_to p xs) is
  where
    by : (b : Bool) → p x ≡ b → (list_any p xs ≡ true → (y : A) × Contains xs y × (p y ≡ true)) → (b || list_any p xs) ≡ true → (y : A) × Contains (x ∷ xs) y × (p y ≡ true)
    by true e rest h = (x, contains_here x xs, e)
    by false e rest h = let found = rest h in (found.0, contains_later x xs found.0 found.1, found.2)

pub any_from : {A : Type 0} (p : A → Bool) (xs : List A) (x : A) → Contains xs x → p x ≡ true → list_any p xs ≡ true
any_from p [] x h is = absurd (contains_none x h)
any_from p (y ∷ ys) x h is = by (contains_cases y ys x h) (λ rest. any_from p ys x rest is)
  where
    or_true : (b : Bool) → (b || true) ≡ true
    or_true true = refl
    or_true false = refl

    by : (y ≡ x) ⊎ Contains ys x → (Contains ys x → list_any p ys ≡ true) → (p y || list_any p ys) ≡ true
    by (inl same) later = ap (λ b. b || list_any p ys) (ap p same ∙ is)
    by (inr rest) later = ap (λ b. p y || b) (later rest) ∙ or_true (p y)

pub find_to : {A : Type 0} (p : A → Bool) (xs : List A) (x : A) → find p xs ≡ Some x → Contains xs x × (p x ≡ true)
find_to p [] x is = absurd (cc)
find_to p (y ∷ ys) x is = by (p y) refl (find_to p ys x) is
  where
    by : (b : Bool) → p y ≡ b → (find p ys ≡ Some x → Contains ys x × (p x ≡ true)) → cond b (Some y) (find p ys) ≡ Some x → Contains (y ∷ ys) x × (p x ≡ true)
    by true e rest h = let same : y ≡ x = cc in (subst (λ z. Contains (y ∷ ys) z) same (contains_here y ys), subst (λ z. p z ≡ true) same e)
    by false e rest h = let found = rest h in (contains_later y ys x found.0, found.1)

pub find_none : {A : Type 0} (p : A → Bool) (xs : List A) (x : A) → find p xs ≡ None → Contains xs x → p x ≡ false
find_none p [] x is h = absurd (contains_none x h)
find_none p (y ∷ ys) x is h = by (p y) refl (find_none p ys x) is
  where
    by : (b : Bool) → p y ≡ b → (find p ys ≡ None → Contains ys x → p x ≡ false) → cond b (Some y) (find p ys) ≡ None → p x ≡ false
    by true e later none = cc
    by false e later none = elim (contains_cases y ys x h) [ inl same ↦ subst (λ z. p z ≡ false) same e | inr rest ↦ later none rest ]

-- ---- lists that are joined

pub flat_to : {A B : Type 0} (f : A → List B) (xs : List A) (y : B) → Contains (flat_map f xs) y → (x : A) × Contains xs x × Contains (f x) y
flat_to f [] y h = absurd (contains_none y h)
flat_to f (x ∷ xs) y h = elim (Contains-append_cases (f x) (flat_map f xs) y h) [
  | inl here ↦ (x, contains_here x xs, here)
  | inr rest ↦ let found = flat_to f xs y rest in (found.0, contains_later x xs found.0 found.1, found.2)
]

pub flat_from : {A B : Type 0} (f : A → List B) (xs : List A) (x : A) (y : B) → Contains xs x → Contains (f x) y → Contains (flat_map f xs) y
flat_from f [] x y h is = absurd (contains_none x h)
flat_from f (z ∷ zs) x y h is = elim (contains_cases z zs x h) [
  | inl same ↦ Contains-append_left (f z) (flat_map f zs) y (subst (λ a. Contains (f a) y) (sym same) is)
  | inr rest ↦ Contains-append_right (f z) (flat_map f zs) y (flat_from f zs x y rest is)
]

-- ---- two lists side by side

pub zip_push : {A B : Type 0} (R : A → B → Type 0) (xs : List A) (ys : List B) (x : A) (y : B) → AllZip R xs ys → R x y → AllZip R (xs ++ x ∷ []) (ys ++ y ∷ [])
zip_push R [] [] x y h r = (r, tt)
zip_push R [] (b ∷ bs) x y h r = absurd h
zip_push R (a ∷ more) [] x y h r = absurd h
zip_push R (a ∷ more) (b ∷ bs) x y h r = (h.0, zip_push R more bs x y h.1 r)

pub zip_weaker : {A B : Type 0} (R S : A → B → Type 0) → ((x : A) (y : B) → R x y → S x y) → (xs : List A) (ys : List B) → AllZip R xs ys → AllZip S xs ys
zip_weaker R S f [] [] h = h
zip_weaker R S f [] (b ∷ bs) h = absurd h
zip_weaker R S f (a ∷ more) [] h = absurd h
zip_weaker R S f (a ∷ more) (b ∷ bs) h = (f a b h.0, zip_weaker R S f more bs h.1)

-- two steps side by side
pub zip_through : {A B C : Type 0} (R : A → B → Type 0) (S : B → C → Type 0) (T : A → C → Type 0) → ((x : A) (y : B) (z : C) → R x y → S y z → T x z) → (xs : List A) (ys : List B) (zs : List C) → AllZip R xs ys → AllZip S ys zs → AllZip T xs zs
zip_through R S T f [] [] [] h k = k
zip_through R S T f [] [] (c ∷ cs) h k = k
zip_through R S T f [] (b ∷ bs) zs h k = absurd h
zip_through R S T f (a ∷ more) [] zs h k = absurd h
zip_through R S T f (a ∷ more) (b ∷ bs) [] h k = absurd k
zip_through R S T f (a ∷ more) (b ∷ bs) (c ∷ cs) h k = (f a b c h.0 k.0, zip_through R S T f more bs cs h.1 k.1)

-- what stands in the first at a place stands beside one in the second
pub zip_beside : {A B : Type 0} (R : A → B → Type 0) (xs : List A) (ys : List B) (k : ℕ) (x : A) → AllZip R xs ys → slice_get xs k ≡ Some x → (y : B) × (slice_get ys k ≡ Some y) × R x y
zip_beside R [] [] k x h is = absurd (cc)
zip_beside R [] (b ∷ bs) k x h is = absurd h
zip_beside R (a ∷ more) [] k x h is = absurd h
zip_beside R (a ∷ more) (b ∷ bs) zero x h is = (b, refl, let same : a ≡ x = cc in subst (λ z. R z b) same h.0)
zip_beside R (a ∷ more) (b ∷ bs) (suc k) x h is = zip_beside R more bs k x h.1 is

-- and the other way
pub zip_before : {A B : Type 0} (R : A → B → Type 0) (xs : List A) (ys : List B) (y : B) → AllZip R xs ys → Contains ys y → (x : A) × Contains xs x × R x y
zip_before R [] [] y h is = absurd (contains_none y is)
zip_before R [] (b ∷ bs) y h is = absurd h
zip_before R (a ∷ more) [] y h is = absurd h
zip_before R (a ∷ more) (b ∷ bs) y h is = elim (contains_cases b bs y is) [
  | inl same ↦ (a, contains_here a more, subst (λ z. R a z) same h.0)
  | inr rest ↦ let found = zip_before R more bs y h.1 rest in (found.0, contains_later a more found.0 found.1, found.2)
]
