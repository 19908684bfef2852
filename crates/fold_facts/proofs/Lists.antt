-- Lists with an item written.
use Rattle.std.proofs.Common.{◌≡◌, ◌≢◌, ◌∙◌, ◌⊎◌, inl, inr, ℕ, zero, suc, ◌+◌, ◌<◌, List, [], ◌∷◌, Some, length, set, map, get_or, refl, sym, ap, subst, arith}
use Rattle.std.specs.Prelude.{slice_get, sum_by}
use Rattle.std.specs.List.{AllZip}
use Rattle.std.proofs.lemmas.Option.{none-some, get_or_from_slice_get, slice_get_read}
use Rattle.std.proofs.lemmas.List.Sums.{sum_by-set}

pub some_is : {A : Type 0} {x y : A} → Some x ≡ Some y → x ≡ y
some_is h = cc

pub is_or_not : (k n : ℕ) → (k ≡ n) ⊎ (k ≢ n)
is_or_not zero zero = inl refl
is_or_not zero (suc n) = inr (λ e. absurd (omega arith))
is_or_not (suc k) zero = inr (λ e. absurd (omega arith))
is_or_not (suc k) (suc n) = elim (is_or_not k n) [ inl e ↦ inl (ap suc e) | inr ne ↦ inr (λ e. ne (omega arith)) ]

pub set_same : {A : Type 0} (xs : List A) (i : ℕ) (x : A) → i < length xs → slice_get (set xs i x) i ≡ Some x
set_same [] i x h = absurd (omega arith)
set_same (y ∷ ys) zero x h = refl
set_same (y ∷ ys) (suc i) x h = set_same ys i x (omega arith)

pub set_other : {A : Type 0} (xs : List A) (i j : ℕ) (x : A) → j ≢ i → slice_get (set xs i x) j ≡ slice_get xs j
set_other [] i j x h = refl
set_other (y ∷ ys) zero zero x h = absurd (h refl)
set_other (y ∷ ys) zero (suc j) x h = refl
set_other (y ∷ ys) (suc i) zero x h = refl
set_other (y ∷ ys) (suc i) (suc j) x h = set_other ys i j x (λ e. h (ap suc e))

-- an item written over itself
pub set_is : {A : Type 0} (xs : List A) (i : ℕ) (x : A) → slice_get xs i ≡ Some x → set xs i x ≡ xs
set_is [] i x h = refl
set_is (y ∷ ys) zero x h = ap (λ z. z ∷ ys) (sym (some_is h))
set_is (y ∷ ys) (suc i) x h = ap (λ zs. y ∷ zs) (set_is ys i x h)

pub there : {A : Type 0} (xs : List A) (i : ℕ) → i < length xs → (x : A) × (slice_get xs i ≡ Some x)
there [] i h = absurd (omega arith)
there (y ∷ ys) zero h = (y, refl)
there (y ∷ ys) (suc i) h = there ys i (omega arith)

pub within : {A : Type 0} (xs : List A) (i : ℕ) (x : A) → slice_get xs i ≡ Some x → i < length xs
within [] i x h = absurd (none-some x h)
within (y ∷ ys) zero x h = omega arith
within (y ∷ ys) (suc i) x h = omega (arith, within ys i x h)

pub map_set : {A B : Type 0} (f : A → B) (xs : List A) (i : ℕ) (x : A) → map f (set xs i x) ≡ set (map f xs) i (f x)
map_set f [] i x = refl
map_set f (y ∷ ys) zero x = refl
map_set f (y ∷ ys) (suc i) x = ap (λ zs. f y ∷ zs) (map_set f ys i x)

pub get_map : {A B : Type 0} (f : A → B) (xs : List A) (i : ℕ) (x : A) → slice_get xs i ≡ Some x → slice_get (map f xs) i ≡ Some (f x)
get_map f [] i x h = absurd (none-some x h)
get_map f (y ∷ ys) zero x h = ap (λ z. Some (f z)) (some_is h)
get_map f (y ∷ ys) (suc i) x h = get_map f ys i x h

-- what a mapped list holds comes of an item
pub of_map : {A B : Type 0} (f : A → B) (xs : List A) (i : ℕ) (y : B) → slice_get (map f xs) i ≡ Some y → (x : A) × (slice_get xs i ≡ Some x) × (f x ≡ y)
of_map f [] i y h = absurd (none-some y h)
of_map f (x ∷ xs) zero y h = (x, refl, some_is h)
of_map f (x ∷ xs) (suc i) y h = of_map f xs i y h

pub zip_set : {A B : Type 0} (R : A → B → Type 0) (xs : List A) (ys : List B) (i : ℕ) (x : A) (y : B) → AllZip R xs ys → slice_get xs i ≡ Some x → R x y → AllZip R xs (set ys i y)
zip_set R [] [] i x y h is r = h
zip_set R [] (b ∷ bs) i x y h is r = absurd h
zip_set R (a ∷ more) [] i x y h is r = absurd h
zip_set R (a ∷ more) (b ∷ bs) zero x y h is r = (subst (λ z. R z y) (sym (some_is is)) r, h.1)
zip_set R (a ∷ more) (b ∷ bs) (suc i) x y h is r = (h.0, zip_set R more bs i x y h.1 is r)

pub zip_at : {A B : Type 0} (R : A → B → Type 0) (xs : List A) (ys : List B) (i : ℕ) (x : A) (y : B) → AllZip R xs ys → slice_get xs i ≡ Some x → slice_get ys i ≡ Some y → R x y
zip_at R [] [] i x y h is at = absurd (none-some x is)
zip_at R [] (b ∷ bs) i x y h is at = absurd h
zip_at R (a ∷ more) [] i x y h is at = absurd h
zip_at R (a ∷ more) (b ∷ bs) zero x y h is at = subst (λ z. R z y) (some_is is) (subst (λ z. R a z) (some_is at) h.0)
zip_at R (a ∷ more) (b ∷ bs) (suc i) x y h is at = zip_at R more bs i x y h.1 is at

pub zip_length : {A B : Type 0} (R : A → B → Type 0) (xs : List A) (ys : List B) → AllZip R xs ys → length ys ≡ length xs
zip_length R [] [] h = refl
zip_length R [] (b ∷ bs) h = absurd h
zip_length R (a ∷ more) [] h = absurd h
zip_length R (a ∷ more) (b ∷ bs) h = ap suc (zip_length R more bs h.1)

-- a sum where one term is written
pub sum_set : {A : Type 0} (f : A → ℕ) (xs : List A) (i : ℕ) (x y : A) → slice_get xs i ≡ Some x → sum_by f (set xs i y) + f x ≡ sum_by f xs + f y
sum_set f xs i x y h =
    let at : f (get_or xs i x) ≡ f x = ap f (get_or_from_slice_get xs i x x h) in
    let sum : sum_by f (set xs i y) + f (get_or xs i x) ≡ sum_by f xs + f y = sum_by-set f xs i y x (within xs i x h) in
    omega arith

-- the item of a loop over a slice of the list
pub item_at : {A : Type 0} (xs items : List A) (i : ℕ) (x : A) → items ≡ xs → i < length items → x ≡ get_or items i x → slice_get xs i ≡ Some x
item_at xs items i x same less is = sym (ap (λ l. slice_get l i) same) ∙ slice_get_read items (length items) i x refl less is
