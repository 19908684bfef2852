-- What holds of every element of a list.
use Rattle.std.proofs.Common.{◌≡◌, ℕ, zero, suc, List, [], ◌∷◌, ◌++◌, Some, All, map, refl, subst, arith}
use Rattle.std.specs.Prelude.{slice_get, flat_map}
use Rattle.std.proofs.lemmas.Option.{none-some}
use Rattle.fold_facts.proofs.Lists.{some_is}

abbrev pub Every : {X : Type 0} → (X → Type 0) → List X → Type 0
Every P [] = Unit {0}
Every P (x ∷ xs) = P x × Every P xs

pub every_of_all : {X : Type 0} (P : X → Type 0) (xs : List X) → All P xs → Every P xs
every_of_all P [] h = tt
every_of_all P (x ∷ xs) h = (h 0 x (omega arith), every_of_all P xs (λ k d less. h (suc k) d (omega (arith, less))))

pub all_of_every : {X : Type 0} (P : X → Type 0) (xs : List X) → Every P xs → All P xs
all_of_every P [] h k d less = absurd (omega (arith, less))
all_of_every P (x ∷ xs) h zero d less = h.0
all_of_every P (x ∷ xs) h (suc k) d less = all_of_every P xs h.1 k d (omega (arith, less))

pub every_at : {X : Type 0} (P : X → Type 0) (xs : List X) (k : ℕ) (x : X) → Every P xs → slice_get xs k ≡ Some x → P x
every_at P [] k x h is = absurd (none-some x is)
every_at P (y ∷ ys) zero x h is = subst P (some_is is) h.0
every_at P (y ∷ ys) (suc k) x h is = every_at P ys k x h.1 is

pub every_by : {X : Type 0} (P : X → Type 0) (xs : List X) → ((k : ℕ) (x : X) → slice_get xs k ≡ Some x → P x) → Every P xs
every_by P [] h = tt
every_by P (x ∷ xs) h = (h 0 x refl, every_by P xs (λ k y is. h (suc k) y is))

pub every_to : {X : Type 0} (P Q : X → Type 0) (xs : List X) → ((x : X) → P x → Q x) → Every P xs → Every Q xs
every_to P Q [] f h = tt
every_to P Q (x ∷ xs) f h = (f x h.0, every_to P Q xs f h.1)

pub every_first : {X : Type 0} (P : X → Type 0) (xs ys : List X) → Every P (xs ++ ys) → Every P xs
every_first P [] ys h = tt
every_first P (x ∷ xs) ys h = (h.0, every_first P xs ys h.1)

pub every_rest : {X : Type 0} (P : X → Type 0) (xs ys : List X) → Every P (xs ++ ys) → Every P ys
every_rest P [] ys h = h
every_rest P (x ∷ xs) ys h = every_rest P xs ys h.1

pub every_append : {X : Type 0} (P : X → Type 0) (xs ys : List X) → Every P xs → Every P ys → Every P (xs ++ ys)
every_append P [] ys h g = g
every_append P (x ∷ xs) ys h g = (h.0, every_append P xs ys h.1 g)

pub every_flat : {X Y : Type 0} (P : Y → Type 0) (f : X → List Y) (xs : List X) → Every P (flat_map f xs) → Every (λ x. Every P (f x)) xs
every_flat P f [] h = tt
every_flat P f (x ∷ xs) h = (every_first P (f x) (flat_map f xs) h, every_flat P f xs (every_rest P (f x) (flat_map f xs) h))

pub flat_every : {X Y : Type 0} (P : Y → Type 0) (f : X → List Y) (xs : List X) → Every (λ x. Every P (f x)) xs → Every P (flat_map f xs)
flat_every P f [] h = tt
flat_every P f (x ∷ xs) h = every_append P (f x) (flat_map f xs) h.0 (flat_every P f xs h.1)

pub every_map : {X Y : Type 0} (P : Y → Type 0) (f : X → Y) (xs : List X) → Every (λ x. P (f x)) xs → Every P (map f xs)
every_map P f [] h = tt
every_map P f (x ∷ xs) h = (h.0, every_map P f xs h.1)

pub map_every : {X Y : Type 0} (P : Y → Type 0) (f : X → Y) (xs : List X) → Every P (map f xs) → Every (λ x. P (f x)) xs
map_every P f [] h = tt
map_every P f (x ∷ xs) h = (h.0, map_every P f xs h.1)
