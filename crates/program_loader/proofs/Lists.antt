-- Two lists place by place, with one more item of each; and the item at a place.
use Rattle.std.proofs.Common.{◌≡◌, suc, List, [], ◌∷◌, ◌++◌, length, Some, refl, ap}
use Rattle.std.specs.List.{AllZip, slice_get}

pub zip_push : {A B : Type 0} (R : A → B → Type 0) (xs : List A) (ys : List B) (x : A) (y : B) → AllZip R xs ys → R x y → AllZip R (xs ++ x ∷ []) (ys ++ y ∷ [])
zip_push R [] [] x y h r = (r, h)
zip_push R [] (b ∷ bs) x y h r = absurd h
zip_push R (a ∷ more) [] x y h r = absurd h
zip_push R (a ∷ more) (b ∷ bs) x y h r = (h.0, zip_push R more bs x y h.1 r)

pub zip_length : {A B : Type 0} (R : A → B → Type 0) (xs : List A) (ys : List B) → AllZip R xs ys → length ys ≡ length xs
zip_length R [] [] h = refl
zip_length R [] (b ∷ bs) h = absurd h
zip_length R (a ∷ more) [] h = absurd h
zip_length R (a ∷ more) (b ∷ bs) h = ap suc (zip_length R more bs h.1)

-- what is behind the second of a pair of lists is one where each item is
pub zip_one : {A B : Type 0} (R : A → B → Type 0) → ((x : A) (y z : B) → R x y → R x z → y ≡ z) → (xs : List A) (ys zs : List B) → AllZip R xs ys → AllZip R xs zs → ys ≡ zs
zip_one R one [] [] [] h k = refl
zip_one R one [] [] (c ∷ cs) h k = absurd k
zip_one R one [] (b ∷ bs) zs h k = absurd h
zip_one R one (a ∷ more) [] zs h k = absurd h
zip_one R one (a ∷ more) (b ∷ bs) [] h k = absurd k
zip_one R one (a ∷ more) (b ∷ bs) (c ∷ cs) h k =
    let here : b ≡ c = one a b c h.0 k.0 in
    let behind : bs ≡ cs = zip_one R one more bs cs h.1 k.1 in
    cc

-- the item behind a front
pub at_end : {A : Type 0} (xs : List A) (x : A) → slice_get (xs ++ x ∷ []) (length xs) ≡ Some x
at_end [] x = refl
at_end (y ∷ xs) x = at_end xs x
