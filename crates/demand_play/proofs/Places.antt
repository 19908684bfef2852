-- What stands at a place of a list.
use Rattle.std.proofs.Common.{◌≡◌, ℕ, zero, suc, ◌<◌, ◌≤◌, List, [], ◌∷◌, ◌++◌, length, take, map, slice_get, set, ap, refl, arith}
use Rattle.std.specs.Prelude.{Some}

module _ {X : Type 0} where
  pub got_left : (xs ys : List X) (k : ℕ) → k < length xs → slice_get (xs ++ ys) k ≡ slice_get xs k
  got_left [] ys k within = absurd (omega arith)
  got_left (x ∷ xs) ys zero within = refl
  got_left (x ∷ xs) ys (suc k) within = got_left xs ys k (omega arith)

  pub got_seam : (xs : List X) (x : X) (ys : List X) → slice_get (xs ++ x ∷ ys) (length xs) ≡ Some x
  got_seam [] x ys = refl
  got_seam (y ∷ xs) x ys = got_seam xs x ys

  pub got_take : (xs : List X) (k n : ℕ) → k < n → slice_get (take n xs) k ≡ slice_get xs k
  got_take xs k zero within = absurd (omega arith)
  got_take [] k (suc n) within = refl
  got_take (x ∷ xs) zero (suc n) within = refl
  got_take (x ∷ xs) (suc k) (suc n) within = got_take xs k n (omega arith)

  pub take_take : (xs : List X) (k n : ℕ) → k ≤ n → take k (take n xs) ≡ take k xs
  take_take xs zero n within = refl
  take_take xs (suc k) zero within = absurd (omega arith)
  take_take [] (suc k) (suc n) within = refl
  take_take (x ∷ xs) (suc k) (suc n) within = ap (λ (l : List X). x ∷ l) (take_take xs k n (omega arith))

  pub got_set : (xs : List X) (k : ℕ) (x : X) → k < length xs → slice_get (set xs k x) k ≡ Some x
  got_set [] k x within = absurd (omega arith)
  got_set (y ∷ xs) zero x within = refl
  got_set (y ∷ xs) (suc k) x within = got_set xs k x (omega arith)

  pub got_other : (xs : List X) (k j : ℕ) (x : X) → (j ≡ k → ⊥) → slice_get (set xs k x) j ≡ slice_get xs j
  got_other [] k j x differ = refl
  got_other (y ∷ xs) zero zero x differ = absurd (differ refl)
  got_other (y ∷ xs) zero (suc j) x differ = refl
  got_other (y ∷ xs) (suc k) zero x differ = refl
  got_other (y ∷ xs) (suc k) (suc j) x differ = got_other xs k j x (λ same. differ (ap suc same))

pub map_set : {X Y : Type 0} (f : X → Y) (xs : List X) (k : ℕ) (x : X) → map f (set xs k x) ≡ set (map f xs) k (f x)
map_set f [] k x = refl
map_set f (y ∷ xs) zero x = refl
map_set f (y ∷ xs) (suc k) x = ap (λ (l : List _). f y ∷ l) (map_set f xs k x)

pub take_past : {X : Type 0} (xs : List X) (n : ℕ) → length xs ≤ n → take n xs ≡ xs
take_past [] zero past = refl
take_past [] (suc n) past = refl
take_past (x ∷ xs) zero past = absurd (omega arith)
take_past (x ∷ xs) (suc n) past = ap (λ (l : List _). x ∷ l) (take_past xs n (omega arith))
