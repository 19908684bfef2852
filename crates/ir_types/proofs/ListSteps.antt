-- Elements of lists by their places.
use Rattle.std.proofs.Common.{◌≡◌, ◌∙◌, ℕ, zero, suc, ◌+◌, ◌-◌, ◌<◌, List, [], ◌∷◌, ◌++◌, length, take, drop, get_or, Some, ap, sym, subst, arith, drop-cons, add-one}
use Rattle.std.specs.List.{All, slice_get}
use Rattle.std.proofs.lemmas.List.{take_more}
use Rattle.std.proofs.lemmas.List.Elements.{All-head, All-tail}

-- the list from a place on begins with what stands there
pub drop_at : {X : Type 0} (xs : List X) (i : ℕ) (x : X) → i < length xs → x ≡ get_or xs i x → drop i xs ≡ x ∷ drop (i + 1) xs
drop_at xs i x within here = rw add-one (drop-cons xs i x within ∙ ap (λ y. y ∷ drop (suc i) xs) (sym here))

-- and the list up to a place ends with what stands there
pub take_at : {X : Type 0} (xs : List X) (i : ℕ) (x : X) → i < length xs → x ≡ get_or xs i x → take (i + 1) xs ≡ take i xs ++ x ∷ []
take_at xs i x within here = take_more xs i x within ∙ ap (λ y. take i xs ++ y ∷ []) (sym here)

-- There is an element at no place past the end.
pub slice_get-within : {X : Type 0} (xs : List X) (k : ℕ) (x : X) → slice_get xs k ≡ Some x → k < length xs
slice_get-within [] k x is = absurd (cc)
slice_get-within (y ∷ xs) zero x is = omega arith
slice_get-within (y ∷ xs) (suc k) x is = omega (arith, slice_get-within xs k x is)

-- the element at a place behind the first
pub slice_get-after : {X : Type 0} (x : X) (xs : List X) (k : ℕ) → 0 < k → slice_get (x ∷ xs) k ≡ slice_get xs (k - 1)
slice_get-after x xs zero pos = absurd (omega arith)
slice_get-after x xs (suc k) pos = ap (slice_get xs) (omega arith)

-- of two lists together, in the first and in the second
pub slice_get-append_first : {X : Type 0} (xs ys : List X) (k : ℕ) (x : X) → slice_get xs k ≡ Some x → slice_get (xs ++ ys) k ≡ Some x
slice_get-append_first [] ys k x is = absurd (cc)
slice_get-append_first (y ∷ xs) ys zero x is = is
slice_get-append_first (y ∷ xs) ys (suc k) x is = slice_get-append_first xs ys k x is

pub slice_get-append_rest : {X : Type 0} (xs ys : List X) (left k : ℕ) → left + length xs ≡ k → slice_get (xs ++ ys) k ≡ slice_get ys left
slice_get-append_rest [] ys left k is = ap (slice_get ys) (omega arith)
slice_get-append_rest (x ∷ xs) ys left zero is = absurd (omega arith)
slice_get-append_rest (x ∷ xs) ys left (suc k) is = slice_get-append_rest xs ys left k (omega arith)

-- What holds of each element holds of the one at a place.
pub All-at : {X : Type 0} (P : X → Type 0) (xs : List X) (k : ℕ) (x : X) → All P xs → slice_get xs k ≡ Some x → P x
All-at P [] k x all is = absurd (cc)
All-at P (y ∷ ys) zero x all is = let same : y ≡ x = cc in subst P same (All-head P y ys all)
All-at P (y ∷ ys) (suc k) x all is = All-at P ys k x (All-tail P y ys all) is
