-- Lists of distinct things that stand in another list.
use Rattle.std.proofs.Common.{◌≢◌, ℕ, suc, ◌≤◌, List, [], ◌∷◌, ◌++◌, All, AllPairs, Contains, length, sum_by, remove, sym, arith, length-append}
use Rattle.std.specs.List.Sorted.{IsPermutation}
use Rattle.std.proofs.lemmas.List.Elements.{All-head, All-tail}
use Rattle.std.proofs.lemmas.List.Sorted.{IsPermutation-refl, IsPermutation-cons, IsPermutation-trans, IsPermutation-remove, Contains-permutation, length_permutation, sum_by-IsPermutation}
use Rattle.std.proofs.lemmas.List.Sums.{sum_by-append}
use Rattle.std.proofs.lemmas.Map.Made.{Contains-tail}

module _ {X : Type 0} where
  pub pairs_tail : (x : X) (xs : List X) → AllPairs (λ a b. a ≢ b) (x ∷ xs) → AllPairs (λ a b. a ≢ b) xs
  pairs_tail x xs h i j d before within = h (suc i) (suc j) d (omega arith) (omega arith)

  pub pairs_head : (x : X) (xs : List X) → AllPairs (λ a b. a ≢ b) (x ∷ xs) → All (λ y. x ≢ y) xs
  pairs_head x xs h k d within = h 0 (suc k) d (omega arith) (omega arith)

  -- where the distinct xs all stand in ys, ys is xs and others, in another order
  pub inside : (xs ys : List X) → AllPairs (λ a b. a ≢ b) xs → All (Contains ys) xs → (rest : List X) × IsPermutation ys (xs ++ rest)
  inside [] ys apart all = (ys, IsPermutation-refl ys)
  inside (x ∷ xs) ys apart all =
      let at = All-head (Contains ys) x xs all in
      let moved : IsPermutation ys (x ∷ remove ys at.0) = IsPermutation-remove ys at.0 x at.1 (sym at.2) in
      let left : All (Contains (remove ys at.0)) xs =
      λ k d within. Contains-tail x (remove ys at.0) _ (pairs_head x xs apart k d within)
      (Contains-permutation ys (x ∷ remove ys at.0) _ moved (All-tail (Contains ys) x xs all k d within)) in
      let others = inside xs (remove ys at.0) (pairs_tail x xs apart) left in
      (others.0, IsPermutation-trans ys (x ∷ remove ys at.0) (x ∷ (xs ++ others.0)) moved (IsPermutation-cons x (remove ys at.0) (xs ++ others.0) others.1))

  pub length-inside : (xs ys : List X) → AllPairs (λ a b. a ≢ b) xs → All (Contains ys) xs → length xs ≤ length ys
  length-inside xs ys apart all =
      let found = inside xs ys apart all in
      omega (arith, length_permutation ys (xs ++ found.0) found.1, length-append xs found.0)

  pub sum_by-inside : (f : X → ℕ) (xs ys : List X) → AllPairs (λ a b. a ≢ b) xs → All (Contains ys) xs → sum_by f xs ≤ sum_by f ys
  sum_by-inside f xs ys apart all =
      let found = inside xs ys apart all in
      omega (arith, sum_by-IsPermutation f ys (xs ++ found.0) found.1, sum_by-append f xs found.0)
