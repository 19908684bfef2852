-- The end of the search: the pairs in row order.
use Rattle.std.proofs.Common.{◌≡◌, ℕ, ◌+◌, ◌-◌, ◌^◌, ◌<◌, ◌≤◌, false, List, [], ◌∷◌, All, length, get_or, take, map, min, sum_by, bytes_eq, is_lt, sym, ap, subst, ◌∙◌, refl, arith}
use Rattle.std.specs.List.{IsDistinct}
use Rattle.std.specs.List.Sorted.{IsPermutation, IsStrictlySortedBy, IsSortedByKey}
use Rattle.std.specs.declared.cmp.Ordering.{Ordering}
use Rattle.std.proofs.lemmas.List.{get_or-map, length-map}
use Rattle.std.proofs.lemmas.List.Sorted.{All-permutation, IsPermutation-map, length_permutation, sum_by-IsPermutation}
use Rattle.std.proofs.lemmas.List.Sums.{sum_by-cons}
use Rattle.std.proofs.Math.Seq.{take-length}
use Rattle.fixed_point.specs.Needs.{AreAllNeeded}
use Rattle.fixed_point.proofs.RowOrder.{row_cmp}
use Rattle.fixed_point.proofs.Searched.{IsSearched, IsWeighed, ends, all_permuted, ascends}

pub sum_by-map : {X Y : Type 0} (f : X → Y) (size : Y → ℕ) (xs : List X) → sum_by size (map f xs) ≡ sum_by (λ x. size (f x)) xs
sum_by-map f size [] = refl
sum_by-map f size (x ∷ xs) =
    sum_by-cons size (f x) (map f xs) ∙ ap (λ (n : ℕ). size (f x) + n) (sum_by-map f size xs) ∙ sym (sum_by-cons (λ y. size (f y)) x xs)

-- the keys of a list that is sorted by them
keys_rise : {X K : Type 0} (key : X → K) (cmp : K → K → Ordering) (xs : List X) → IsSortedByKey key cmp xs
    → (k : ℕ) (d : K) → 0 ≤ k → k + 1 < length (map key xs) → is_lt (cmp (get_or (map key xs) (k + 1) d) (get_or (map key xs) k d)) ≡ false
keys_rise key cmp [] up k d from within = absurd (omega arith)
keys_rise key cmp (x ∷ xs) up k d from within =
    let all = x ∷ xs in
    let inside : k + 1 < length all = omega (arith, within, length-map all key) in
    let here : get_or (map key all) k d ≡ key (get_or all k x) = get_or-map key all k x d (omega (arith, inside)) in
    let next : get_or (map key all) (k + 1) d ≡ key (get_or all (k + 1) x) = get_or-map key all (k + 1) x d inside in
    ap (λ (a : _). is_lt (cmp a (get_or (map key all) k d))) next ∙ ap (λ (b : _). is_lt (cmp (key (get_or all (k + 1) x)) b)) here ∙ up k x from inside

module _ {P : Type 0} (needs : List ℕ → List (List ℕ)) (expands : List ℕ → P → Type 0) (size : List ℕ → ℕ) (roots : List (List ℕ)) (rows_most most : ℕ) where
  abbrev row_of : List ℕ × P → List ℕ
  row_of pair = pair.0

  -- the pairs of the answer
  pub record IsAnswer (pairs : List (List ℕ × P)) : Type 0 where
    pub order : IsStrictlySortedBy row_cmp (map (λ pair. pair.0) pairs)
    pub rows : AreAllNeeded needs roots (map (λ pair. pair.0) pairs)
    pub pieces : All (λ pair. expands pair.0 pair.1) pairs
    pub few : length pairs ≤ rows_most
    pub small : sum_by (λ pair. size pair.0) pairs ≤ most

  -- where all found rows are expanded, the first ones are all
  whole : (found : List (List ℕ)) (at : ℕ) → at ≤ length found → length found ≤ at → take at found ≡ found
  whole found at low high = ap (λ (n : ℕ). take n found) (omega arith) ∙ take-length found

  uncapped : (sum total cap : ℕ) → total ≡ min sum cap → total ≤ most → most < cap → sum ≡ total
  uncapped sum total cap is within below = omega arith

  pub weighs_more : (found : List (List ℕ)) (at : ℕ) (pairs : List (List ℕ × P)) (total : ℕ) → IsSearched needs roots found at → length found ≤ at
      → IsWeighed expands size most found at pairs total → most < total → most < sum_by size found
  weighs_more found at pairs total searched end weighed past =
      let capped : total ≡ min (sum_by size found) (2 ^ 64 - 1) =
      weighed.sized ∙ ap (λ (rows : List (List ℕ)). min (sum_by size rows) (2 ^ 64 - 1)) (whole found at searched.within end) in
      over (sum_by size found) total (2 ^ 64 - 1) capped past
    where
      over : (sum total cap : ℕ) → total ≡ min sum cap → most < total → most < sum
      over sum total cap is past = omega arith

  pub answers : (found : List (List ℕ)) (at : ℕ) (pairs sorted : List (List ℕ × P)) (total : ℕ)
      → IsSearched needs roots found at → length found ≤ at → IsDistinct bytes_eq found → at ≤ rows_most
      → IsWeighed expands size most found at pairs total → total ≤ most → most < 2 ^ 64 - 1
      → IsPermutation pairs sorted → IsSortedByKey (λ pair. pair.0) row_cmp sorted → IsAnswer sorted
  answers found at pairs sorted total searched end apart turns weighed fits below moved up =
      let all : AreAllNeeded needs roots found = ends needs roots found at searched end apart in
      let listed : map (λ pair. pair.0) pairs ≡ found = weighed.kept fits ∙ whole found at searched.within end in
      let moved_rows : IsPermutation found (map (λ pair. pair.0) sorted) =
      subst (λ (rows : List (List ℕ)). IsPermutation rows (map (λ pair. pair.0) sorted)) listed (IsPermutation-map row_of pairs sorted moved) in
      let rows : AreAllNeeded needs roots (map (λ pair. pair.0) sorted) = all_permuted needs roots found (map (λ pair. pair.0) sorted) moved_rows all in
      let capped : total ≡ min (sum_by size found) (2 ^ 64 - 1) =
      weighed.sized ∙ ap (λ (rs : List (List ℕ)). min (sum_by size rs) (2 ^ 64 - 1)) (whole found at searched.within end) in
      let exact : sum_by size found ≡ total = uncapped (sum_by size found) total (2 ^ 64 - 1) capped fits below in
      let sizes : sum_by (λ pair. size pair.0) sorted ≡ sum_by size found =
      sym (sum_by-map row_of size sorted) ∙ sum_by-IsPermutation size found (map (λ pair. pair.0) sorted) moved_rows in
      record {
        order = ascends (map (λ pair. pair.0) sorted) rows.distinct (keys_rise row_of row_cmp sorted up);
        rows = rows;
        pieces = All-permutation (λ pair. expands pair.0 pair.1) pairs sorted moved (weighed.pieces fits);
        few = omega (arith, length_permutation found (map (λ pair. pair.0) sorted) moved_rows, length-map sorted row_of, end, turns);
        small = omega (arith, sizes, exact, fits);
      }
