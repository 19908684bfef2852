-- The search for needed rows: the rows found so far, of which the first ones are expanded.
use Rattle.std.proofs.Common.{◌≡◌, ◌≢◌, ℕ, ◌+◌, ◌-◌, ◌^◌, ◌<◌, ◌≤◌, true, false, List, [], ◌∷◌, ◌++◌, All, AllPairs, Contains, length, get_or, take, map, min, sum_by, bytes_eq, is_lt, sym, ap, subst, ◌∙◌, refl, arith, length-append}
use Rattle.std.specs.List.{IsDistinct}
use Rattle.std.specs.List.Sorted.{IsPermutation, IsStrictlySortedBy}
use Rattle.std.specs.declared.cmp.Ordering.{Ordering}
use Rattle.std.specs.declared.cmp.Ordering.TheVariants.{Less, Equal, Greater}
use Rattle.std.specs.Ordering.{ordering_reverse}
use Rattle.std.specs.Cmp.Lexicographic.{nat_list_cmp_total, nat_list_eq_equiv}
use Rattle.std.proofs.lemmas.List.{take-append-le, take_more, map-append}
use Rattle.std.proofs.lemmas.List.Sums.{sum_by_push}
use Rattle.std.proofs.Math.Seq.{take-length}
use Rattle.std.proofs.lemmas.List.Elements.{All-append, All-more, All-weaker, All-nil, All-push, Contains-append_left}
use Rattle.std.proofs.lemmas.List.Sorted.{All-permutation, Contains-permutation}
use Rattle.std.proofs.lemmas.Map.Keys.{IsDistinct-IsPermutation, sorted_from_all_adjacent}
use Rattle.std.proofs.lemmas.Map.Made.{AllPairs-from_IsDistinct, IsDistinct-from_AllPairs}
use Rattle.demand_core.specs.Needed.{IsNeeded}
use Rattle.fixed_point.specs.Found.{Adds}
use Rattle.fixed_point.specs.Needs.{AreAllNeeded, NeedsMoreThan}
use Rattle.fixed_point.proofs.NeededRows.{listed, Contains-listed, listed-Contains, root_needed, need_needed}
use Rattle.fixed_point.proofs.RowOrder.{row_cmp, same_rows, equal_rows, all_contains}

-- the found rows are needed, the roots are among them, and so is what the first `at` of them need
pub record IsSearched (needs : List ℕ → List (List ℕ)) (roots found : List (List ℕ)) (at : ℕ) : Type 0 where
  pub needed : All (IsNeeded needs roots) found
  pub rooted : All (Contains found) roots
  pub asked : All (λ row. All (Contains found) (needs row)) (take at found)
  pub within : at ≤ length found

-- the sizes of the first `at` found rows add to the total, as far as it goes, and where it is at most `most` the pairs are these rows with their pieces
pub record IsWeighed {P : Type 0} (expands : List ℕ → P → Type 0) (size : List ℕ → ℕ) (most : ℕ) (found : List (List ℕ)) (at : ℕ) (pairs : List (List ℕ × P)) (total : ℕ) : Type 0 where
  pub sized : total ≡ min (sum_by size (take at found)) (2 ^ 64 - 1)
  pub kept : total ≤ most → map (λ pair. pair.0) pairs ≡ take at found
  pub pieces : total ≤ most → All (λ pair. expands pair.0 pair.1) pairs

-- the expanded rows after one more
pub front : (found rows new : List (List ℕ)) (at : ℕ) (row : List ℕ) → at < length found → get_or found at row ≡ row → Adds found rows new → take (at + 1) new ≡ take at found ++ row ∷ []
front found rows new at row more is adds =
    ap (take (at + 1)) adds.kept ∙ take-append-le (at + 1) found adds.more (omega arith) ∙ take_more found at row more
    ∙ ap (λ (r : List ℕ). take at found ++ r ∷ []) is

capped : (sum total weight new most : ℕ) → total ≡ min sum most → new ≡ min (total + weight) most → new ≡ min (sum + weight) most
capped sum total weight new most was is = omega arith

rises : (sum total weight new most : ℕ) → total ≡ min sum most → new ≡ min (total + weight) most → total ≤ new
rises sum total weight new most was is = omega arith

module _ {P : Type 0} (expands : List ℕ → P → Type 0) (size : List ℕ → ℕ) (most : ℕ) where
  sized_more : (found new : List (List ℕ)) (at : ℕ) (row : List ℕ) (total after : ℕ) → take (at + 1) new ≡ take at found ++ row ∷ []
      → total ≡ min (sum_by size (take at found)) (2 ^ 64 - 1) → after ≡ min (total + size row) (2 ^ 64 - 1) → after ≡ min (sum_by size (take (at + 1) new)) (2 ^ 64 - 1)
  sized_more found new at row total after longer was is =
      capped (sum_by size (take at found)) total (size row) after (2 ^ 64 - 1) was is
      ∙ ap (λ (n : ℕ). min n (2 ^ 64 - 1)) (sym (ap (sum_by size) longer ∙ sum_by_push size (take at found) row))

  pub weighs_none : (found : List (List ℕ)) (pairs : List (List ℕ × P)) (total : ℕ) → pairs ≡ [] → total ≡ 0 → IsWeighed expands size most found 0 pairs total
  weighs_none found pairs total none nothing = record {
    sized = nothing;
    kept = λ _. ap (map (λ pair. pair.0)) none;
    pieces = λ _. subst (All (λ pair. expands pair.0 pair.1)) (sym none) (All-nil (λ pair. expands pair.0 pair.1));
  }

  -- one more row is weighed, and kept with its piece where that fits
  pub weighs_one : (found rows new : List (List ℕ)) (at : ℕ) (row : List ℕ) (piece : P) (pairs now : List (List ℕ × P)) (total after : ℕ)
      → at < length found → get_or found at row ≡ row → Adds found rows new → IsWeighed expands size most found at pairs total
      → expands row piece → after ≡ min (total + size row) (2 ^ 64 - 1) → (after ≤ most → now ≡ pairs ++ (row, piece) ∷ [])
      → IsWeighed expands size most new (at + 1) now after
  weighs_one found rows new at row piece pairs now total after more is adds so_far own risen put =
      let longer = front found rows new at row more is adds in
      let below : total ≤ after = rises (sum_by size (take at found)) total (size row) after (2 ^ 64 - 1) so_far.sized risen in
      let within : after ≤ most → total ≤ most = λ fits. omega (arith, below, fits) in
      record {
        sized = sized_more found new at row total after longer so_far.sized risen;
        kept = λ fits. ap (map (λ pair. pair.0)) (put fits) ∙ map-append (λ (pair : List ℕ × P). pair.0) pairs ((row, piece) ∷ [])
            ∙ ap (λ (l : List (List ℕ)). l ++ row ∷ []) (so_far.kept (within fits)) ∙ sym longer;
        pieces = λ fits. subst (All (λ pair. expands pair.0 pair.1)) (sym (put fits)) (All-push (λ pair. expands pair.0 pair.1) pairs (row, piece) (so_far.pieces (within fits)) own);
      }

module _ (needs : List ℕ → List (List ℕ)) (roots : List (List ℕ)) where
  -- the roots are found
  pub begins : (found : List (List ℕ)) → Adds [] roots found → IsSearched needs roots found 0
  begins found adds = record {
    needed = subst (All (IsNeeded needs roots)) (sym adds.kept)
        (All-weaker (Contains roots) (IsNeeded needs roots) (λ row there. all_contains (IsNeeded needs roots) roots row (root_needed needs roots) there) adds.more adds.added);
    rooted = adds.all;
    asked = All-nil (λ row. All (Contains found) (needs row));
    within = omega arith;
  }

  -- one more found row is expanded
  pub goes_on : (found new : List (List ℕ)) (at : ℕ) (row : List ℕ) → IsSearched needs roots found at → at < length found → get_or found at row ≡ row
      → Adds found (needs row) new → IsSearched needs roots new (at + 1)
  goes_on found new at row so_far more is adds =
      let own : IsNeeded needs roots row = subst (IsNeeded needs roots) is (so_far.needed at row more) in
      let stays : (xs : List (List ℕ)) → All (Contains found) xs → All (Contains new) xs =
      λ xs all. subst (λ (l : List (List ℕ)). All (Contains l) xs) (sym adds.kept) (All-weaker (Contains found) (Contains (found ++ adds.more)) (Contains-append_left found adds.more) xs all) in
      let front : take (at + 1) new ≡ take (at + 1) found =
      ap (take (at + 1)) adds.kept ∙ take-append-le (at + 1) found adds.more (omega arith) in
      let before : All (λ r. All (Contains new) (needs r)) (take at found) =
      All-weaker (λ r. All (Contains found) (needs r)) (λ r. All (Contains new) (needs r)) (λ r all. stays (needs r) all) (take at found) so_far.asked in
      let here : All (Contains new) (needs (get_or found at row)) = subst (λ (r : List ℕ). All (Contains new) (needs r)) (sym is) adds.all in
      record {
        needed = subst (All (IsNeeded needs roots)) (sym adds.kept)
            (All-append (IsNeeded needs roots) found adds.more so_far.needed
            (All-weaker (Contains (needs row)) (IsNeeded needs roots) (λ r there. all_contains (IsNeeded needs roots) (needs row) r (need_needed needs roots row own) there) adds.more adds.added));
        rooted = stays roots so_far.rooted;
        asked = subst (All (λ r. All (Contains new) (needs r))) (sym front) (All-more (λ r. All (Contains new) (needs r)) found at row more before here);
        within = omega (arith, ap length adds.kept, length-append found adds.more);
      }

  -- where all found rows are expanded, they are all that are needed
  pub ends : (found : List (List ℕ)) (at : ℕ) → IsSearched needs roots found at → length found ≤ at → IsDistinct bytes_eq found → AreAllNeeded needs roots found
  ends found at so_far end apart =
      let whole : take at found ≡ found = ap (λ (n : ℕ). take n found) (omega (arith, so_far.within)) ∙ take-length found in
      let asked : All (λ row. All (Contains found) (needs row)) found = subst (All (λ row. All (Contains found) (needs row))) whole so_far.asked in
      record {
        distinct = AllPairs-from_IsDistinct same_rows found apart;
        needed = so_far.needed;
        complete = λ row needed. Contains-listed found row (needed (listed found)
            (λ k d within. listed-Contains found (get_or roots k d) (so_far.rooted k d within))
            (λ r is k d within. listed-Contains found (get_or (needs r) k d) (all_contains (λ x. All (Contains found) (needs x)) found r asked (Contains-listed found r is) k d within)));
      }

  -- more than so many found rows are needed
  pub finds_more : (found : List (List ℕ)) (at most : ℕ) → IsSearched needs roots found at → IsDistinct bytes_eq found → most < length found → NeedsMoreThan needs roots most
  finds_more found at most so_far apart more =
      record { rows = found; are = record { distinct = AllPairs-from_IsDistinct same_rows found apart; needed = so_far.needed }; more = more }

  -- all needed rows are so in another order too
  pub all_permuted : (rows others : List (List ℕ)) → IsPermutation rows others → AreAllNeeded needs roots rows → AreAllNeeded needs roots others
  all_permuted rows others moved all = record {
    distinct = AllPairs-from_IsDistinct same_rows others
        (IsDistinct-IsPermutation bytes_eq nat_list_eq_equiv.symm rows others moved (IsDistinct-from_AllPairs same_rows rows all.distinct));
    needed = All-permutation (IsNeeded needs roots) rows others moved all.needed;
    complete = λ row needed. Contains-permutation rows others row moved (all.complete row needed);
  }

-- distinct rows in order ascend
not_above : (a b : List ℕ) → is_lt (row_cmp b a) ≡ false → a ≢ b → row_cmp a b ≡ Less
not_above a b up differ = by (row_cmp b a) refl
  where
    by : (o : Ordering) → row_cmp b a ≡ o → row_cmp a b ≡ Less
    by Less is = let clash : false ≡ true = sym up ∙ ap is_lt is in absurd (cc)
    by Equal is = absurd (differ (sym (equal_rows b a is)))
    by Greater is = nat_list_cmp_total.antisymm a b ∙ ap ordering_reverse is

pub ascends : (rows : List (List ℕ)) → AllPairs (λ a b. a ≢ b) rows → ((k : ℕ) (d : List ℕ) → 0 ≤ k → k + 1 < length rows → is_lt (row_cmp (get_or rows (k + 1) d) (get_or rows k d)) ≡ false) → IsStrictlySortedBy row_cmp rows
ascends rows apart up =
    sorted_from_all_adjacent nat_list_cmp_total rows []
    (λ k within. not_above (get_or rows k []) (get_or rows (k + 1) []) (up k [] (omega arith) within) (apart k (k + 1) [] (omega arith) within))
