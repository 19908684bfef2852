-- The entries in order of their generations: each stands there once, its ticket is its position, and parents come first.
use Rattle.std.proofs.Common.{◌≡◌, ◌≢◌, ℕ, zero, suc, ◌+◌, ◌<◌, ⊎_elim, Bool, true, cond, ◌==◌, List, [], ◌∷◌, All, AllPairs, Contains, length, get_or, map, slice_get, sym, ap, subst, ◌∙◌, refl, arith, eq-eqb, ne_eqb, lt-ltb, ltb, zero-add}
use Rattle.std.specs.Bool.{Decides}
use Rattle.std.specs.Prelude.{Some, None, IsPermutation}
use Rattle.std.specs.List.{range_with_len, enumerate_from, position_or_len}
use Rattle.std.specs.Cmp.Lexicographic.{nat_list_eq_equiv}
use Rattle.std.proofs.lemmas.Bool.{cases_eq, cases_lt}
use Rattle.std.proofs.lemmas.Bool.Decides.{Decides-eqb}
use Rattle.std.proofs.lemmas.Cmp.{nat_eq_equiv}
use Rattle.std.proofs.lemmas.List.{get_or-map, length-map}
use Rattle.std.proofs.lemmas.List.FromFn.{length-range_with_len, get_or-range_with_len}
use Rattle.std.proofs.lemmas.List.Sorted.{IsPermutation-map, IsPermutation-sym, Contains-permutation}
use Rattle.std.proofs.lemmas.List.Sums.{position_or_len_is}
use Rattle.std.proofs.lemmas.Map.Keys.{IsDistinct-IsPermutation}
use Rattle.std.proofs.lemmas.Map.Made.{AllPairs-from_IsDistinct, IsDistinct-from_AllPairs}
use Rattle.std.proofs.lemmas.Option.{slice_get-get_or, slice_get_within, get_or_from_slice_get, same_Some}
use Rattle.demand_play.specs.declared.entry.Closed.{Closed}
use Rattle.demand_play.specs.Entries.{is_of_generation, AreSound}
use Rattle.demand_play.specs.History.{placed, in_order, ticket_of}
use Rattle.demand_play.proofs.Generations.{one_generation, generation_below, child_generation}
use Rattle.demand_play.proofs.Sets.{same_rows}
use Rattle.demand_play.proofs.Sorting.{HasNumber, all_once, rises}

-- the elements of an enumerated list, and their places
got_enumerated : {X : Type 0} (n : ℕ) (xs : List X) (k : ℕ) (x : X) → slice_get xs k ≡ Some x → slice_get (enumerate_from n xs) k ≡ Some (n + k, x)
got_enumerated n [] k x there = absurd (not_some there)
  where
    not_some : None ≡ Some x → ⊥
    not_some e = cc
got_enumerated n (y ∷ xs) zero x there = let at : n ≡ n + 0 = omega arith in (λ i. Some (at i, same_Some y x there i))
got_enumerated n (y ∷ xs) (suc k) x there = let at : n + 1 + k ≡ n + suc k = omega arith in got_enumerated (n + 1) xs k x there ∙ ap (λ (m : ℕ). Some (m, x)) at

at_place : {X : Type 0} (n : ℕ) (xs : List X) (k : ℕ) (e : ℕ × X) → slice_get (enumerate_from n xs) k ≡ Some e → (e.0 ≡ n + k) × (slice_get xs k ≡ Some e.1)
at_place n [] k e there = absurd (not_some there)
  where
    not_some : None ≡ Some e → ⊥
    not_some h = cc
at_place n (y ∷ xs) zero e there = let same = same_Some (n, y) e there in let here : e.0 ≡ n = sym (ap (λ (p : _). p.0) same) in (omega (arith, here), ap (λ (p : _). Some p.1) same)
at_place n (y ∷ xs) (suc k) e there = let rest = at_place (n + 1) xs k e there in (omega (arith, rest.0), rest.1)

length_enumerated : {X : Type 0} (n : ℕ) (xs : List X) → length (enumerate_from n xs) ≡ length xs
length_enumerated n [] = refl
length_enumerated n (x ∷ xs) = ap suc (length_enumerated (n + 1) xs)

places_listed : {X : Type 0} (n : ℕ) (xs : List X) → map (λ e. e.0) (enumerate_from n xs) ≡ range_with_len n (length xs)
places_listed n [] = refl
places_listed n (x ∷ xs) = ap (λ (l : List ℕ). n ∷ l) (places_listed (n + 1) xs)

items_listed : {X Y : Type 0} (f : X → Y) (n : ℕ) (xs : List X) → map (λ e. f e.1) (enumerate_from n xs) ≡ map f xs
items_listed f n [] = refl
items_listed f n (x ∷ xs) = ap (λ (l : List _). f x ∷ l) (items_listed f (n + 1) xs)

-- different keys stay different in another order
pub distinct_map : {X K : Type 0} {eq : K → K → Bool} (same : (a b : K) → Decides (eq a b) (a ≡ b)) (flips : (a b : K) → eq a b ≡ eq b a) (key : X → K) (xs ys : List X)
    → IsPermutation xs ys → AllPairs (λ a b. a ≢ b) (map key xs) → AllPairs (λ a b. a ≢ b) (map key ys)
distinct_map {eq = eq} same flips key xs ys moved apart =
    AllPairs-from_IsDistinct same (map key ys)
    (IsDistinct-IsPermutation eq flips (map key xs) (map key ys) (IsPermutation-map key xs ys moved) (IsDistinct-from_AllPairs same (map key xs) apart))

pairs_mapped : {X Y : Type 0} (f : X → Y) (xs : List X) → AllPairs (λ a b. f a ≢ f b) xs → AllPairs (λ a b. a ≢ b) (map f xs)
pairs_mapped f [] apart i j d before within same = absurd (omega arith)
pairs_mapped f (x ∷ xs) apart i j d before within same =
    let all = x ∷ xs in
    let inside : j < length all = omega (arith, within, length-map all f) in
    apart i j x before inside (sym (get_or-map f all i x d (omega arith)) ∙ same ∙ get_or-map f all j x d inside)

range_distinct : (n : ℕ) → AllPairs (λ a b. a ≢ b) (range_with_len 0 n)
range_distinct n i j d before within same =
    let inside : j < n = omega (arith, within, length-range_with_len 0 n) in
    omega (arith, before, same, get_or-range_with_len 0 n i d (omega arith), get_or-range_with_len 0 n j d inside)

-- where the keys are distinct, the first place with an element's key is its own
pub first_place : (xs : List (ℕ × Closed)) (k : ℕ) (e : ℕ × Closed) → AllPairs (λ a b. a ≢ b) (map (λ x. x.0) xs) → slice_get xs k ≡ Some e → ticket_of xs e.0 ≡ Some k
first_place xs k e apart there =
    let within = slice_get_within xs k e there in
    let own : get_or xs k e ≡ e = get_or_from_slice_get xs k e e there in
    let at : position_or_len (λ x. x.0 == e.0) xs ≡ k =
    position_or_len_is (λ x. x.0 == e.0) xs k e (omega arith)
    (λ j before. ne_eqb (get_or xs j e).0 e.0
    (λ same. apart j k 0 before (omega (arith, within, length-map xs (λ (x : ℕ × Closed). x.0)))
    (get_or-map (λ x. x.0) xs j e 0 (omega arith) ∙ same ∙ sym (get_or-map (λ x. x.0) xs k e 0 within ∙ ap (λ (x : ℕ × Closed). x.0) own))))
    (λ _. eq-eqb (get_or xs k e).0 e.0 (ap (λ (x : ℕ × Closed). x.0) own)) in
    ap (λ (p : ℕ). cond (ltb p (length xs)) (Some p) None) at ∙ ap (λ (b : Bool). cond b (Some k) None) (lt-ltb k (length xs) within)

module _ (entries : List Closed) (sound : AreSound entries) where
  abbrev generation : ℕ → ℕ × Closed → Bool
  generation n e = is_of_generation entries n e.1

  numbered : All (HasNumber generation (length entries)) (placed entries)
  numbered k d within =
      let inside : k < length entries = omega (arith, within, length_enumerated 0 entries) in
      let e = get_or (placed entries) k d in
      let there : slice_get entries k ≡ Some e.1 = (at_place 0 entries k e (slice_get-get_or (placed entries) k d within)).1 in
      let own : get_or entries k e.1 ≡ e.1 = get_or_from_slice_get entries k e.1 e.1 there in
      let ends = subst (λ (x : Closed). (n : ℕ) × (is_of_generation entries n x ≡ true)) own (sound.ends k e.1 inside) in
      record {
        number = ends.0;
        below = generation_below entries ends.0 k e.1 there ends.1;
        own = ends.1;
        alone = λ n is. one_generation entries n ends.0 e.1 is ends.1;
      }

  pub once : IsPermutation (placed entries) (in_order entries)
  once = all_once generation (length entries) (placed entries) numbered

  places_distinct : AllPairs (λ a b. a ≢ b) (map (λ e. e.0) (in_order entries))
  places_distinct = distinct_map Decides-eqb nat_eq_equiv.symm (λ e. e.0) (placed entries) (in_order entries) once
      (subst (AllPairs (λ a b. a ≢ b)) (sym (places_listed 0 entries)) (range_distinct (length entries)))

  pub rows_distinct : AllPairs (λ a b. a ≢ b) (map (λ e. e.1.row) (in_order entries))
  rows_distinct = distinct_map same_rows nat_list_eq_equiv.symm (λ e. e.1.row) (placed entries) (in_order entries) once
      (subst (AllPairs (λ a b. a ≢ b)) (sym (items_listed (λ e. e.row) 0 entries)) (pairs_mapped (λ e. e.row) entries sound.distinct))

  pub tickets : (ticket : ℕ) (e : ℕ × Closed) → slice_get (in_order entries) ticket ≡ Some e → ticket_of (in_order entries) e.0 ≡ Some ticket
  tickets ticket e there = first_place (in_order entries) ticket e places_distinct there

  -- the entry at a ticket, at its place
  pub entry_at : (ticket : ℕ) (e : ℕ × Closed) → slice_get (in_order entries) ticket ≡ Some e → slice_get entries e.0 ≡ Some e.1
  entry_at ticket e there =
      let listed : Contains (placed entries) e = Contains-permutation (in_order entries) (placed entries) e (IsPermutation-sym (placed entries) (in_order entries) once)
      (ticket, slice_get_within (in_order entries) ticket e there, get_or_from_slice_get (in_order entries) ticket e e there) in
      let at = at_place 0 entries listed.0 e (slice_get-get_or (placed entries) listed.0 e listed.1 ∙ ap (λ (x : ℕ × Closed). Some x) listed.2) in
      let place : listed.0 ≡ e.0 = omega (arith, at.0) in
      ap (slice_get entries) (sym place) ∙ at.1

  -- the ticket of the entry at a place
  pub ticket_at : (place : ℕ) (entry : Closed) → slice_get entries place ≡ Some entry → (ticket : ℕ) × (slice_get (in_order entries) ticket ≡ Some (place, entry))
  ticket_at place entry there =
      let e : ℕ × Closed = (place, entry) in
      let at : slice_get (placed entries) place ≡ Some e = got_enumerated 0 entries place entry there ∙ ap (λ (n : ℕ). Some (n, entry)) (zero-add place) in
      let listed : Contains (in_order entries) e = Contains-permutation (placed entries) (in_order entries) e once
      (place, slice_get_within (placed entries) place e at, get_or_from_slice_get (placed entries) place e e at) in
      (listed.0, slice_get-get_or (in_order entries) listed.0 e listed.1 ∙ ap (λ (x : ℕ × Closed). Some x) listed.2)

  -- a parent comes before its child
  pub parent_first : (ticket above : ℕ) (child parent : ℕ × Closed) → slice_get (in_order entries) ticket ≡ Some child → slice_get (in_order entries) above ≡ Some parent
      → child.1.parent ≡ Some parent.0 → above < ticket
  parent_first ticket above child parent child_there parent_there is =
      let inside = slice_get_within entries child.0 child.1 (entry_at ticket child child_there) in
      let own : get_or entries child.0 child.1 ≡ child.1 = get_or_from_slice_get entries child.0 child.1 child.1 (entry_at ticket child child_there) in
      let ends = subst (λ (x : Closed). (n : ℕ) × (is_of_generation entries n x ≡ true)) own (sound.ends child.0 child.1 inside) in
      let later = child_generation entries child.1 parent.1 parent.0 ends.0 is (entry_at above parent parent_there) ends.1 in
      ⊎_elim (λ before. before)
      (λ after. ⊎_elim
      (λ same.
      let one : child ≡ parent = same_Some child parent (sym child_there ∙ ap (slice_get (in_order entries)) same ∙ parent_there) in
      let clash : ends.0 ≡ later.0 = one_generation entries ends.0 later.0 parent.1 (subst (λ (x : ℕ × Closed). is_of_generation entries ends.0 x.1 ≡ true) one ends.1) later.2 in
      absurd (omega (arith, clash, later.1)))
      (λ differ.
      let up = rises generation (λ i j e here there. one_generation entries i j e.1 here there) (placed entries) 0 (length entries) ticket above child
      (omega (arith, after, differ)) (slice_get_within (in_order entries) above parent parent_there) ends.0 later.0
      (subst (λ (x : ℕ × Closed). is_of_generation entries ends.0 x.1 ≡ true) (sym (get_or_from_slice_get (in_order entries) ticket child child child_there)) ends.1)
      (subst (λ (x : ℕ × Closed). is_of_generation entries later.0 x.1 ≡ true) (sym (get_or_from_slice_get (in_order entries) above parent child parent_there)) later.2) in
      absurd (omega (arith, up, later.1)))
      (cases_eq ticket above))
      (cases_lt above ticket)
