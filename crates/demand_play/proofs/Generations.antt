-- The generations of entries: each has one at most, and it is below the number of entries.
use Rattle.std.proofs.Common.{◌≡◌, ◌≢◌, ℕ, zero, suc, ◌+◌, ◌<◌, ◌≤◌, Bool, true, List, [], ◌∷◌, All, AllPairs, length, slice_get, sym, ap, subst, ◌∙◌, refl, arith, true≢false}
use Rattle.std.specs.Prelude.{Option, Some, None, option_and_then}
use Rattle.std.specs.Option.{is_none}
use Rattle.std.proofs.lemmas.Bool.Decides.{Decides-eqb}
use Rattle.std.proofs.lemmas.List.Elements.{All-nil, All-cons, All-weaker, All-contains}
use Rattle.std.proofs.lemmas.Map.Made.{IsDistinct-from_AllPairs, is_member-Decides}
use Rattle.std.proofs.lemmas.Map.Steps.{length-le_from_distinct_below}
use Rattle.std.proofs.lemmas.Option.{slice_get_within, same_Some}
use Rattle.demand_play.specs.declared.entry.Closed.{Closed}
use Rattle.demand_play.specs.Entries.{parent_entry, holds_of, is_of_generation}

-- a test that holds of an optional entry holds of an entry
held_by : (test : Closed → Bool) (o : Option Closed) → holds_of test o ≡ true → (entry : Closed) × (o ≡ Some entry) × (test entry ≡ true)
held_by test None is = absurd (true≢false (sym is))
held_by test (Some entry) is = (entry, refl, is)

-- the parent of an entry that has one
parent_there : (entries : List Closed) (o : Option ℕ) (parent : Closed) → option_and_then (slice_get entries) o ≡ Some parent → (place : ℕ) × (o ≡ Some place) × (slice_get entries place ≡ Some parent)
parent_there entries None parent is = absurd (not_some is)
  where
    not_some : None ≡ Some parent → ⊥
    not_some e = cc
parent_there entries (Some place) parent is = (place, refl, is)

root_alone : (entries : List Closed) (o : Option ℕ) (test : Closed → Bool) → is_none o ≡ true → holds_of test (option_and_then (slice_get entries) o) ≡ true → ⊥
root_alone entries None test root is = true≢false (sym is)
root_alone entries (Some place) test root is = true≢false (sym root)

module _ (entries : List Closed) where
  -- an entry has one generation
  pub one_generation : (m n : ℕ) (entry : Closed) → is_of_generation entries m entry ≡ true → is_of_generation entries n entry ≡ true → m ≡ n
  one_generation zero zero entry here there = refl
  one_generation zero (suc n) entry here there = absurd (root_alone entries entry.parent (is_of_generation entries n) here there)
  one_generation (suc m) zero entry here there = absurd (root_alone entries entry.parent (is_of_generation entries m) there here)
  one_generation (suc m) (suc n) entry here there =
      let first = held_by (is_of_generation entries m) (parent_entry entries entry) here in
      let second = held_by (is_of_generation entries n) (parent_entry entries entry) there in
      let same : first.0 ≡ second.0 = same_Some first.0 second.0 (sym first.1 ∙ second.1) in
      ap suc (one_generation m n second.0 (subst (λ (e : Closed). is_of_generation entries m e ≡ true) same first.2) second.2)

  -- a child is one generation later than its parent
  pub child_generation : (entry parent : Closed) (place n : ℕ) → entry.parent ≡ Some place → slice_get entries place ≡ Some parent → is_of_generation entries n entry ≡ true
      → (m : ℕ) × (n ≡ suc m) × (is_of_generation entries m parent ≡ true)
  child_generation entry parent place zero is there here = absurd (true≢false (sym here ∙ ap is_none is))
  child_generation entry parent place (suc m) is there here =
      let found = held_by (is_of_generation entries m) (parent_entry entries entry) here in
      let same : found.0 ≡ parent = same_Some found.0 parent (sym found.1 ∙ ap (option_and_then (slice_get entries)) is ∙ there) in
      (m, refl, subst (λ (e : Closed). is_of_generation entries m e ≡ true) same found.2)

  -- an entry at this place, of a generation up to n
  record Early (n place : ℕ) : Type 0 where
    entry : Closed
    generation : ℕ
    there : slice_get entries place ≡ Some entry
    is : is_of_generation entries generation entry ≡ true
    early : generation ≤ n

  -- so many different places
  record Chain (n : ℕ) (places : List ℕ) : Type 0 where
    long : length places ≡ n + 1
    distinct : AllPairs (λ a b. a ≢ b) places
    each : All (Early n) places

  pairs_cons : (x : ℕ) (xs : List ℕ) → All (λ y. x ≢ y) xs → AllPairs (λ a b. a ≢ b) xs → AllPairs (λ a b. a ≢ b) (x ∷ xs)
  pairs_cons x xs apart rest zero zero d before within = absurd (omega (arith, before))
  pairs_cons x xs apart rest zero (suc j) d before within = apart j d (omega arith)
  pairs_cons x xs apart rest (suc i) zero d before within = absurd (omega (arith, before))
  pairs_cons x xs apart rest (suc i) (suc j) d before within = rest i j d (omega arith) (omega arith)

  chain : (n place : ℕ) (entry : Closed) → slice_get entries place ≡ Some entry → is_of_generation entries n entry ≡ true → (places : List ℕ) × Chain n places
  chain zero place entry there is = (
    place ∷ [],
    record {
      long = omega arith;
      distinct = pairs_cons place [] (All-nil (λ y. place ≢ y)) (λ i j d before within. absurd (omega arith));
      each = All-cons (Early zero) place [] (record { entry = entry; generation = zero; there = there; is = is; early = omega arith }) (All-nil (Early zero));
    },
  )
  chain (suc n) place entry there is =
      let found = held_by (is_of_generation entries n) (parent_entry entries entry) is in
      let at = parent_there entries entry.parent found.0 found.1 in
      let above = chain n at.0 found.0 at.2 found.2 in
      let apart : All (λ y. place ≢ y) above.0 = All-weaker (Early n) (λ y. place ≢ y)
      (λ y early same.
      let own : entry ≡ early.entry = same_Some entry early.entry (sym there ∙ ap (slice_get entries) same ∙ early.there) in
      let clash : suc n ≡ early.generation = one_generation (suc n) early.generation early.entry (subst (λ (e : Closed). is_of_generation entries (suc n) e ≡ true) own is) early.is in
      omega (arith, clash, early.early))
      above.0 above.1.each in
      let later : All (Early (suc n)) above.0 = All-weaker (Early n) (Early (suc n))
      (λ y early. record { entry = early.entry; generation = early.generation; there = early.there; is = early.is; early = omega (arith, early.early) })
      above.0 above.1.each in (
        place ∷ above.0,
        record {
          long = let up : length (place ∷ above.0) ≡ suc (length above.0) = refl in omega (arith, up, above.1.long);
          distinct = pairs_cons place above.0 apart above.1.distinct;
          each = All-cons (Early (suc n)) place above.0 (record { entry = entry; generation = suc n; there = there; is = is; early = omega arith }) later;
        },
      )

  pub generation_below : (n place : ℕ) (entry : Closed) → slice_get entries place ≡ Some entry → is_of_generation entries n entry ≡ true → n < length entries
  generation_below n place entry there is =
      let found = chain n place entry there is in
      let inside : length found.0 ≤ length entries = length-le_from_distinct_below found.0 (length entries)
      (IsDistinct-from_AllPairs Decides-eqb found.0 found.1.distinct)
      (λ q there_q.
      let early = All-contains (Early n) found.0 q found.1.each ((is_member-Decides Decides-eqb found.0 q).0 there_q) in
      slice_get_within entries q early.entry early.there) in
      omega (arith, inside, found.1.long)
