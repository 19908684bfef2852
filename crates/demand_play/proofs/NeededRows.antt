-- The rows of a legal list.
use Rattle.std.proofs.Common.{◌≡◌, ◌≢◌, ℕ, zero, suc, ◌+◌, ◌<◌, ◌≤◌, ◌↔◌, true, List, [], ◌∷◌, ◌++◌, All, AllPairs, Contains, length, get_or, take, bytes_eq, sym, ap, subst, ◌∙◌, arith}
use Rattle.std.specs.Prelude.{Option, Some, None}
use Rattle.std.specs.List.{list_any}
use Rattle.std.proofs.lemmas.List.{append-nil, take_more}
use Rattle.std.proofs.lemmas.List.Elements.{All-nil, All-push, All-contains, Contains-get_or, filter_map-append}
use Rattle.std.proofs.lemmas.List.Quantifiers.{all_pairs_push}
use Rattle.std.proofs.lemmas.Option.{slice_get-get_or, slice_get_within, get_or_from_slice_get}
use Rattle.std.proofs.Math.Seq.{take-length}
use Rattle.demand_core.specs.Needed.{IsNeeded}
use Rattle.demand_play.specs.declared.event.TableEvent.{TableEvent}
use Rattle.demand_play.specs.declared.event.TableEvent.TheVariants.{Insert, Claim}
use Rattle.demand_play.specs.Cores.{row_of, rows_of, core_of}
use Rattle.demand_play.specs.Legal.{IsLegalAfter, IsLegal, IsSettled}
use Rattle.demand_play.proofs.Sets.{found_row}

module _ (needs : List ℕ → List (List ℕ)) (roots : List (List ℕ)) where
  -- what holds of no rows, and is kept by each legal insert, holds of the rows of a legal list
  module _ (P : List (List ℕ) → Type 0) (none : P [])
      (more : (before : List TableEvent) (worker : ℕ) (row : List ℕ) (parent : Option ℕ) → IsLegalAfter needs roots before (Insert worker row parent) → P (rows_of before) → P (rows_of before ++ row ∷ [])) where
    one : (before : List TableEvent) (event : TableEvent) → IsLegalAfter needs roots before event → P (rows_of before) → P (rows_of (before ++ event ∷ []))
    one before (Insert worker row parent) next so_far = subst P (sym (filter_map-append row_of before (Insert worker row parent ∷ []))) (more before worker row parent next so_far)
    one before (Claim worker ticket) next so_far = subst P (sym (filter_map-append row_of before (Claim worker ticket ∷ []) ∙ append-nil (rows_of before))) so_far

    go : (events : List TableEvent) → IsLegal needs roots events → (n : ℕ) → n ≤ length events → P (rows_of (take n events))
    go events legal zero within = none
    go events legal (suc n) within =
        let d : TableEvent = Claim 0 0 in
        let event = get_or events n d in
        let below : n < length events = omega arith in
        let next : n + 1 ≡ suc n = omega arith in
        let longer : take (suc n) events ≡ take n events ++ event ∷ [] = ap (λ (k : ℕ). take k events) (sym next) ∙ take_more events n d below in
        subst (λ (l : List TableEvent). P (rows_of l)) (sym longer)
        (one (take n events) event (legal n event (slice_get-get_or events n d below)) (go events legal n (omega arith)))

    pub rows_keep : (events : List TableEvent) → IsLegal needs roots events → P (rows_of events)
    rows_keep events legal = subst (λ (l : List TableEvent). P (rows_of l)) (take-length events) (go events legal (length events) (omega arith))

  -- an inserted row isn't there yet
  pub not_there : (before : List TableEvent) (worker : ℕ) (row : List ℕ) (parent : Option ℕ) → IsLegalAfter needs roots before (Insert worker row parent) → ¬ Contains (rows_of before) row
  not_there before worker row None next = next.0
  not_there before worker row (Some parent) next = next.0

  pub rows_distinct : (events : List TableEvent) → IsLegal needs roots events → AllPairs (λ a b. a ≢ b) (rows_of events)
  rows_distinct events legal =
      rows_keep (AllPairs (λ a b. a ≢ b)) (λ i j d before within. absurd (omega arith))
      (λ before worker row parent next so_far. all_pairs_push (λ a b. a ≢ b) (rows_of before) row so_far
      (λ k d within same. not_there before worker row parent next (subst (Contains (rows_of before)) same (Contains-get_or (rows_of before) k d within))))
      events legal

  -- an inserted row is needed where those before it are
  inserted : (before : List TableEvent) (worker : ℕ) (row : List ℕ) (parent : Option ℕ) → IsLegalAfter needs roots before (Insert worker row parent) → All (IsNeeded needs roots) (rows_of before)
      → IsNeeded needs roots row
  inserted before worker row None next so_far = λ s holds closed. All-contains (λ (r : List ℕ). s r ≡ true) roots row holds next.1
  inserted before worker row (Some parent) next so_far = λ s holds closed.
      let asker = next.2.0 in
      let within = slice_get_within (rows_of before) parent asker next.2.1 in
      let own : s asker ≡ true = subst (λ (r : List ℕ). s r ≡ true) (get_or_from_slice_get (rows_of before) parent asker [] next.2.1) (so_far parent [] within s holds closed) in
      All-contains (λ (r : List ℕ). s r ≡ true) (needs asker) row (closed asker own) next.2.2

  pub rows_needed : (events : List TableEvent) → IsLegal needs roots events → All (IsNeeded needs roots) (rows_of events)
  rows_needed events legal =
      rows_keep (All (IsNeeded needs roots)) (All-nil (IsNeeded needs roots))
      (λ before worker row parent next so_far. All-push (IsNeeded needs roots) (rows_of before) row so_far (inserted before worker row parent next so_far))
      events legal

  -- the rows of a settled core
  pub settled_all : (events : List TableEvent) → IsLegal needs roots events → IsSettled needs roots (core_of events) → (row : List ℕ) → Contains (rows_of events) row ↔ IsNeeded needs roots row
  settled_all events legal settled row = (
    (λ there. All-contains (IsNeeded needs roots) (rows_of events) row (rows_needed events legal) there),
    λ needed. (found_row (rows_of events) row).0 (needed (λ r. list_any (bytes_eq r) (rows_of events))
        (λ k d within. (found_row (rows_of events) (get_or roots k d)).1 (settled.rooted k d within))
        (λ r is k d within. (found_row (rows_of events) (get_or (needs r) k d)).1
        (All-contains (λ (x : List ℕ). All (Contains (rows_of events)) (needs x)) (rows_of events) r settled.closed ((found_row (rows_of events) r).0 is) k d within))),
  )
