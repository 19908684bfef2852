-- Legal lists of events.
use Rattle.std.proofs.Common.{◌≡◌, ℕ, ◌<◌, ◌≤◌, ◌↔◌, ⊎_elim, List, [], ◌∷◌, ◌++◌, Contains, length, take, slice_get, sym, ap, subst, ◌∙◌, refl, arith, length-append}
use Rattle.std.specs.Prelude.{Option, Some, None}
use Rattle.std.proofs.lemmas.Bool.{cases_eq, cases_lt}
use Rattle.std.proofs.lemmas.List.{take-append-le}
use Rattle.std.proofs.lemmas.Option.{slice_get_past, same_Some, none-some}
use Rattle.std.proofs.Math.Seq.{take-append_seam}
use Rattle.demand_play.specs.declared.event.TableEvent.{TableEvent}
use Rattle.demand_play.specs.declared.event.TableEvent.TheVariants.{Insert, Claim}
use Rattle.demand_play.specs.Cores.{rows_of, claimer_of}
use Rattle.demand_play.specs.Legal.{IsLegalAfter, IsLegal, IsFirstIllegal}
use Rattle.demand_play.proofs.Places.{got_left, got_seam, got_take, take_take}
use Rattle.demand_play.proofs.Listed.{claim_there, rows_front}

module _ (needs : List ℕ → List (List ℕ)) (roots : List (List ℕ)) where
  pub legal_none : IsLegal needs roots []
  legal_none at event there = absurd (none-some event there)

  -- one more legal event
  pub legal_push : (before : List TableEvent) (event : TableEvent) → IsLegal needs roots before → IsLegalAfter needs roots before event → IsLegal needs roots (before ++ event ∷ [])
  legal_push before event legal next at other there = ⊎_elim
      (λ early.
      let front : take at (before ++ event ∷ []) ≡ take at before = take-append-le at before (event ∷ []) (omega arith) in
      subst (λ (l : List TableEvent). IsLegalAfter needs roots l other) (sym front) (legal at other (sym (got_left before (event ∷ []) at early) ∙ there)))
      (λ late. ⊎_elim
      (λ last.
      let own : event ≡ other = same_Some event other (sym (got_seam before event []) ∙ ap (slice_get (before ++ event ∷ [])) (sym last) ∙ there) in
      let front : take at (before ++ event ∷ []) ≡ before = ap (λ (n : ℕ). take n (before ++ event ∷ [])) last ∙ take-append_seam before (event ∷ []) in
      subst (λ (e : TableEvent). IsLegalAfter needs roots (take at (before ++ event ∷ [])) e) own (subst (λ (l : List TableEvent). IsLegalAfter needs roots l event) (sym front) next))
      (λ other_place. absurd (none-some other (sym (slice_get_past (before ++ event ∷ []) at (omega (arith, late, other_place, length-append before (event ∷ [])))) ∙ there)))
      (cases_eq at (length before)))
      (cases_lt at (length before))

  -- a legal list has no first illegal event, and an illegal one has one alone
  pub legal_is_not_illegal : (events : List TableEvent) (at : ℕ) → IsLegal needs roots events → IsFirstIllegal needs roots events at → ⊥
  legal_is_not_illegal events at legal first = first.illegal (legal at first.event first.there)

  not_before : (events : List TableEvent) (at later : ℕ) → at < later → IsFirstIllegal needs roots events at → IsFirstIllegal needs roots events later → ⊥
  not_before events at later before first second =
      let front : take at (take later events) ≡ take at events = take_take events at later (omega arith) in
      let there : slice_get (take later events) at ≡ Some first.event = got_take events at later before ∙ first.there in
      first.illegal (subst (λ (l : List TableEvent). IsLegalAfter needs roots l first.event) front (second.before at first.event there))

  pub one_first_illegal : (events : List TableEvent) (at other : ℕ) → IsFirstIllegal needs roots events at → IsFirstIllegal needs roots events other → at ≡ other
  one_first_illegal events at other first second = ⊎_elim
      (λ before. absurd (not_before events at other before first second))
      (λ after. ⊎_elim
      (λ same. same)
      (λ differ. absurd (not_before events other at (omega (arith, after, differ)) second first))
      (cases_eq at other))
      (cases_lt at other)

  -- only tickets that are there are claimed
  pub claimed_within : (events : List TableEvent) (ticket worker : ℕ) → IsLegal needs roots events → claimer_of events ticket ≡ Some worker → ticket < length (rows_of events)
  claimed_within events ticket worker legal is =
      let claim = claim_there events ticket worker is in
      let next = legal claim.0 (Claim worker ticket) claim.1 in
      omega (arith, next.0, rows_front events claim.0)

  pub unclaimed_past : (events : List TableEvent) (ticket : ℕ) → IsLegal needs roots events → length (rows_of events) ≤ ticket → claimer_of events ticket ≡ None
  unclaimed_past events ticket legal past = by (claimer_of events ticket) refl
    where
      by : (o : Option ℕ) → claimer_of events ticket ≡ o → claimer_of events ticket ≡ None
      by None e = e
      by (Some worker) e = absurd (omega (arith, past, claimed_within events ticket worker legal e))

-- roots are a set
pub legal_after_same : (needs : List ℕ → List (List ℕ)) (roots others : List (List ℕ)) → ((row : List ℕ) → Contains roots row ↔ Contains others row)
    → (before : List TableEvent) (event : TableEvent) → IsLegalAfter needs roots before event → IsLegalAfter needs others before event
legal_after_same needs roots others same before (Insert worker row None) legal = (legal.0, (same row).0 legal.1)
legal_after_same needs roots others same before (Insert worker row (Some parent)) legal = legal
legal_after_same needs roots others same before (Claim worker ticket) legal = legal

swap : (roots others : List (List ℕ)) → ((row : List ℕ) → Contains roots row ↔ Contains others row) → (row : List ℕ) → Contains others row ↔ Contains roots row
swap roots others same row = ((same row).1, (same row).0)

pub legal_same : (needs : List ℕ → List (List ℕ)) (roots others : List (List ℕ)) → ((row : List ℕ) → Contains roots row ↔ Contains others row)
    → (events : List TableEvent) → IsLegal needs roots events → IsLegal needs others events
legal_same needs roots others same events legal at event there = legal_after_same needs roots others same (take at events) event (legal at event there)

-- the first illegal event
pub first_illegal : (needs : List ℕ → List (List ℕ)) (roots others : List (List ℕ)) → ((row : List ℕ) → Contains roots row ↔ Contains others row)
    → (events : List TableEvent) (at : ℕ) (event : TableEvent) → slice_get events at ≡ Some event → IsLegal needs roots (take at events)
    → ¬ IsLegalAfter needs roots (take at events) event → IsFirstIllegal needs others events at
first_illegal needs roots others same events at event there before not = record {
  event = event;
  there = there;
  before = legal_same needs roots others same (take at events) before;
  illegal = λ legal. not (legal_after_same needs others roots (swap roots others same) (take at events) event legal);
}

pub first_same : (needs : List ℕ → List (List ℕ)) (roots others : List (List ℕ)) → ((row : List ℕ) → Contains roots row ↔ Contains others row)
    → (events : List TableEvent) (at : ℕ) → IsFirstIllegal needs roots events at → IsFirstIllegal needs others events at
first_same needs roots others same events at first = first_illegal needs roots others same events at first.event first.there first.before first.illegal
