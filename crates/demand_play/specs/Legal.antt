-- Which lists of events are legal, and which cores are settled.
use Rattle.std.specs.Prelude.{◌≡◌, ℕ, ◌<◌, List, All, Contains, length, take, slice_get, Some, None, IsSome}
use Rattle.demand_play.specs.declared.answer.Core.{Core}
use Rattle.demand_play.specs.declared.event.TableEvent.{TableEvent}
use Rattle.demand_play.specs.declared.event.TableEvent.TheVariants.{Insert, Claim}
use Rattle.demand_play.specs.Cores.{rows_of, claimer_of}

-- the row with this ticket needs that one
abbrev pub IsNeededBy : (List ℕ → List (List ℕ)) → List (List ℕ) → ℕ → List ℕ → Type 0
IsNeededBy needs rows ticket row = (parent : List ℕ) × (slice_get rows ticket ≡ Some parent) × Contains (needs parent) row

module _ (needs : List ℕ → List (List ℕ)) (roots : List (List ℕ)) where
  -- An event is legal after those before it where it inserts a row that isn't there yet and is a root without parent, or
  -- is needed by a parent that its worker claimed, or where it claims a row that is there and unclaimed.
  abbrev pub IsLegalAfter : List TableEvent → TableEvent → Type 0
  IsLegalAfter before (Insert worker row None) = ¬ Contains (rows_of before) row × Contains roots row
  IsLegalAfter before (Insert worker row (Some parent)) =
      ¬ Contains (rows_of before) row × (claimer_of before parent ≡ Some worker) × IsNeededBy needs (rows_of before) parent row
  IsLegalAfter before (Claim worker ticket) = (ticket < length (rows_of before)) × (claimer_of before ticket ≡ None)

  -- each event is legal after those before it
  abbrev pub IsLegal : List TableEvent → Type 0
  IsLegal events = (at : ℕ) (event : TableEvent) → slice_get events at ≡ Some event → IsLegalAfter (take at events) event

  -- the event at this place is the first that isn't legal
  pub record IsFirstIllegal (events : List TableEvent) (at : ℕ) : Type 0 where
    pub event : TableEvent
    pub there : slice_get events at ≡ Some event
    pub before : IsLegal (take at events)
    pub illegal : ¬ IsLegalAfter (take at events) event

  -- all roots are there, every row is claimed, and all that the rows need is there
  pub record IsSettled (core : Core) : Type 0 where
    pub rooted : All (Contains core.rows) roots
    pub claimed : All IsSome core.claims
    pub closed : All (λ row. All (Contains core.rows) (needs row)) core.rows
