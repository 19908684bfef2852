-- What the table holds after some events.
use Rattle.std.specs.Prelude.{◌≡◌, ◌↔◌, ℕ, List, Contains, length, slice_get, Some}
use Rattle.demand_play.specs.declared.answer.Core.{Core}
use Rattle.demand_play.specs.declared.event.TableEvent.{TableEvent}
use Rattle.demand_play.specs.Cores.{rows_of, claimer_of, core_of}

-- the set has these rows and no others
pub record IsSetOf (rows found : List (List ℕ)) : Type 0 where
  pub same : (row : List ℕ) → Contains found row ↔ Contains rows row

-- the core of the events, their rows, and for each claimed ticket what its row needs
pub record HoldsEvents (needs : List ℕ → List (List ℕ)) (before : List TableEvent) (core : Core) (found : List (List ℕ)) (needed : List (List (List ℕ))) : Type 0 where
  pub makes : core ≡ core_of before
  pub lists : found ≡ rows_of before
  pub sized : length needed ≡ length (rows_of before)
  pub asks : (ticket worker : ℕ) (row : List ℕ) (kept : List (List ℕ)) → claimer_of before ticket ≡ Some worker
      → slice_get (rows_of before) ticket ≡ Some row → slice_get needed ticket ≡ Some kept → IsSetOf (needs row) kept

-- there is one claim and one set of needs for each row
abbrev pub AreAsLong : Core → List (List (List ℕ)) → Type 0
AreAsLong core needed = (length core.claims ≡ length core.rows) × (length needed ≡ length core.rows)
