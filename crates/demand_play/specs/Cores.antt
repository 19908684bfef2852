-- What a list of events makes. The rows have tickets, counted from 0 in the order of their inserts.
use Rattle.std.specs.Prelude.{ℕ, ◌==◌, List, [], ◌∷◌, length, map, filter_map, Option, Some, None, if◌then◌else◌}
use Rattle.std.specs.Option.{option_or}
use Rattle.std.specs.List.{range_with_len}
use Rattle.demand_play.specs.declared.answer.Core.{Core}
use Rattle.demand_play.specs.declared.event.TableEvent.{TableEvent}
use Rattle.demand_play.specs.declared.event.TableEvent.TheVariants.{Insert, Claim}

-- the row that an event inserts, with its maker and its parent
abbrev pub row_of : TableEvent → Option (List ℕ)
row_of (Insert worker row parent) = Some row
row_of (Claim worker ticket) = None

abbrev pub maker_of : TableEvent → Option ℕ
maker_of (Insert worker row parent) = Some worker
maker_of (Claim worker ticket) = None

abbrev pub parent_of : TableEvent → Option (Option ℕ)
parent_of (Insert worker row parent) = Some parent
parent_of (Claim worker ticket) = None

-- the worker by whom an event claims a ticket
abbrev pub claims_for : ℕ → TableEvent → Option ℕ
claims_for ticket (Insert worker row parent) = None
claims_for ticket (Claim worker claimed) = if claimed == ticket then Some worker else None

-- the inserted rows, by ticket
abbrev pub rows_of : List TableEvent → List (List ℕ)
rows_of events = filter_map row_of events

-- the worker that claims a ticket first
abbrev pub claimer_of : List TableEvent → ℕ → Option ℕ
claimer_of [] ticket = None
claimer_of (event ∷ events) ticket = option_or (claims_for ticket event) (claimer_of events ticket)

-- the core that the events make
abbrev pub core_of : List TableEvent → Core
core_of events = record {
  rows = rows_of events;
  makers = filter_map maker_of events;
  parents = filter_map parent_of events;
  claims = map (claimer_of events) (range_with_len 0 (length (rows_of events)));
}
