-- A list of events that makes the entries of a closed table: generation by generation, and in each by place.
use Rattle.std.specs.Prelude.{ℕ, ◌==◌, List, ◌∷◌, length, map, filter, flat_map, position, Option, option_map, option_to_list, option_and_then}
use Rattle.std.specs.List.{range_with_len, enumerate_from}
use Rattle.demand_play.specs.declared.answer.Core.{Core}
use Rattle.demand_play.specs.declared.entry.Closed.{Closed}
use Rattle.demand_play.specs.declared.event.TableEvent.{TableEvent}
use Rattle.demand_play.specs.declared.event.TableEvent.TheVariants.{Insert, Claim}
use Rattle.demand_play.specs.Entries.{is_of_generation}

-- the entries with their places
abbrev pub placed : List Closed → List (ℕ × Closed)
placed entries = enumerate_from 0 entries

-- the entries in order of generation, and in each generation by place
abbrev pub in_order : List Closed → List (ℕ × Closed)
in_order entries = flat_map (λ n. filter (λ entry. is_of_generation entries n entry.1) (placed entries)) (range_with_len 0 (length entries))

-- an entry's ticket is its position in the order
abbrev pub ticket_of : List (ℕ × Closed) → ℕ → Option ℕ
ticket_of order place = position (λ entry. entry.0 == place) order

-- the ticket of an entry's parent
abbrev pub parent_ticket : List (ℕ × Closed) → Closed → Option ℕ
parent_ticket order entry = option_and_then (ticket_of order) entry.parent

-- the insert of an entry, and then its claim, if any
abbrev pub events_of : List (ℕ × Closed) → ℕ → Closed → List TableEvent
events_of order ticket entry = Insert entry.maker entry.row (parent_ticket order entry) ∷ option_to_list (option_map (λ worker. Claim worker ticket) entry.claimer)

-- the entries as events, in this order
abbrev pub history_in : List (ℕ × Closed) → List TableEvent
history_in order = flat_map (λ entry. events_of order entry.0 entry.1.1) (enumerate_from 0 order)

abbrev pub history_of : List Closed → List TableEvent
history_of entries = history_in (in_order entries)

-- the rows, makers, parents and claims of the entries, in this order
abbrev pub core_in : List (ℕ × Closed) → Core
core_in order = record {
  rows = map (λ entry. entry.1.row) order;
  makers = map (λ entry. entry.1.maker) order;
  parents = map (λ entry. parent_ticket order entry.1) order;
  claims = map (λ entry. entry.1.claimer) order;
}
