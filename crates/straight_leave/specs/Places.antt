-- Places of what is asked for, by the rows of demands.
use Rattle.std.specs.Prelude.{ℕ, ◌^◌, Bool, ◌&&◌, nat_lt, nat_le, List, length, map, bytes_eq, if◌then◌else◌}
use Rattle.std.specs.List.{position_or_len}
use Rattle.demands.specs.Rows.{words_of}
use Rattle.straight_plan.specs.declared.cut.Ask.{Ask}
use Rattle.straight_plan.specs.declared.cut.Cut.{Cut}
use Rattle.straight_plan.specs.Asked.{demand_of}

abbrev pub row_of : Ask → List ℕ
row_of ask = words_of (demand_of ask)

abbrev pub rows_of : List Cut → List (List ℕ)
rows_of plan = map (λ cut. row_of cut.ask) plan

-- a row can hold it
abbrev pub has_row : Ask → Bool
has_row ask = nat_lt ask.place (2 ^ 32) && nat_le (length ask.pattern) 32

-- the place of what is asked for among these rows, and their number where it isn't there
abbrev pub place_in : List (List ℕ) → Ask → ℕ
place_in rows ask = if has_row ask then position_or_len (bytes_eq (row_of ask)) rows else length rows
