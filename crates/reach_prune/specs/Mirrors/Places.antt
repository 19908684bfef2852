-- Places of names as the code keeps them.
use Rattle.std.specs.Prelude.{◌≡◌, ◌==◌, ℕ, nat_eq, bytes_eq, Bool, false, List, Option, None, Some, All, slice_get}
use Rattle.std.specs.HashMap.{get}
use Rattle.demands.specs.Rows.{words_of, FitsRow}
use Rattle.winnowed_form.specs.declared.named.Named.{Named}
use Rattle.winnowed_form.specs.declared.named.Named.TheVariants.{Own, CopyOf}
use Rattle.reach_prune.specs.declared.places.Places.{Places}

-- the place that is kept of a name
abbrev pub kept_place : Places → Named → Option ℕ
kept_place places (Own k) = get nat_eq places.own k
kept_place places (CopyOf d) = get bytes_eq places.copies (words_of d)

-- a name that has none
abbrev pub place_or : Option ℕ → ℕ
place_or None = 0
place_or (Some place) = place

abbrev pub place_in : Places → Named → ℕ
place_in places named = place_or (kept_place places named)

-- the two are kept as one name
abbrev pub is_name : Named → Named → Bool
is_name (Own k) (Own j) = k == j
is_name (Own k) (CopyOf e) = false
is_name (CopyOf d) (Own j) = false
is_name (CopyOf d) (CopyOf e) = bytes_eq (words_of d) (words_of e)

-- A row can hold it.
abbrev pub HasRow : Named → Type 0
HasRow (Own k) = Unit {0}
HasRow (CopyOf d) = FitsRow d

-- Each of the names has the place where it stands.
abbrev pub ArePlaced : List Named → Places → Type 0
ArePlaced names places = All (λ named. slice_get names (place_in places named) ≡ Some named) names
