-- Names in a list, and their places.
use Rattle.std.specs.Prelude.{ℕ, suc, Bool, true, false, ◌&&◌, not, bytes_eq, List, [], ◌∷◌, Option, Some, None, option_map, if◌then◌else◌}

-- whether a name is among these
abbrev pub is_among : List ℕ → List (List ℕ) → Bool
is_among name [] = false
is_among name (other ∷ others) = if bytes_eq name other then true else is_among name others

-- the place of the first of these that is the name
abbrev pub place_among : List ℕ → List (List ℕ) → Option ℕ
place_among name [] = None
place_among name (other ∷ others) = if bytes_eq name other then Some 0 else option_map (λ k. suc k) (place_among name others)

-- no name stands twice
abbrev pub are_distinct : List (List ℕ) → Bool
are_distinct [] = true
are_distinct (name ∷ names) = not (is_among name names) && are_distinct names
