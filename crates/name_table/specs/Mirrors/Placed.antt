-- What finding or adding a name says.
use Rattle.std.specs.Prelude.{◌≡◌, ℕ, List, [], ◌∷◌, ◌++◌, Some, None, length}
use Rattle.name_table.specs.declared.Placed.{Placed}
use Rattle.name_table.specs.declared.Placed.TheVariants.{Found, Added}
use Rattle.name_table.specs.Places.{place_among}

-- A name that is there is found, and nothing changes. One that isn't is added at the end.
abbrev pub IsPlaced : List ℕ → List (List ℕ) → List (List ℕ) → Placed → Type 0
IsPlaced name old new (Found place) = (place_among name old ≡ Some place) × (new ≡ old)
IsPlaced name old new (Added place) = (place_among name old ≡ None) × (place ≡ length old) × (new ≡ old ++ name ∷ [])
