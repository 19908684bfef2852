-- Files as a list of names with their bytes: a name's file is the first that stands under it.
use Rattle.std.specs.Prelude.{◌≡◌, ◌≢◌, ℕ, zero, suc, List, [], ◌∷◌, Option, Some, None}
use Rattle.std.specs.FinMap as map
use Rattle.occam_base.specs.Files.{FileMap}

abbrev pub map_of : List (List ℕ × List ℕ) → FileMap
map_of entries = map.from_entries entries

-- at this place stands the first entry of the name
abbrev pub IsFirstAt : List ℕ → List (List ℕ × List ℕ) → ℕ → Type 0
IsFirstAt name [] at = ⊥
IsFirstAt name (entry ∷ entries) zero = entry.0 ≡ name
IsFirstAt name (entry ∷ entries) (suc at) = (entry.0 ≢ name) × IsFirstAt name entries at

-- no entry has the name
abbrev pub IsMissing : List ℕ → List (List ℕ × List ℕ) → Type 0
IsMissing name [] = Unit {0}
IsMissing name (entry ∷ entries) = (entry.0 ≢ name) × IsMissing name entries

abbrev pub IsPlaceOf : List ℕ → List (List ℕ × List ℕ) → Option ℕ → Type 0
IsPlaceOf name entries None = IsMissing name entries
IsPlaceOf name entries (Some at) = IsFirstAt name entries at

-- each name stands once
abbrev pub HasDistinctNames : List (List ℕ × List ℕ) → Type 0
HasDistinctNames [] = Unit {0}
HasDistinctNames (entry ∷ entries) = IsMissing entry.0 entries × HasDistinctNames entries
