-- Numbers in groups by their keys.
use Rattle.std.specs.Prelude.{◌≡◌, ◌==◌, ◌<◌, ℕ, List, [], ◌∷◌, Option, None, Some, slice_get, if◌then◌else◌}

-- those that are paired with the key, in order
abbrev pub members : List (ℕ × ℕ) → ℕ → List ℕ
members [] key = []
members (pair ∷ pairs) key = if pair.0 == key then pair.1 ∷ members pairs key else members pairs key

abbrev pub group_or : Option (List ℕ) → List ℕ
group_or None = []
group_or (Some group) = group

abbrev pub group_at : List (List ℕ) → ℕ → List ℕ
group_at groups key = group_or (slice_get groups key)

-- The groups of the keys below a number are those that the pairs say.
abbrev pub AreGrouped : List (List ℕ) → ℕ → List (ℕ × ℕ) → Type 0
AreGrouped groups count pairs = (key : ℕ) → key < count → group_at groups key ≡ members pairs key
