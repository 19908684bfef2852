-- Names with the places where they first stand in a list.
use Rattle.std.specs.Prelude.{◌≡◌, ℕ, IsTrue, bytes_eq, List, [], ◌∷◌, length, Option, Some, None, if◌then◌else◌}
use Rattle.name_table.specs.Places.{place_among, are_distinct}
use Rattle.ir_scope.specs.Doubled.{IsFirstDoubled}

-- the place that is kept with a name
abbrev pub place_at : List (List ℕ × ℕ) → List ℕ → Option ℕ
place_at [] name = None
place_at (e ∷ es) name = if bytes_eq name e.0 then Some e.1 else place_at es name

-- What is kept of these names: the first place of each, and the first that stands earlier, where there is one.
pub record ArePlaces (entries : List (List ℕ × ℕ)) (doubled : Option ℕ) (names : List (List ℕ)) : Type 0 where
  pub found : (name : List ℕ) → place_at entries name ≡ place_among name names
  pub distinct : doubled ≡ None → IsTrue (are_distinct names)
  pub count : doubled ≡ None → length entries ≡ length names
  pub doubles : (at : ℕ) → doubled ≡ Some at → IsFirstDoubled names at
