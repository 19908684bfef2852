-- Names that are taken, as the code keeps them.
use Rattle.std.specs.Prelude.{◌≡◌, ℕ, true, false, List, [], ◌∷◌, All}
use Rattle.ir_syntax.specs.declared.item.Module.{Module}
use Rattle.name_table.specs.Places.{is_among}
use Rattle.winnowed_form.specs.declared.winnowed.ShapeFault.{ShapeFault}
use Rattle.winnowed_form.specs.declared.winnowed.ShapeFault.TheVariants.{NameClash, OutOfMemory}
use Rattle.winnowed_form.specs.Clashes.{IsFirstTaken}

-- they are the names of a list, each of which may stand there more than once
abbrev pub HaveNames : List (List ℕ) → List (List ℕ) → Type 0
HaveNames all names = (name : List ℕ) → is_among name names ≡ is_among name all

abbrev pub AreNew : List (List ℕ) → List (List ℕ) → Type 0
AreNew taken names = All (λ name. is_among name taken ≡ false) names

-- The one name is taken. Want of memory has no cause.
abbrev pub IsTaken : List (List ℕ) → List (List ℕ) → ShapeFault → Type 0
IsTaken taken names (NameClash name) = (names ≡ name ∷ []) × (is_among name taken ≡ true)
IsTaken taken names OutOfMemory = Unit {0}

abbrev pub IsFirst : List Module → List (List ℕ) → ShapeFault → Type 0
IsFirst modules names (NameClash name) = IsFirstTaken modules names name
IsFirst modules names OutOfMemory = Unit {0}
