-- Names that stand twice in a list.
use Rattle.std.specs.Prelude.{◌≡◌, ℕ, ◌+◌, ◌<◌, Bool, true, IsTrue, List, [], length, map, take, slice_get, OnSome, unwrap_or, ⊤}
use Rattle.ir_types.specs.declared.shape.Ty.{Ty}
use Rattle.name_table.specs.Places.{is_among, are_distinct}
use Rattle.ir_scope.specs.declared.scope.ScopeFault.{ScopeFault}
use Rattle.ir_scope.specs.declared.scope.ScopeFault.TheVariants.{Doubled, OutOfMemory}

-- The first name that stands earlier in the list: those before it are distinct.
pub record IsFirstDoubled (names : List (List ℕ)) (at : ℕ) : Type 0 where
  pub within : at < length names
  pub distinct : IsTrue (are_distinct (take at names))
  pub earlier : IsTrue (is_among (unwrap_or (slice_get names at) []) (take at names))

-- A place that is counted through the names of the types and then through those of the symbols.
pub data IsDoubled (types symbols : List (List ℕ)) (at : ℕ) : Type 0 where
  OfTypes : (first : IsFirstDoubled types at) → IsDoubled types symbols at
  OfSymbols : (place : ℕ) (distinct : IsTrue (are_distinct types)) (first : IsFirstDoubled symbols place) (is : at ≡ length types + place) → IsDoubled types symbols at

-- Why there is no scope. Want of memory has no cause.
abbrev pub IsCause : List (List ℕ) → List (List ℕ) → ScopeFault → Type 0
IsCause types symbols (Doubled at) = IsDoubled types symbols at
IsCause types symbols OutOfMemory = ⊤
