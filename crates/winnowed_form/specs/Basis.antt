-- What assembling goes by: the program, its call cycles, and its entry's root.
use Rattle.std.specs.Prelude.{ℕ, Bool, false, List, Option, None, Some, bytes_eq, map, slice_get}
use Rattle.ir_syntax.specs.Programs.{ProgramData}
use Rattle.interface.specs.Roots.{roots}
use Rattle.demands.specs.Rows.{words_of}

-- `entry` is the row of the entry's root.
pub record Basis : Type 0 where
  pub program : ProgramData
  pub cycles : List (List Bool)
  pub entry : Option (List ℕ)

-- The entry's root is the first.
abbrev pub basis : ProgramData → List (List Bool) → Basis
basis p cycles = record { program = p; cycles = cycles; entry = slice_get (map words_of (roots p cycles)) 0 }

abbrev pub is_row : Option (List ℕ) → List ℕ → Bool
is_row None row = false
is_row (Some other) row = bytes_eq other row
