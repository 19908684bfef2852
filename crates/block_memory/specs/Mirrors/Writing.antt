-- Writes part by part.
use Rattle.std.specs.Prelude.{ℕ, ◌+◌, List, [], ◌∷◌, slice_set}
use Rattle.ir_syntax.specs.declared.symbol.Sym.{Sym}
use Rattle.block_memory.specs.declared.value.Part.{Part}

-- parts with others in place of those from an offset on
abbrev pub set_from : List (Part Sym) → ℕ → List (Part Sym) → List (Part Sym)
set_from parts at [] = parts
set_from parts at (first ∷ rest) = set_from (slice_set parts at first) (at + 1) rest
