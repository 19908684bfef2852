-- How deep a type nests, and how many nodes it has.
use Rattle.std.specs.Prelude.{ℕ, ◌+◌, ◌≤◌, List, [], ◌∷◌, max, sum}
use Rattle.ir_types.specs.declared.shape.Ty.{Ty}
use Rattle.ir_types.specs.declared.shape.Ty.TheOpen.{Ty-F}
use Rattle.ir_types.specs.declared.shape.Ty.TheFolds.{fold-Ty}

-- the greatest number of a list, 0 where it is empty
abbrev pub greatest : List ℕ → ℕ
greatest [] = 0
greatest (n ∷ ns) = max n (greatest ns)

-- A scalar doesn't nest. An array or a struct nests once more than its deepest part.
abbrev pub nesting_step : Ty-F ℕ → ℕ
nesting_step (Ty-F.One scalar) = 0
nesting_step (Ty-F.Array count element) = element + 1
nesting_step (Ty-F.Struct fields) = greatest fields + 1

unfoldable pub nesting : Ty → ℕ
nesting = fold-Ty ℕ nesting_step

-- Each scalar, array and struct of a type is one node.
abbrev pub nodes_step : Ty-F ℕ → ℕ
nodes_step (Ty-F.One scalar) = 1
nodes_step (Ty-F.Array count element) = element + 1
nodes_step (Ty-F.Struct fields) = sum fields + 1

unfoldable pub nodes : Ty → ℕ
nodes = fold-Ty ℕ nodes_step

-- The type nests at most 64 deep, as each type of a module's text does.
abbrev pub IsWithinNesting : Ty → Type 0
IsWithinNesting ty = nesting ty ≤ 64
