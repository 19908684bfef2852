-- Assignments: a fact for each result of a body, and which edges are reached.
use Rattle.std.specs.Prelude.{◌≡◌, ◌==◌, ℕ, Bool, true, ◌&&◌, ◌||◌, List, [], Option, None, Some, slice_get}
use Rattle.std.specs.List.{list_any}
use Rattle.fold_facts.specs.declared.fact.Fact.{Fact}
use Rattle.fold_facts.specs.declared.fact.Fact.TheVariants.{Unreached}
use Rattle.fold_facts.specs.declared.edge.Edge.{Edge}
use Rattle.fold_facts.specs.Facts.{IsBelow}

-- The facts stand by the number of the result. For each block stand its edges, in the order in which its terminator names
-- them: to which block each goes, and whether it is reached.
pub record Assigned : Type 0 where
  pub facts : List Fact
  pub edges : List (List Edge)

-- No result that isn't there is reached.
abbrev pub fact_at : Option Fact → Fact
fact_at None = Unreached
fact_at (Some fact) = fact

abbrev pub fact_of : List Fact → ℕ → Fact
fact_of facts k = fact_at (slice_get facts k)

abbrev pub edges_at : Option (List Edge) → List Edge
edges_at None = []
edges_at (Some edges) = edges

-- the edges that leave a block
abbrev pub edges_from : Assigned → ℕ → List Edge
edges_from a from = edges_at (slice_get a.edges from)

-- the k-th edge of the one block goes to the other, and is reached
abbrev pub IsReachedEdge : Assigned → ℕ → ℕ → ℕ → Type 0
IsReachedEdge a from k to = slice_get (edges_from a from) k ≡ Some (record { to = to; reached = true })

-- ---- blocks

-- the edge is reached and goes to the block
abbrev pub comes_to : ℕ → Edge → Bool
comes_to place edge = edge.reached && (edge.to == place)

-- an edge from the one block to the other is reached
abbrev pub enters : Assigned → ℕ → ℕ → Bool
enters a from place = list_any (comes_to place) (edges_from a from)

-- A block is reached where it is the first or an edge that comes to it is.
abbrev pub is_reached : Assigned → ℕ → Bool
is_reached a place = (place == 0) || list_any (list_any (comes_to place)) a.edges

-- ---- order

-- Each fact is at most that of the other assignment, and each reached edge is reached there.
pub record IsAtMost (a b : Assigned) : Type 0 where
  pub facts : (k : ℕ) → IsBelow (fact_of a.facts k) (fact_of b.facts k)
  pub edges : (from k to : ℕ) → IsReachedEdge a from k to → IsReachedEdge b from k to
