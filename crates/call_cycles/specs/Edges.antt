-- Graphs of numbered nodes.
use Rattle.std.specs.Prelude.{◌≡◌, ℕ, ◌+◌, ◌<◌, ◌≤◌, List, [], ◌∷◌, Some, length, slice_get, slice_index}
use Rattle.call_cycles.specs.declared.graph.Graph.{Graph}

abbrev pub IsNode : Graph → ℕ → Type 0
IsNode g u = u + 1 < length g.starts

pub record IsGraph (g : Graph) : Type 0 where
  pub ended : 0 < length g.starts
  pub within : (u : ℕ) → IsNode g u → slice_index g.starts (u + 1) ≤ length g.ends
  pub ends : (place v : ℕ) → slice_get g.ends place ≡ Some v → IsNode g v

-- The edge at a place goes from the one node to the other.
pub record IsEdge (g : Graph) (u v : ℕ) : Type 0 where
  pub place : ℕ
  pub from : slice_index g.starts u ≤ place
  pub upto : place < slice_index g.starts (u + 1)
  pub to : slice_get g.ends place ≡ Some v

abbrev pub GoesBy : Graph → ℕ → List ℕ → ℕ → Type 0
GoesBy g u [] v = IsEdge g u v
GoesBy g u (w ∷ ws) v = IsEdge g u w × GoesBy g w ws v

-- One edge or more lead from the one node to the other.
pub record Reaches (g : Graph) (u v : ℕ) : Type 0 where
  pub by_way_of : List ℕ
  pub goes : GoesBy g u by_way_of v
