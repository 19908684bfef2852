use Rattle.std.proofs.Common.{◌≡◌, ℕ, ◌<◌, ◌≤◌, Some}
use Rattle.std.specs.Prelude.{slice_get, slice_index}
use Rattle.call_cycles.proofs.graph.Graph.has_edge.Given as goal

abbrev pub invariant-loop-place : goal.invariant-loop-place
invariant-loop-place l = (place : ℕ) → slice_index l.self.starts l.from ≤ place → place < l.place → slice_get l.self.ends place ≡ Some l.to → ⊥
