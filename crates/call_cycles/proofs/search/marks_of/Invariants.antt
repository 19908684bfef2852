use Rattle.std.proofs.Common.{◌≡◌, ℕ, ◌<◌, [], Some}
use Rattle.std.specs.Prelude.{slice_get}
use Rattle.call_cycles.specs.declared.mark.Mark.TheVariants.{Fresh}
use Rattle.call_cycles.specs.Searching.{IsSearch}
use Rattle.call_cycles.proofs.search.marks_of.Given as goal

abbrev pub invariant-loop-node : goal.invariant-loop-node
invariant-loop-node l = IsSearch l.graph l.search.marks l.search.next l.search.stack.items l.search.bounds l.search.waiting × (l.search.stack.items ≡ []) × ((u : ℕ) → u < l.node → slice_get l.search.marks u ≡ Some Fresh → ⊥)
