use Rattle.std.proofs.Common.{length}
use Rattle.call_cycles.specs.Searching.{IsCut}
use Rattle.call_cycles.proofs.search.cut.Given as goal

abbrev pub invariant-loop-bound : goal.invariant-loop-bound
invariant-loop-bound l = IsCut l.fn.bounds l.bounds l.place

abbrev pub decreases-loop-bound : goal.decreases-loop-bound
decreases-loop-bound l = length l.bounds
