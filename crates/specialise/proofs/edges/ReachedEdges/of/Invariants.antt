use Rattle.specialise.proofs.Edging.{AddedBefore}
use Rattle.specialise.proofs.edges.ReachedEdges.of.Given as goal

abbrev pub invariant-loop-from : goal.invariant-loop-from
invariant-loop-from l = AddedBefore l.a l.edges l.from
