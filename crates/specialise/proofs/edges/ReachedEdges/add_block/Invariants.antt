use Rattle.std.proofs.Common.{take}
use Rattle.fold_facts.specs.Assigned.{edges_from}
use Rattle.specialise.proofs.Edging.{AddedTo}
use Rattle.specialise.proofs.edges.ReachedEdges.add_block.Given as goal

abbrev pub invariant-loop-k : goal.invariant-loop-k
invariant-loop-k l = AddedTo l.fn.self l.self l.counts l.from (take l.k (edges_from l.a l.from))
