use Rattle.std.proofs.Common.{◌≡◌, ◌++◌, false, map, drop}
use Rattle.ir_syntax.specs.Edges.{successors}
use Rattle.fold_facts.specs.Raising.{blank_edges}
use Rattle.fold_facts.proofs.assignment.edges_of.Given as goal

abbrev pub invariant-loop-k : goal.invariant-loop-k
invariant-loop-k l = l.edges ++ map (λ to. record { to = to; reached = false }) (drop l.k (successors l.block.term)) ≡ blank_edges l.block
