use Rattle.ir_syntax.specs.Edges.{successors}
use Rattle.fold_sparse.specs.Solving.{ReachesAll}
use Rattle.fold_sparse.proofs.search.Search.reach_edges.Given as goal

abbrev pub invariant-loop-k : goal.invariant-loop-k
invariant-loop-k l = ReachesAll l.blocks l.fn.self.a l.self.a l.fn.self.standing l.self.standing l.fn.self.queue l.self.queue l.at (successors l.term) l.asked l.k
