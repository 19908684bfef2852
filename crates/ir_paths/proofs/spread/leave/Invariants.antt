use Rattle.std.proofs.Common.{◌≡◌, drop}
use Rattle.ir_syntax.specs.Edges.{successors}
use Rattle.ir_paths.specs.Spreading.{arrive_all}
use Rattle.ir_paths.proofs.spread.leave.Given as goal

abbrev pub invariant-loop-k : goal.invariant-loop-k
invariant-loop-k l =
    arrive_all l.bits (drop l.k (successors l.term)) (l.words, l.flags, l.next.items)
    ≡ arrive_all l.bits (successors l.term) (l.fn.words, l.fn.flags, l.fn.next.items)
