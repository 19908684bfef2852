use Rattle.std.proofs.Common.{sym}
use Rattle.ir_syntax.specs.Edges.{successors}
use Rattle.ir_paths.proofs.Nexts.{arrives_next}
use Rattle.ir_paths.proofs.spread.leave.Goals as goal

pub loop-k-preserved : goal.loop-k-preserved
loop-k-preserved c =
    arrives_next c.args.bits (successors c.args.term.now) c.loop-k.k c.in-Some.to (c.loop-k.words, c.loop-k.flags, c.loop-k.next.items) (c.arrive.new.words, c.arrive.new.flags, c.arrive.new.next.items) _
    (sym c.in-Some.ensures) c.in_ok-arrive-in-Some.ensures c.loop-k.invariant
