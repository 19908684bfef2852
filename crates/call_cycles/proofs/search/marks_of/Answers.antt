use Rattle.std.proofs.Common.{arith}
use Rattle.call_cycles.proofs.Starting.{all_marked}
use Rattle.call_cycles.proofs.search.marks_of.Goals as goal

pub returns : goal.returns
returns c =
    all_marked c.args.graph.now c.loop-node.search.marks c.loop-node.search.next c.loop-node.search.stack.items c.loop-node.search.bounds c.loop-node.search.waiting c.loop-node.node c.loop-node.invariant.0 c.loop-node.invariant.1
    (omega (arith, c.loop-node-test.false, c.loop-node.auto.node-end, c.node_count-node-end.ensures)) c.loop-node.invariant.2
