use Rattle.std.proofs.Common.{arith}
use Rattle.call_cycles.proofs.Steps.{done_there, node_there, right_many, right_one}
use Rattle.call_cycles.proofs.search.Search.is_on_cycle.Goals as goal

pub overflow_sub-len : goal.overflow_sub-len
overflow_sub-len c =
    omega (arith, c.len.ensures, c.args.self.now.stack.ok, done_there c.args.graph.now c.args.self.now.marks c.args.self.now.next c.args.self.now.stack.items c.args.self.now.bounds c.args.self.now.waiting c.args.bound c.requires.done)

pub returns-then-len-bound-gt1 : goal.returns-then-len-bound-gt1
returns-then-len-bound-gt1 c =
    right_many c.args.graph.now c.args.self.now.marks c.args.self.now.next c.args.self.now.stack.items c.args.self.now.bounds c.args.self.now.waiting c.args.bound c.requires.done
    (omega (arith, c.len.ensures, c.args.self.now.stack.ok, c.if-len-bound-gt1.true))

pub node_at-node-requires : goal.node_at-node-requires
node_at-node-requires c = done_there c.args.graph.now c.args.self.now.marks c.args.self.now.next c.args.self.now.stack.items c.args.self.now.bounds c.args.self.now.waiting c.args.bound c.requires.done

pub has_edge-requires-clause-node : goal.has_edge-requires-clause-node
has_edge-requires-clause-node c =
    let there = node_there c.args.graph.now c.args.self.now.marks c.args.self.now.next c.args.self.now.stack.items c.args.self.now.bounds c.args.self.now.waiting c.args.bound c.node_at-node.result c.requires.done.search c.node_at-node.ensures in there.0

pub returns : goal.returns
returns c =
    right_one c.args.graph.now c.args.self.now.marks c.args.self.now.next c.args.self.now.stack.items c.args.self.now.bounds c.args.self.now.waiting c.args.bound c.node_at-node.result c.has_edge.result c.requires.done
    (omega (arith, c.len.ensures, c.args.self.now.stack.ok, c.if-len-bound-gt1.false)) c.node_at-node.ensures c.has_edge.ensures
