use Rattle.std.proofs.Common.{arith}
use Rattle.call_cycles.proofs.Lists.{last_contained, within}
use Rattle.call_cycles.proofs.Steps.{node_there, next_leads, looked_search, looked_left, idle_search}
use Rattle.call_cycles.proofs.search.Search.look.Goals as goal

pub node_at-node-requires : goal.node_at-node-requires
node_at-node-requires c = c.requires.search.waiting_within c.args.place (last_contained c.args.self.now.waiting c.args.place c.requires.waiting)

pub next_of-edge-requires : goal.next_of-edge-requires
next_of-edge-requires c =
    let there = node_there c.args.graph.now c.args.self.now.marks c.args.self.now.next c.args.self.now.stack.items c.args.self.now.bounds c.args.self.now.waiting c.args.place c.node_at-node.result c.requires.search c.node_at-node.ensures in there.1

pub end-requires-clause-node : goal.end-requires-clause-node
end-requires-clause-node c =
    let there = node_there c.args.graph.now c.args.self.now.marks c.args.self.now.next c.args.self.now.stack.items c.args.self.now.bounds c.args.self.now.waiting c.args.place c.node_at-node.result c.requires.search c.node_at-node.ensures in there.0

pub follow-requires-clause-place : goal.follow-requires-clause-place
follow-requires-clause-place c = within c.args.self.now.stack.items c.args.place c.node_at-node.result c.node_at-node.ensures

pub follow-requires-clause-leads : goal.follow-requires-clause-leads
follow-requires-clause-leads c =
    next_leads c.args.graph.now c.args.self.now.marks c.args.self.now.next c.args.self.now.stack.items c.args.self.now.bounds c.args.self.now.waiting c.args.place c.node_at-node.result c.in-Some.to c.next_of-edge.result
    c.requires.search c.node_at-node.ensures c.requires.last c.next_of-edge.ensures c.in-Some.ensures.edge.0 c.in-Some.ensures.edge.1

pub overflow_add-edge : goal.overflow_add-edge
overflow_add-edge c = omega (arith, c.in-Some.ensures.counted)

pub returns-in_ok-follow-in-Some-clause-search : goal.returns-in_ok-follow-in-Some-clause-search
returns-in_ok-follow-in-Some-clause-search c =
    looked_search c.args.graph.now c.args.self.now.marks c.follow.new.self.marks c.args.self.now.next c.follow.new.self.next c.args.self.now.stack.items c.follow.new.self.stack.items
    c.args.self.now.bounds c.follow.new.self.bounds c.args.self.now.waiting c.follow.new.self.waiting c.set.new.self c.args.place c.node_at-node.result c.in-Some.to c.next_of-edge.result
    c.in_ok-follow-in-Some.ensures.search c.node_at-node.ensures c.in_ok-follow-in-Some.ensures.stack c.in_ok-follow-in-Some.ensures.next c.next_of-edge.ensures c.in-Some.ensures.edge.1
    c.in_ok-follow-in-Some.ensures.settled c.set.ensures

pub returns-in_ok-follow-in-Some-clause-left : goal.returns-in_ok-follow-in-Some-clause-left
returns-in_ok-follow-in-Some-clause-left c =
    looked_left c.args.graph.now c.args.self.now.marks c.follow.new.self.marks c.args.self.now.next c.follow.new.self.next
    c.args.self.now.bounds c.follow.new.self.bounds c.args.self.now.waiting c.follow.new.self.waiting c.set.new.self c.node_at-node.result c.next_of-edge.result
    c.in_ok-follow-in-Some.ensures.next c.next_of-edge.ensures c.in-Some.ensures.edge.0 c.in_ok-follow-in-Some.ensures.left c.set.ensures

pub returns-in-None-clause-search : goal.returns-in-None-clause-search
returns-in-None-clause-search c =
    let idle = idle_search c.args.graph.now c.args.self.now.marks c.args.self.now.next c.args.self.now.stack.items c.args.self.now.bounds c.args.self.now.waiting c.pop.new.self c.pop.result c.args.place c.node_at-node.result c.next_of-edge.result
    c.requires.search c.requires.waiting c.pop.ensures c.node_at-node.ensures c.next_of-edge.ensures c.in-None.ensures.edge in idle.0

pub returns-in-None-clause-left : goal.returns-in-None-clause-left
returns-in-None-clause-left c =
    let idle = idle_search c.args.graph.now c.args.self.now.marks c.args.self.now.next c.args.self.now.stack.items c.args.self.now.bounds c.args.self.now.waiting c.pop.new.self c.pop.result c.args.place c.node_at-node.result c.next_of-edge.result
    c.requires.search c.requires.waiting c.pop.ensures c.node_at-node.ensures c.next_of-edge.ensures c.in-None.ensures.edge in idle.1
