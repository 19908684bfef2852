use Rattle.std.proofs.Common.{[], arith}
use Rattle.call_cycles.proofs.Starting.{start_search}
use Rattle.call_cycles.proofs.Steps.{search_same}
use Rattle.std.proofs.Common.{refl}
use Rattle.call_cycles.proofs.search.Search.new.Goals as goal

pub returns-clause-search : goal.returns-clause-search
returns-clause-search c =
    search_same c.args.graph.now c.loop-node.marks c.loop-node.marks c.loop-node.next c.loop-node.next [] c.new.result.items [] c.new-2.result [] c.new-3.result refl refl c.new.ensures.items c.new-2.ensures c.new-3.ensures
    (start_search c.args.graph.now c.loop-node.marks c.loop-node.next c.loop-node.node c.loop-node.invariant (omega (arith, c.loop-node-test.false, c.loop-node.auto.node-end, c.node_count-node-end.ensures)))
