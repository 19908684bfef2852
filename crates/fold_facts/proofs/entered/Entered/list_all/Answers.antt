use Rattle.fold_facts.proofs.Indexing.{lists_start, lists_more, lists_all}
use Rattle.fold_facts.proofs.entered.Entered.list_all.Goals as goal

pub loop-edge-init : goal.loop-edge-init
loop-edge-init c = lists_start c.args.self.now c.args.from c.args.edges.now

pub loop-edge-preserved : goal.loop-edge-preserved
loop-edge-preserved c = lists_more c.args.self.now c.loop-edge.self c.list.new.self c.args.from c.loop-edge.edge-index c.args.edges.now _ c.loop-edge-test.true c.loop-edge.invariant c.in_ok-list.ensures

pub returns : goal.returns
returns c = lists_all c.args.self.now c.loop-edge.self c.args.from c.loop-edge.edge-index c.args.edges.now c.loop-edge-test.false c.loop-edge.invariant
