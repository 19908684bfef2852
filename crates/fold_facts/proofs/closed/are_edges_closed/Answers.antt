use Rattle.std.proofs.Common.{◌∙◌, arith, ap}
use Rattle.fold_facts.specs.Terminators.{term_edges}
use Rattle.fold_facts.proofs.Closing.{accepted, refuted, edges_more, edges_done, edges_one, edges_length}
use Rattle.fold_facts.proofs.closed.are_edges_closed.Goals as goal

pub is_edge_closed-requires : goal.is_edge_closed-requires
is_edge_closed-requires c = omega (arith, c.loop-k-test.true, c.successor_count-k-end.ensures, edges_length c.args.a.now c.args.place c.args.block.now c.requires)

pub returns-then-not-is_edge_closed : goal.returns-then-not-is_edge_closed
returns-then-not-is_edge_closed c =
    refuted c.is_edge_closed.result c.if-not-is_edge_closed.true c.is_edge_closed.ensures
    (edges_one (record { known = c.args.known.now }) c.args.a.now c.args.place c.loop-k.k c.args.block.now c.term_edges-asked.result
    (c.term_edges-asked.ensures ∙ ap (λ fs. term_edges (record { known = c.args.known.now }) fs c.args.block.now.term) c.facts.ensures) c.requires
    (omega (arith, c.loop-k-test.true, c.successor_count-k-end.ensures)))

pub loop-k-preserved : goal.loop-k-preserved
loop-k-preserved c =
    edges_more c.args.a.now c.args.place c.loop-k.k c.args.block.now c.term_edges-asked.result c.requires c.loop-k.invariant (c.is_edge_closed.ensures.0 c.if-not-is_edge_closed.false)

pub returns : goal.returns
returns c =
    accepted (edges_done (record { known = c.args.known.now }) c.args.a.now c.args.place c.loop-k.k c.args.block.now c.term_edges-asked.result
    (c.term_edges-asked.ensures ∙ ap (λ fs. term_edges (record { known = c.args.known.now }) fs c.args.block.now.term) c.facts.ensures)
    (omega (arith, c.loop-k-test.false, c.successor_count-k-end.ensures)) c.loop-k.invariant)
