use Rattle.std.proofs.Common.{◌∙◌, ◌+◌, arith, ap, sym, subst}
use Rattle.fold_facts.specs.Terminators.{term_edges}
use Rattle.fold_facts.proofs.Visits.{EdgesRaised, edges_long, edges_step, edges_end}
use Rattle.fold_facts.proofs.raising.reach_edges.Goals as goal

pub reach_asked-reached-requires : goal.reach_asked-reached-requires
reach_asked-reached-requires c =
    omega (arith, c.loop-k-test.true, c.successor_count-k-end.ensures, edges_long c.args.blocks.now c.loop-k.a c.args.place c.args.block.now c.loop-k.invariant.raises.fits c.requires.there)

pub loop-k-preserved : goal.loop-k-preserved
loop-k-preserved c =
    subst (EdgesRaised (record { known = c.args.known.now }) c.args.blocks.now c.args.a.now c.reach_asked-reached.new.a c.args.place (c.loop-k.k + 1) c.args.block.now c.term_edges-asked.result) (sym c.either-changed.ensures)
    (edges_step (record { known = c.args.known.now }) c.args.blocks.now c.args.a.now c.loop-k.a c.reach_asked-reached.new.a c.args.place c.args.first c.loop-k.k c.args.block.now c.term_edges-asked.result c.loop-k.changed c.reach_asked-reached.result
    c.requires (c.term_edges-asked.ensures ∙ ap (λ fs. term_edges (record { known = c.args.known.now }) fs c.args.block.now.term) c.facts.ensures) c.loop-k.invariant
    (omega (arith, c.loop-k-test.true, c.successor_count-k-end.ensures)) c.reach_asked-reached.ensures.new c.reach_asked-reached.ensures.value)

pub returns-clause-closed : goal.returns-clause-closed
returns-clause-closed c =
    edges_end (record { known = c.args.known.now }) c.args.blocks.now c.args.a.now c.loop-k.a c.args.place c.loop-k.k c.args.block.now c.term_edges-asked.result c.loop-k.changed
    (omega (arith, c.loop-k-test.false, c.successor_count-k-end.ensures)) (c.term_edges-asked.ensures ∙ ap (λ fs. term_edges (record { known = c.args.known.now }) fs c.args.block.now.term) c.facts.ensures) c.loop-k.invariant
