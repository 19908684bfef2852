use Rattle.std.proofs.Common.{◌∙◌, get_or, ap, sym}
use Rattle.std.proofs.lemmas.Option.{slice_get-get_or}
use Rattle.ir_types.proofs.ListSteps.{All-at}
use Rattle.fold_facts.specs.Given.{IsEdgeIn}
use Rattle.fold_facts.proofs.Giving.{edges_begin, edges_step, edges_end, edge_less}
use Rattle.fold_facts.proofs.given.reach_all.Goals as goal

pub loop-from-init : goal.loop-from-init
loop-from-init c = edges_begin c.args.blocks.now c.args.a.now c.args.edges.now c.requires.start

pub reach-requires : goal.reach-requires
reach-requires c =
    edge_less c.args.blocks.now c.loop-from.a (get_or c.args.edges.now c.loop-from.from-index (0, 0)).0 (get_or c.args.edges.now c.loop-from.from-index (0, 0)).1 c.loop-from.invariant.fits
    (All-at (IsEdgeIn c.args.blocks.now) c.args.edges.now c.loop-from.from-index (get_or c.args.edges.now c.loop-from.from-index (0, 0)) c.requires.edges (slice_get-get_or c.args.edges.now c.loop-from.from-index (0, 0) c.loop-from-test.true))

pub loop-from-preserved : goal.loop-from-preserved
loop-from-preserved c =
    edges_step c.args.blocks.now c.loop-from.a c.reach.new.self c.args.edges.now c.loop-from.from-index (get_or c.args.edges.now c.loop-from.from-index (0, 0)).0 (get_or c.args.edges.now c.loop-from.from-index (0, 0)).1
    c.loop-from.invariant (slice_get-get_or c.args.edges.now c.loop-from.from-index (0, 0) c.loop-from-test.true) c.requires.edges c.reach.ensures.value

pub returns-clause-edges : goal.returns-clause-edges
returns-clause-edges c = edges_end c.args.blocks.now c.loop-from.a c.args.edges.now c.loop-from.from-index c.loop-from-test.false c.loop-from.invariant

pub returns-clause-facts : goal.returns-clause-facts
returns-clause-facts c = c.loop-from.invariant.facts ∙ sym (ap (λ a. a.facts) c.requires.start)
