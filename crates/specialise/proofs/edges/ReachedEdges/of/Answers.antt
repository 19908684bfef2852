use Rattle.std.proofs.Common.{arith, refl}
use Rattle.fold_facts.proofs.Lists.{item_at}
use Rattle.fold_facts.proofs.Visits.{edges_are, blocks_long}
use Rattle.specialise.proofs.Edging.{before_start, before_next, before_end}
use Rattle.specialise.proofs.edges.ReachedEdges.of.Goals as goal

pub loop-from-init : goal.loop-from-init
loop-from-init c = before_start c.args.a.now c.new-edges.result c.new-edges.ensures

pub add_block-requires-clause-edges : goal.add_block-requires-clause-edges
add_block-requires-clause-edges c =
    edges_are c.args.blocks.now c.args.a.now c.loop-from.from c.index-blocks-from.result c.requires.of
    (item_at c.args.blocks.now c.args.blocks.now c.loop-from.from c.index-blocks-from.result refl c.loop-from-test.true c.index-blocks-from.is)

pub add_block-requires-clause-none : goal.add_block-requires-clause-none
add_block-requires-clause-none c = λ to j. c.loop-from.invariant.above c.loop-from.from to j (omega arith)

pub loop-from-preserved : goal.loop-from-preserved
loop-from-preserved c = before_next c.args.a.now c.loop-from.edges c.add_block.new.self c.loop-from.from c.loop-from.invariant c.in_ok-add_block.ensures

pub returns : goal.returns
returns c = before_end c.args.a.now c.loop-from.edges c.loop-from.from c.loop-from.invariant (omega (arith, c.loop-from-test.false, blocks_long c.args.blocks.now c.args.a.now c.requires.of))
