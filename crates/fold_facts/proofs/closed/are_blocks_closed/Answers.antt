use Rattle.std.proofs.Common.{◌+◌, refl, arith}
use Rattle.fold_facts.proofs.Lists.{item_at}
use Rattle.fold_facts.proofs.Numbers.{block_within}
use Rattle.fold_facts.proofs.Visits.{edges_are, blocks_long}
use Rattle.fold_facts.proofs.Closing.{accepted, refuted, blocks_begin, blocks_more, blocks_done, blocks_one}
use Rattle.fold_facts.proofs.closed.are_blocks_closed.Goals as goal

pub loop-place-init : goal.loop-place-init
loop-place-init c = blocks_begin (record { known = c.args.known.now }) c.args.blocks.now c.args.a.now

pub is_closed_if_reached-requires-clause-there : goal.is_closed_if_reached-requires-clause-there
is_closed_if_reached-requires-clause-there c = omega (arith, c.loop-place-test.true, blocks_long c.args.blocks.now c.args.a.now c.requires.fits)

pub is_closed_if_reached-requires-clause-few : goal.is_closed_if_reached-requires-clause-few
is_closed_if_reached-requires-clause-few c =
    omega (
      arith,
      c.requires.few,
      c.loop-place.invariant.numbered,
      block_within c.args.blocks.now c.loop-place.place c.index-blocks-place.result
          (item_at c.args.blocks.now c.args.blocks.now c.loop-place.place c.index-blocks-place.result refl c.loop-place-test.true c.index-blocks-place.is),
    )

pub is_closed_if_reached-requires-clause-edges : goal.is_closed_if_reached-requires-clause-edges
is_closed_if_reached-requires-clause-edges c =
    edges_are c.args.blocks.now c.args.a.now c.loop-place.place c.index-blocks-place.result c.requires.fits
    (item_at c.args.blocks.now c.args.blocks.now c.loop-place.place c.index-blocks-place.result refl c.loop-place-test.true c.index-blocks-place.is)

pub returns-then-not-is_closed_if_reached : goal.returns-then-not-is_closed_if_reached
returns-then-not-is_closed_if_reached c =
    refuted c.is_closed_if_reached.result c.if-not-is_closed_if_reached.true c.is_closed_if_reached.ensures
    (blocks_one (record { known = c.args.known.now }) c.args.blocks.now c.args.a.now c.loop-place.place c.loop-place.first c.index-blocks-place.result c.loop-place.invariant
    (item_at c.args.blocks.now c.args.blocks.now c.loop-place.place c.index-blocks-place.result refl c.loop-place-test.true c.index-blocks-place.is))

pub result_count-first-requires : goal.result_count-first-requires
result_count-first-requires c =
    omega (
      arith,
      c.requires.few,
      block_within c.args.blocks.now c.loop-place.place c.index-blocks-place.result
          (item_at c.args.blocks.now c.args.blocks.now c.loop-place.place c.index-blocks-place.result refl c.loop-place-test.true c.index-blocks-place.is),
    )

pub overflow_add-first : goal.overflow_add-first
overflow_add-first c =
    omega (
      arith,
      c.requires.few,
      c.result_count-first.ensures,
      c.loop-place.invariant.numbered,
      block_within c.args.blocks.now c.loop-place.place c.index-blocks-place.result
          (item_at c.args.blocks.now c.args.blocks.now c.loop-place.place c.index-blocks-place.result refl c.loop-place-test.true c.index-blocks-place.is),
    )

pub loop-place-preserved : goal.loop-place-preserved
loop-place-preserved c =
    blocks_more (record { known = c.args.known.now }) c.args.blocks.now c.args.a.now c.loop-place.place c.loop-place.first (c.loop-place.first + c.result_count-first.result) c.result_count-first.result c.index-blocks-place.result c.loop-place.invariant
    (item_at c.args.blocks.now c.args.blocks.now c.loop-place.place c.index-blocks-place.result refl c.loop-place-test.true c.index-blocks-place.is)
    (c.is_closed_if_reached.ensures.0 c.if-not-is_closed_if_reached.false) c.result_count-first.ensures refl

pub returns : goal.returns
returns c = accepted (blocks_done (record { known = c.args.known.now }) c.args.blocks.now c.args.a.now c.loop-place.place c.loop-place.first c.loop-place-test.false c.loop-place.invariant)
