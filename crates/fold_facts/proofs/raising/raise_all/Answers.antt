use Rattle.std.proofs.Common.{◌+◌, refl, arith, sym, subst}
use Rattle.fold_facts.proofs.Lists.{item_at}
use Rattle.fold_facts.proofs.Numbers.{block_within}
use Rattle.fold_facts.proofs.Visits.{AllRaised, all_step, all_end}
use Rattle.fold_facts.proofs.raising.raise_all.Goals as goal

pub result_count-first-requires : goal.result_count-first-requires
result_count-first-requires c =
    omega (
      arith,
      c.requires.few,
      block_within c.args.blocks.now c.loop-place.place c.index-blocks-place.result
          (item_at c.args.blocks.now c.args.blocks.now c.loop-place.place c.index-blocks-place.result refl c.loop-place-test.true c.index-blocks-place.is),
    )

pub overflow_add-first : goal.overflow_add-first
overflow_add-first c =
    omega (
      arith,
      c.requires.few,
      c.result_count-first.ensures,
      c.loop-place.invariant.numbered,
      block_within c.args.blocks.now c.loop-place.place c.index-blocks-place.result
          (item_at c.args.blocks.now c.args.blocks.now c.loop-place.place c.index-blocks-place.result refl c.loop-place-test.true c.index-blocks-place.is),
    )

pub loop-place-preserved : goal.loop-place-preserved
loop-place-preserved c =
    subst (AllRaised (record { known = c.args.known.now }) c.args.blocks.now c.args.a.now c.raise_if_reached-raised.new.a (c.loop-place.place + 1) (c.loop-place.first + c.result_count-first.result)) (sym c.either-changed.ensures)
    (all_step (record { known = c.args.known.now }) c.args.blocks.now c.args.a.now c.loop-place.a c.raise_if_reached-raised.new.a c.loop-place.place c.loop-place.first (c.loop-place.first + c.result_count-first.result) c.result_count-first.result
    c.index-blocks-place.result c.loop-place.changed c.raise_if_reached-raised.result c.loop-place.invariant
    (item_at c.args.blocks.now c.args.blocks.now c.loop-place.place c.index-blocks-place.result refl c.loop-place-test.true c.index-blocks-place.is)
    c.raise_if_reached-raised.ensures.raises c.raise_if_reached-raised.ensures.closed c.result_count-first.ensures refl)

pub returns-clause-closed : goal.returns-clause-closed
returns-clause-closed c =
    all_end (record { known = c.args.known.now }) c.args.blocks.now c.args.a.now c.loop-place.a c.loop-place.place c.loop-place.first c.loop-place.changed c.loop-place-test.false c.loop-place.invariant
