use Rattle.std.proofs.Common.{◌∙◌, ◌+◌, drop, length, ap}
use Rattle.ir_types.proofs.ListSteps.{drop_at}
use Rattle.fold_facts.proofs.Visits.{facts_long}
use Rattle.specialise.specs.Leaving.{kept}
use Rattle.specialise.proofs.Masking.{kept_room, kept_next, kept_count}
use Rattle.specialise.proofs.masks.kept_of.Goals as goal

pub add_flags-requires : goal.add_flags-requires
add_flags-requires c =
    kept_room c.args.blocks.now (drop c.loop-place.place c.args.blocks.now) (drop (c.loop-place.place + 1) c.args.blocks.now) c.index-blocks-place.result c.args.facts.now (length c.loop-place.flags) c.result_count.result
    (drop_at c.args.blocks.now c.loop-place.place c.index-blocks-place.result c.loop-place-test.true c.index-blocks-place.is) c.loop-place.invariant.1 c.result_count.ensures
    (ap length c.requires.facts ∙ facts_long c.args.blocks.now c.args.a.now c.requires.of)

pub loop-place-preserved : goal.loop-place-preserved
loop-place-preserved c =
    let rest = drop c.loop-place.place c.args.blocks.now in
    let more = drop (c.loop-place.place + 1) c.args.blocks.now in
    let is = drop_at c.args.blocks.now c.loop-place.place c.index-blocks-place.result c.loop-place-test.true c.index-blocks-place.is in
    let room =
    kept_room c.args.blocks.now rest more c.index-blocks-place.result c.args.facts.now (length c.loop-place.flags) c.result_count.result is c.loop-place.invariant.1 c.result_count.ensures
    (ap length c.requires.facts ∙ facts_long c.args.blocks.now c.args.a.now c.requires.of) in (
      kept_next c.args.a.now c.args.facts.now rest more c.index-blocks-place.result c.loop-place.flags c.add_flags.new.flags (kept c.args.a.now c.args.blocks.now) c.loop-place.place c.result_count.result c.is_reached.result is
          c.loop-place.invariant.0 room c.result_count.ensures c.is_reached.ensures c.in_ok-add_flags.ensures,
      kept_count rest more c.index-blocks-place.result c.args.facts.now c.loop-place.flags c.add_flags.new.flags c.result_count.result _ c.is_reached.result is c.loop-place.invariant.1 room c.result_count.ensures c.in_ok-add_flags.ensures,
    )
