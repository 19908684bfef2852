use Rattle.interface.specs.Summaries.{reached}
use Rattle.specialise.proofs.Masking.{flags_next}
use Rattle.specialise.proofs.masks.reached_of.Goals as goal

pub loop-place-preserved : goal.loop-place-preserved
loop-place-preserved c =
    flags_next c.args.a.now c.args.blocks.now c.loop-place.place c.loop-place.flags c.push.new.self (reached c.args.a.now c.args.blocks.now) c.is_reached.result c.loop-place-test.true c.loop-place.invariant c.in_ok-push.ensures.ok c.is_reached.ensures
