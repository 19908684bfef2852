use Rattle.ir_paths.proofs.Passing.{asks_start, asks_next}
use Rattle.ir_paths.proofs.batch.all_passed.Goals as goal

pub loop-rest-init : goal.loop-rest-init
loop-rest-init c = asks_start c.args.blocks.now c.args.far.items c.in_ok-far.far.items c.as_slice-rest.result.now c.requires c.in_ok-far.ensures c.as_slice-rest.ensures.value

pub loop-rest-preserved : goal.loop-rest-preserved
loop-rest-preserved c =
    asks_next c.args.blocks.now c.args.far.items c.loop-rest.rest.now c.split_at.result.1.now c.in_ok-passed.passed c.in-Some.taken c.loop-rest.invariant c.in-Some.is c.in_ok-passed.ensures.passed
    c.split_at.ensures.back
