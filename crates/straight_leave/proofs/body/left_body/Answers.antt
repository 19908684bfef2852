use Rattle.straight_leave.specs.Places.{place_in}
use Rattle.straight_leave.specs.Rewritten.{new_block}
use Rattle.straight_leave.proofs.Blocks.{mapped_more}
use Rattle.straight_leave.proofs.body.left_body.Goals as goal

pub loop-block-preserved : goal.loop-block-preserved
loop-block-preserved c =
    mapped_more (new_block c.args.items.now (place_in c.args.rows.now.keys) c.args.whole c.args.cut.now) c.as_slice-block-items.result.now c.loop-block.block-index c.block-item.result
    c.in_ok-left_block.field-0 c.loop-block.blocks c.push.new.self c.loop-block-test.true c.block-item.is c.in_ok-left_block.ensures c.in_ok-push.ensures.ok c.loop-block.invariant
