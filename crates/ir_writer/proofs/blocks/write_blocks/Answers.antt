use Rattle.std.proofs.Common.{◌+◌, map, arith}
use Rattle.ir_syntax.specs.FormedBody.{item_name}
use Rattle.ir_writer.proofs.LineTexts.{block_step, few_step}
use Rattle.ir_writer.proofs.blocks.write_blocks.Goals as goal

pub loop-place-preserved : goal.loop-place-preserved
loop-place-preserved c = record {
  few = few_step c.args.blocks.now c.loop-place.place c.loop-place.number c.in_ok-number.number c.index-blocks-place.result 1048576 c.loop-place-test.true c.index-blocks-place.is c.in_ok-number.ensures.next c.loop-place.invariant.few;
  text = block_step (map item_name c.args.items.now) c.args.blocks.now c.loop-place.place (c.loop-place.place + 1) c.loop-place.number c.in_ok-number.number c.index-blocks-place.result _ _ _ c.loop-place-test.true c.index-blocks-place.is (omega arith)
      c.in_ok-number.ensures.next c.in_ok-number.ensures.text c.loop-place.invariant.text;
}
