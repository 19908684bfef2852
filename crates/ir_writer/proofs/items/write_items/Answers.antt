use Rattle.std.proofs.Common.{map}
use Rattle.ir_syntax.specs.FormedBody.{item_name}
use Rattle.ir_writer.specs.Modules.{item_parts}
use Rattle.ir_writer.proofs.LineTexts.{flat_step}
use Rattle.ir_writer.proofs.items.write_items.Goals as goal

pub loop-item-preserved : goal.loop-item-preserved
loop-item-preserved c =
    flat_step (item_parts (map item_name c.args.items.now)) c.args.items.now c.loop-item.item-index c.item-item.result _ _ _ c.loop-item-test.true c.item-item.is c.in_ok-write_item.ensures c.loop-item.invariant
