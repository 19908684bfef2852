use Rattle.linker.proofs.Tables.{least_step, least_whole}
use Rattle.linker.proofs.table.Table.least.Goals as goal

pub loop-slot-preserved : goal.loop-slot-preserved
loop-slot-preserved c = least_step c.args.modules.now c.args.rule c.as_slice-slots.result.now c.loop-slot.slot-index _ c.loop-slot.least c.lesser-least.result c.loop-slot-test.true c.loop-slot.invariant c.lesser-least.ensures

pub returns : goal.returns
returns c = least_whole c.args.modules.now c.args.rule c.as_slice-slots.result.now c.args.self.now.slots c.loop-slot.slot-index c.loop-slot.least c.as_slice-slots.ensures c.loop-slot-test.false c.loop-slot.invariant
