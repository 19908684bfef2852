use Rattle.linker.specs.Mirrors.Rows.{target_in}
use Rattle.linker.proofs.Entries.{row_step, row_whole}
use Rattle.linker.proofs.table.Table.target_row.Goals as goal

pub loop-item-preserved : goal.loop-item-preserved
loop-item-preserved c = row_step (target_in c.args.self.now.names c.args.self.now.slots) c.args.place c.args.items.now c.loop-item.item c.index-items-item.result c.loop-item.row c.push.new.self c.target_of.result c.loop-item-test.true c.index-items-item.is c.loop-item.invariant c.target_of.ensures c.in_ok-push.ensures.ok

pub returns : goal.returns
returns c = row_whole (target_in c.args.self.now.names c.args.self.now.slots) c.args.place c.args.items.now c.loop-item.item c.loop-item.row c.loop-item-test.false c.loop-item.invariant
