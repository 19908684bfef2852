use Rattle.std.proofs.Common.{◌++◌, take}
use Rattle.linker.specs.Mirrors.Groups.{symbols_in_row}
use Rattle.linker.proofs.Grouping.{items_start, items_step, items_whole}
use Rattle.linker.proofs.groups.Groups.add_items.Goals as goal

pub loop-item-init : goal.loop-item-init
loop-item-init c = λ symbols h. items_start symbols c.args.place c.args.items.now c.args.self.now.names c.args.self.now.groups.items h

pub loop-item-preserved : goal.loop-item-preserved
loop-item-preserved c = λ symbols h. items_step symbols c.args.place c.args.items.now c.loop-item.item c.index-items-item.result c.add_item.new.self.names c.add_item.new.self.groups.items c.loop-item-test.true c.index-items-item.is (c.in_ok-add_item.ensures (λ name. symbols name ++ symbols_in_row c.args.place 0 (take c.loop-item.item c.args.items.now) name) (c.loop-item.invariant symbols h))

pub returns : goal.returns
returns c = λ symbols h. items_whole symbols c.args.place c.args.items.now c.loop-item.item c.loop-item.self.names c.loop-item.self.groups.items c.loop-item-test.false (c.loop-item.invariant symbols h)
