use Rattle.std.proofs.Common.{take}
use Rattle.linker.specs.Mirrors.Groups.{symbols_from}
use Rattle.linker.proofs.Grouping.{modules_step, modules_whole}
use Rattle.linker.proofs.groups.Groups.of.Goals as goal

pub loop-place-preserved : goal.loop-place-preserved
loop-place-preserved c = modules_step c.args.modules.now c.loop-place.place c.index-modules-place.result c.as_slice.result.now c.add_items.new.self.names c.add_items.new.self.groups.items c.loop-place-test.true c.index-modules-place.is c.as_slice.ensures (c.in_ok-add_items.ensures (λ name. symbols_from 0 (take c.loop-place.place c.args.modules.now) name) c.loop-place.invariant)

pub returns : goal.returns
returns c = modules_whole c.args.modules.now c.loop-place.place c.loop-place.groups.names c.loop-place.groups.groups.items c.loop-place-test.false c.loop-place.invariant
