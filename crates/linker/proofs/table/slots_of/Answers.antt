use Rattle.std.proofs.Common.{take, refl, sym, subst, List, ◌+◌}
use Rattle.std.specs.List.{AllZip}
use Rattle.linker.specs.Mirrors.Slots.{Says}
use Rattle.linker.specs.declared.slot.Slot.{Slot}
use Rattle.linker.proofs.Steps.{zip_goes, whole_zip}
use Rattle.linker.proofs.table.slots_of.Goals as goal

pub loop-group-preserved : goal.loop-group-preserved
loop-group-preserved c = λ listed alike.
    subst (λ (slots : List Slot). AllZip (Says c.args.modules.now listed) (take (c.loop-group.group-index + 1) c.args.groups.now) slots) (sym c.in_ok-push.ensures.ok)
    (zip_goes (Says c.args.modules.now listed) c.args.groups.now c.loop-group.group-index c.group-item.result c.loop-group.slots c.in_ok-of.field-0 c.loop-group-test.true c.group-item.is (c.loop-group.invariant listed alike) (λ name is. c.in_ok-of.ensures name listed is alike))

pub returns : goal.returns
returns c = λ listed alike. whole_zip (Says c.args.modules.now listed) c.args.groups.now c.args.groups.now c.loop-group.group-index c.loop-group.slots refl c.loop-group-test.false (c.loop-group.invariant listed alike)
