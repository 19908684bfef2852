use Rattle.std.proofs.Common.{take}
use Rattle.linker.specs.Mirrors.Slots.{IsLeastSlot}
use Rattle.linker.proofs.table.Table.least.Given as goal

abbrev pub invariant-loop-slot : goal.invariant-loop-slot
invariant-loop-slot l = IsLeastSlot l.modules l.rule (take l.slot-index l.slots) l.least
