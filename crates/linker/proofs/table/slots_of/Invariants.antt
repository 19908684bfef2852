use Rattle.std.proofs.Common.{ℕ, List, take}
use Rattle.std.specs.List.{AllZip}
use Rattle.linker.specs.Mirrors.Slots.{AreSame, Says}
use Rattle.linker.proofs.table.slots_of.Given as goal

abbrev pub invariant-loop-group : goal.invariant-loop-group
invariant-loop-group l = (listed : List (List ℕ)) → AreSame l.outside listed → AllZip (Says l.modules listed) (take l.group-index l.groups) l.slots
