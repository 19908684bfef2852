use Rattle.std.proofs.Common.{take}
use Rattle.linker.specs.Mirrors.Slots.{AreSame}
use Rattle.linker.proofs.table.names_among.Given as goal

abbrev pub invariant-loop-name : goal.invariant-loop-name
invariant-loop-name l = AreSame l.names (take l.name-index l.listed)
