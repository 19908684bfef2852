use Rattle.std.proofs.Common.{take}
use Rattle.linker.specs.Mirrors.Groups.{AreGroups, symbols_from}
use Rattle.linker.proofs.groups.Groups.of.Given as goal

abbrev pub invariant-loop-place : goal.invariant-loop-place
invariant-loop-place l = AreGroups (λ name. symbols_from 0 (take l.place l.modules) name) l.groups.names l.groups.groups.items
