use Rattle.std.proofs.Common.{◌≡◌, map, take}
use Rattle.ir_meaning.specs.Mirrors.Numbering.{table_of}
use Rattle.ir_meaning.proofs.table.table_of.Given as goal

abbrev pub invariant-loop-module : goal.invariant-loop-module
invariant-loop-module l = l.table ≡ table_of (take l.module-index l.modules)
