use Rattle.std.proofs.Common.{◌≡◌, take}
use Rattle.linker.specs.Mirrors.Rows.{rows_from, target_in}
use Rattle.linker.proofs.table.Table.targets.Given as goal

abbrev pub invariant-loop-place : goal.invariant-loop-place
invariant-loop-place l = l.rows ≡ rows_from (target_in l.self.names l.self.slots) 0 (take l.place l.modules)
