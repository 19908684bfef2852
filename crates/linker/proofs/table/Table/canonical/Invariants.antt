use Rattle.std.proofs.Common.{◌≡◌, take}
use Rattle.linker.specs.Mirrors.Rows.{rows_from, canonical_in}
use Rattle.linker.proofs.table.Table.canonical.Given as goal

abbrev pub invariant-loop-place : goal.invariant-loop-place
invariant-loop-place l = l.rows ≡ rows_from (canonical_in l.self.names l.self.slots) 0 (take l.place l.modules)
