use Rattle.std.proofs.Common.{◌≡◌, take}
use Rattle.linker.specs.Mirrors.Rows.{row_of, target_in}
use Rattle.linker.proofs.table.Table.target_row.Given as goal

abbrev pub invariant-loop-item : goal.invariant-loop-item
invariant-loop-item l = l.row ≡ row_of (target_in l.self.names l.self.slots) l.place 0 (take l.item l.items)
