use Rattle.std.proofs.Common.{◌≡◌, map, take}
use Rattle.ir_meaning.specs.Mirrors.Numbering.{item_numbers}
use Rattle.ir_meaning.proofs.table.module_numbers.Given as goal

abbrev pub invariant-loop-item : goal.invariant-loop-item
invariant-loop-item l = l.row ≡ map item_numbers (take l.item-index l.items)
