use Rattle.std.proofs.Common.{◌≡◌, drop}
use Rattle.std.specs.List.{flat_map}
use Rattle.ir_syntax.specs.Named.{item_names}
use Rattle.linker.specs.Mirrors.Marks.{marked_all, marks_in}
use Rattle.linker.proofs.marks.marks_in.Given as goal

abbrev pub invariant-loop-item : goal.invariant-loop-item
invariant-loop-item l = marked_all l.row (flat_map item_names (drop l.item-index l.items)) ≡ marks_in l.items
