use Rattle.std.proofs.Common.{All, take}
use Rattle.ir_syntax.specs.FormedItem.{FormedItem}
use Rattle.ir_syntax.specs.Definite.{DefiniteItem}
use Rattle.ir_paths.proofs.items.check_items.Given as goal

abbrev pub invariant-loop-place : goal.invariant-loop-place
invariant-loop-place l = All (FormedItem l.items) l.items → All DefiniteItem (take l.place l.items)
