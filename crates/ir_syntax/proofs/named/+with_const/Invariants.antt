-- the names so far, and then those that are left, are those before, and then all
use Rattle.std.proofs.Common.{◌≡◌, ◌++◌, drop}
use Rattle.std.specs.List.{flat_map}
use Rattle.ir_syntax.specs.Named.{names}
use Rattle.ir_syntax.proofs.named.+with_const.Given as goal

abbrev pub invariant-loop-part : goal.invariant-loop-part
invariant-loop-part l = l.named ++ flat_map names (drop l.part-index l.part-items) ≡ l.fn.named ++ flat_map names l.part-items
