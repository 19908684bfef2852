-- the copies so far, and then the parts that are left, are the parts
use Rattle.std.proofs.Common.{◌≡◌, ◌++◌, drop}
use Rattle.ir_syntax.proofs.copies.+copied_const.Given as goal

abbrev pub invariant-loop-part : goal.invariant-loop-part
invariant-loop-part l = l.copies ++ drop l.part-index l.part-items ≡ l.part-items
