-- the copies so far, and then the items that are left, are the items
use Rattle.std.proofs.Common.{◌≡◌, ◌++◌, drop}
use Rattle.ir_types.proofs.copied.ListCopied.copied.Given as goal

abbrev pub invariant-loop-item : goal.invariant-loop-item
invariant-loop-item g l = l.copy ++ drop l.item-index l.item-items ≡ l.item-items
