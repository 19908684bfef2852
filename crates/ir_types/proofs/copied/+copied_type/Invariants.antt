-- the copies so far, and then the fields that are left, are the fields
use Rattle.std.proofs.Common.{◌≡◌, ◌++◌, drop}
use Rattle.ir_types.proofs.copied.+copied_type.Given as goal

abbrev pub invariant-loop-field : goal.invariant-loop-field
invariant-loop-field l = l.copies ++ drop l.field-index l.field-items ≡ l.field-items
