-- no part so far names an intrinsic
use Rattle.std.proofs.Common.{take}
use Rattle.std.specs.Prelude.{All}
use Rattle.ir_syntax.specs.Typed.{NamesNoIntrinsic}
use Rattle.ir_check.proofs.names.+names_no_intrinsic.Given as goal

abbrev pub invariant-loop-part : goal.invariant-loop-part
invariant-loop-part l = All (NamesNoIntrinsic l.items) (take l.part-index l.part-items)
