use Rattle.std.proofs.Common.{take}
use Rattle.std.specs.List.{AllZip}
use Rattle.ir_syntax.specs.Refusals.{IsArgumentOf}
use Rattle.linker.proofs.shapes.are_arguments_of.Given as goal

abbrev pub invariant-loop-i : goal.invariant-loop-i
invariant-loop-i l = AllZip IsArgumentOf (take l.i l.params) (take l.i l.args)
