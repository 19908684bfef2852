use Rattle.std.proofs.Common.{◌≡◌, ◌++◌, drop}
use Rattle.ir_syntax.specs.Programs.{arguments_of}
use Rattle.linker.proofs.shapes.arguments_of.Given as goal

abbrev pub invariant-loop-i : goal.invariant-loop-i
invariant-loop-i l = l.known ++ arguments_of (drop l.i l.params) (drop l.i l.args) ≡ arguments_of l.params l.args
