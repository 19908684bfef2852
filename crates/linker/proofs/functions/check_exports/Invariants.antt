use Rattle.std.proofs.Common.{take}
use Rattle.std.specs.List.{All}
use Rattle.linker.proofs.Deployed.{IsShaped}
use Rattle.linker.proofs.functions.check_exports.Given as goal

abbrev pub invariant-loop-i : goal.invariant-loop-i
invariant-loop-i l = All (IsShaped l.modules) (take l.i l.exports)
