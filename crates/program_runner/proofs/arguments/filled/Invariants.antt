use Rattle.std.proofs.Common.{◌≡◌, drop}
use Rattle.program_runner.specs.Arguments.{filled}
use Rattle.program_runner.proofs.Filling.{behind}
use Rattle.program_runner.proofs.arguments.filled.Given as goal

abbrev pub invariant-loop-arg : goal.invariant-loop-arg
invariant-loop-arg l = behind l.given (filled (drop l.arg-index l.args) l.left) ≡ filled l.args l.words
