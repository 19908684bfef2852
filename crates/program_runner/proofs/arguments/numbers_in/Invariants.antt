use Rattle.std.proofs.Common.{◌≡◌, ◌++◌, drop}
use Rattle.program_runner.specs.Arguments.{numbers_in}
use Rattle.program_runner.proofs.arguments.numbers_in.Given as goal

abbrev pub invariant-loop-value : goal.invariant-loop-value
invariant-loop-value l = l.numbers ++ numbers_in (drop l.value-index l.known) ≡ numbers_in l.known
