use Rattle.std.proofs.Common.{◌≡◌, ◌++◌, drop}
use Rattle.call_cycles.specs.Mirrors.Numbering.{flags_of}
use Rattle.call_cycles.proofs.cycles.flags_of.Given as goal

abbrev pub invariant-loop-row : goal.invariant-loop-row
invariant-loop-row l = l.flags ++ flags_of l.marks (drop l.row-index l.numbers) ≡ flags_of l.marks l.numbers
