use Rattle.std.proofs.Common.{◌≡◌, ◌++◌, map, drop}
use Rattle.call_cycles.specs.Mirrors.Numbering.{flag_of}
use Rattle.call_cycles.proofs.cycles.row_of.Given as goal

abbrev pub invariant-loop-number : goal.invariant-loop-number
invariant-loop-number l = l.flags ++ map (flag_of l.marks) (drop l.number-index l.numbers) ≡ map (flag_of l.marks) l.numbers
