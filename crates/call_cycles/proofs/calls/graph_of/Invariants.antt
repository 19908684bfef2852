use Rattle.std.proofs.Common.{◌≡◌, ◌++◌, length, drop}
use Rattle.call_cycles.specs.Mirrors.Numbering.{rows_of, starts_of, ends_of}
use Rattle.call_cycles.proofs.calls.graph_of.Given as goal

abbrev pub invariant-loop-module : goal.invariant-loop-module
invariant-loop-module l = (l.starts ++ starts_of (length l.ends) (rows_of l.program.targets l.numbers l.module (drop l.module l.program.modules)) ≡ starts_of 0 (rows_of l.program.targets l.numbers 0 l.program.modules))
    × (l.ends ++ ends_of (rows_of l.program.targets l.numbers l.module (drop l.module l.program.modules)) ≡ ends_of (rows_of l.program.targets l.numbers 0 l.program.modules))
