-- the length so far, and that of the lines that are left
use Rattle.std.proofs.Common.{◌≡◌, ◌+◌, drop}
use Rattle.straight_reader.specs.Readings.{lines_len}
use Rattle.straight_reader.proofs.parse.lines_len.Given as goal

abbrev pub invariant-loop-line : goal.invariant-loop-line
invariant-loop-line l = l.len + lines_len (drop l.line-index l.lines) ≡ lines_len l.lines
