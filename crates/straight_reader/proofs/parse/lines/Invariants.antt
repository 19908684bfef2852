-- the lines so far, and those that are left
use Rattle.std.proofs.Common.{◌≡◌, ◌-◌, ◌≤◌, drop, length}
use Rattle.straight_form.specs.Spelled.{seen}
use Rattle.straight_reader.specs.Readings.{lines_len, lines_from, extended}
use Rattle.straight_reader.proofs.parse.lines.Given as goal

abbrev pub invariant-reading : goal.invariant-reading
invariant-reading l = record {
  read : extended l.lines (lines_from 0 (seen (drop l.at l.lexemes))) ≡ lines_from 0 (seen l.lexemes);
  taken : l.at ≡ lines_len l.lines;
  within : l.at ≤ length l.lexemes;
}

abbrev pub decreases-reading : goal.decreases-reading
decreases-reading l = length l.lexemes - l.at
