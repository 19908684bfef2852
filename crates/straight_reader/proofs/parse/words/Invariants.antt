-- the words so far, and those that are left
use Rattle.std.proofs.Common.{◌≡◌, ◌-◌, ◌*◌, ◌≤◌, drop, length}
use Rattle.straight_form.specs.Spelled.{seen}
use Rattle.straight_reader.specs.Readings.{words_from, extended}
use Rattle.straight_reader.proofs.parse.words.Given as goal

abbrev pub invariant-reading : goal.invariant-reading
invariant-reading l = record {
  read : extended l.words (words_from 0 (seen (drop l.at l.lexemes))) ≡ words_from 0 (seen l.lexemes);
  taken : l.at ≡ 3 * length l.words;
  within : l.at ≤ length l.lexemes;
}

abbrev pub decreases-reading : goal.decreases-reading
decreases-reading l = length l.lexemes - l.at
