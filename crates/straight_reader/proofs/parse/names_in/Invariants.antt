-- the names so far, and those that are left
use Rattle.std.proofs.Common.{◌≡◌, drop, length}
use Rattle.straight_reader.specs.Readings.{names_in, extended}
use Rattle.straight_reader.proofs.parse.names_in.Given as goal

abbrev pub invariant-loop-value : goal.invariant-loop-value
invariant-loop-value l = record {
  read : extended l.names (names_in (drop l.value-index l.values)) ≡ names_in l.values;
  same : length l.names ≡ l.value-index;
}
