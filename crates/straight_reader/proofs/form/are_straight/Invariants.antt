-- what is left to test
use Rattle.std.proofs.Common.{◌≡◌, drop}
use Rattle.straight_form.specs.Form.{are_straight}
use Rattle.straight_reader.proofs.form.are_straight.Given as goal

abbrev pub invariant-loop-at : goal.invariant-loop-at
invariant-loop-at l = are_straight (drop l.at l.entities) ≡ are_straight l.entities
