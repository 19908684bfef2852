-- what is left to test
use Rattle.std.proofs.Common.{◌≡◌, drop}
use Rattle.straight_form.specs.Form.{has_entry}
use Rattle.straight_reader.proofs.form.has_entry.Given as goal

abbrev pub invariant-loop-entity : goal.invariant-loop-entity
invariant-loop-entity l = has_entry l.entry l.count (drop l.entity-index l.entities) ≡ has_entry l.entry l.count l.entities
