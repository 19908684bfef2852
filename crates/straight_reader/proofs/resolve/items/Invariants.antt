-- the functions so far, and those that are left
use Rattle.std.proofs.Common.{◌≡◌, drop}
use Rattle.straight_form.specs.Resolved.{items_of}
use Rattle.straight_reader.specs.Readings.{extended}
use Rattle.straight_reader.proofs.resolve.items.Given as goal

abbrev pub invariant-loop-entity : goal.invariant-loop-entity
invariant-loop-entity l = extended l.items (items_of l.functions (drop l.entity-index l.entities)) ≡ items_of l.functions l.entities
