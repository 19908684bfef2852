-- the names so far
use Rattle.std.proofs.Common.{◌≡◌, true, take}
use Rattle.name_table.specs.Places.{are_distinct}
use Rattle.straight_reader.specs.Forms.{function_names}
use Rattle.straight_reader.proofs.form.names.Given as goal

abbrev pub invariant-loop-entity : goal.invariant-loop-entity
invariant-loop-entity l = record {
  names : l.names ≡ function_names (take l.entity-index l.entities);
  well : are_distinct (function_names (take l.entity-index l.entities)) ≡ true;
}
