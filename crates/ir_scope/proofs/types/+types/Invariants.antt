-- The fields so far, and those that are left. Each call goes to a lower depth, or to a part of what it reads.
use Rattle.std.proofs.Common.{◌≡◌, ◌+◌, ◌-◌, ◌*◌, ◌≤◌, drop, length}
use Rattle.ir_grammar.specs.Tokens.{seen}
use Rattle.ir_scope.specs.Runs.{runs}
use Rattle.ir_scope.specs.Scopes.{type_among}
use Rattle.ir_scope.specs.Types.{type_at, begins_field}
use Rattle.ir_scope.proofs.Runs.{read_on}
use Rattle.ir_scope.proofs.types.+types.Given as goal

abbrev pub decreases-type_at : goal.decreases-type_at
decreases-type_at l = 4 * l.depth + 3

abbrev pub decreases-array_at : goal.decreases-array_at
decreases-array_at l = 4 * l.depth + 2

abbrev pub decreases-struct_at : goal.decreases-struct_at
decreases-struct_at l = 4 * l.depth + 2

abbrev pub decreases-read_fields : goal.decreases-read_fields
decreases-read_fields l = 4 * l.depth + 4

abbrev pub invariant-read_fields-reading : goal.invariant-read_fields-reading
invariant-read_fields-reading l = record {
  read : read_on l.fields.types l.fields.taken (runs begins_field (type_at (type_among l.scope.types) l.depth) (drop l.fields.taken (seen l.kept))) ≡ runs begins_field (type_at (type_among l.scope.types) l.depth) (seen l.kept);
  within : l.fields.taken ≤ length l.kept;
}

abbrev pub decreases-read_fields-reading : goal.decreases-read_fields-reading
decreases-read_fields-reading l = length l.kept - l.fields.taken
