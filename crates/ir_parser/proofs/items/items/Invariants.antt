-- the items so far, and those that are left
use Rattle.std.proofs.Common.{◌≡◌, ◌≤◌, length, drop}
use Rattle.ir_scope.specs.Scopes.{env_of}
use Rattle.type_names.specs.TypeNames.{named_types}
use Rattle.ir_parser.specs.Modules.{items_from}
use Rattle.ir_parser.proofs.Resolving.{joined}
use Rattle.ir_parser.proofs.items.items.Given as goal

abbrev pub invariant-loop-at : goal.invariant-loop-at
invariant-loop-at l = record {
  read : joined l.items l.at (items_from (env_of l.expanded.scope) (named_types l.entities) (drop l.at l.entities) l.types (length l.items)) ≡ items_from (env_of l.expanded.scope) (named_types l.entities) l.entities 0 0;
  types : drop l.types (named_types l.entities) ≡ named_types (drop l.at l.entities);
  few : l.types ≤ l.at;
}
