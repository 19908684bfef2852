-- the types so far, and those that are left
use Rattle.std.proofs.Common.{◌≡◌, ◌++◌, drop}
use Rattle.type_names.specs.TypeNames.{named_types}
use Rattle.type_names.specs.Written.{named}
use Rattle.ir_parser.proofs.items.types_in.Given as goal

abbrev pub invariant-loop-entity : goal.invariant-loop-entity
invariant-loop-entity l = named l.types ++ named_types (drop l.entity-index l.entities) ≡ named_types l.entities
