-- the names so far, and those that are left
use Rattle.std.proofs.Common.{◌≡◌, ◌++◌, drop}
use Rattle.ir_parser.specs.Modules.{symbols_of}
use Rattle.ir_parser.proofs.items.symbols.Given as goal

abbrev pub invariant-loop-entity : goal.invariant-loop-entity
invariant-loop-entity l = l.names ++ symbols_of (drop l.entity-index l.entities) ≡ symbols_of l.entities
