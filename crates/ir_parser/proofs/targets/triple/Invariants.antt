-- what was found, and what is left
use Rattle.std.proofs.Common.{◌≡◌, None, drop}
use Rattle.ir_parser.specs.Modules.{triple_from}
use Rattle.ir_parser.proofs.targets.triple.Given as goal

abbrev pub invariant-loop-entity : goal.invariant-loop-entity
invariant-loop-entity l = triple_from l.found (drop l.entity-index l.entities) ≡ triple_from None l.entities
