-- what was found, and what is left
use Rattle.std.proofs.Common.{◌≡◌, None, drop}
use Rattle.ir_parser.specs.Modules.{layout_from}
use Rattle.ir_parser.proofs.targets.layout.Given as goal

abbrev pub invariant-loop-entity : goal.invariant-loop-entity
invariant-loop-entity l = layout_from l.found (drop l.entity-index l.entities) ≡ layout_from None l.entities
