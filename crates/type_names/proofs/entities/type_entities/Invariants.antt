use Rattle.std.proofs.Common.{◌≡◌, take}
use Rattle.type_names.specs.Written.{named, entities_from}
use Rattle.type_names.proofs.entities.type_entities.Given as goal

abbrev pub invariant-loop-place : goal.invariant-loop-place
invariant-loop-place l = l.entities.items ≡ entities_from (named l.types) 0 (named (take l.place l.types))
