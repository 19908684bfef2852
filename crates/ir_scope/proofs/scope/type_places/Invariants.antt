-- the names so far
use Rattle.std.proofs.Common.{map, take}
use Rattle.ir_scope.specs.Mirrors.Placed.{ArePlaces}
use Rattle.ir_scope.proofs.Placing.{entries_by}
use Rattle.ir_scope.proofs.scope.type_places.Given as goal

abbrev pub invariant-loop-at : goal.invariant-loop-at
invariant-loop-at l = ArePlaces (entries_by (λ v. v.items) l.places.first.entries) l.places.doubled (map (λ t. t.0) (take l.at l.types))
