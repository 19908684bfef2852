-- the names so far
use Rattle.std.proofs.Common.{take}
use Rattle.ir_scope.specs.Mirrors.Placed.{ArePlaces}
use Rattle.ir_scope.proofs.Placing.{entries_by}
use Rattle.ir_scope.proofs.scope.symbol_places.Given as goal

abbrev pub invariant-loop-at : goal.invariant-loop-at
invariant-loop-at l = ArePlaces (entries_by (λ v. v.items) l.places.first.entries) l.places.doubled (take l.at l.symbols)
