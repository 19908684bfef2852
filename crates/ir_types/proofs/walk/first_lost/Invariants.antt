-- however the walk goes on, it goes on from the part that it has entered
use Rattle.std.proofs.Common.{take}
use Rattle.ir_types.proofs.Walks.{GoesOnFrom}
use Rattle.ir_types.proofs.walk.first_lost.Given as goal

abbrev pub invariant-loop-at : goal.invariant-loop-at
invariant-loop-at l = GoesOnFrom l.ty (take l.at l.indices) l.part
