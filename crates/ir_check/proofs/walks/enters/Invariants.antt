-- the walk goes through where it goes on from the part that it has entered
use Rattle.std.proofs.Common.{drop}
use Rattle.std.specs.Prelude.{◌↔◌}
use Rattle.ir_syntax.specs.Typed.{Enters}
use Rattle.ir_check.proofs.walks.enters.Given as goal

abbrev pub invariant-loop-index : goal.invariant-loop-index
invariant-loop-index l = Enters l.part (drop l.index-index l.indices) ↔ Enters l.ty l.indices
