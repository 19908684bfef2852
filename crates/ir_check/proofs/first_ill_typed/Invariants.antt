-- the items so far are well typed
use Rattle.std.proofs.Common.{take}
use Rattle.std.specs.Prelude.{All}
use Rattle.ir_syntax.specs.Typed.{TypedItem}
use Rattle.ir_check.proofs.first_ill_typed.Given as goal

abbrev pub invariant-loop-at : goal.invariant-loop-at
invariant-loop-at l = All (TypedItem l.items) (take l.at l.items)
