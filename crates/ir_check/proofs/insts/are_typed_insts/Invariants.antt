-- the instructions so far are well typed
use Rattle.std.proofs.Common.{take}
use Rattle.std.specs.Prelude.{All}
use Rattle.ir_syntax.specs.Typed.{TypedInst}
use Rattle.ir_check.specs.Scopes.{types_of}
use Rattle.ir_check.proofs.insts.are_typed_insts.Given as goal

abbrev pub invariant-loop-inst : goal.invariant-loop-inst
invariant-loop-inst l = All (TypedInst (types_of l.scope)) (take l.inst-index l.insts)
