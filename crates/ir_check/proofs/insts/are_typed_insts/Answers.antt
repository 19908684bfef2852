use Rattle.ir_syntax.specs.Typed.{TypedInst}
use Rattle.ir_check.specs.Scopes.{types_of}
use Rattle.ir_check.proofs.Loops.{all_stops, all_goes, all_ends}
use Rattle.ir_check.proofs.insts.are_typed_insts.Goals as goal

pub returns-then-not-is_typed_inst : goal.returns-then-not-is_typed_inst
returns-then-not-is_typed_inst c =
    all_stops (TypedInst (types_of c.args.scope.now)) c.args.insts.now c.loop-inst.inst-index c.inst-item.result c.loop-inst-test.true c.inst-item.is (λ typed. absurd (cc (c.is_typed_inst.ensures.1 typed)))

pub loop-inst-preserved : goal.loop-inst-preserved
loop-inst-preserved c =
    all_goes (TypedInst (types_of c.args.scope.now)) c.args.insts.now c.loop-inst.inst-index c.inst-item.result c.loop-inst-test.true c.inst-item.is c.loop-inst.invariant (c.is_typed_inst.ensures.0 c.if-not-is_typed_inst.false)

pub returns : goal.returns
returns c = all_ends (TypedInst (types_of c.args.scope.now)) c.args.insts.now c.loop-inst.inst-index c.loop-inst-test.false c.loop-inst.invariant
