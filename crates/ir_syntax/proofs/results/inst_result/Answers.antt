use Rattle.std.proofs.Common.{◌<◌, ◌∙◌, ap, arith, length}
use Rattle.ir_types.specs.declared.scalar.Scalar.{Scalar}
use Rattle.ir_syntax.proofs.ResultLemmas.{types_some, types_none, next_some, next_none}
use Rattle.ir_syntax.proofs.results.inst_result.Goals as goal
use Rattle.ir_syntax.proofs.results.inst_result.Goals.{in-Some+else-left-eq0, in-None}

pub loop-inst-preserved : goal.loop-inst-preserved
loop-inst-preserved c =
    elim c.match-result_type.branch [
      | in-Some+else-left-eq0 w ↦
          let here = types_some c.args.insts.now c.loop-inst.inst-index c.inst-item.result w.in-Some.ty c.loop-inst-test.true c.inst-item.is w.in-Some.ensures in
          let above : 0 < c.loop-inst.left = omega (arith, w.if-left-eq0.false) in
          record {
            found = next_some _ _ _ _ _ here w.left-is above ∙ c.loop-inst.invariant.found;
            count = omega (arith, ap (length {A = Scalar}) here, above, w.left-is, c.loop-inst.invariant.count);
          }
      | in-None w ↦
          let here = types_none c.args.insts.now c.loop-inst.inst-index c.inst-item.result c.loop-inst-test.true c.inst-item.is w.in-None.ensures in
          record {
            found = next_none _ _ _ _ here w.left-is ∙ c.loop-inst.invariant.found;
            count = omega (arith, ap (length {A = Scalar}) here, w.left-is, c.loop-inst.invariant.count);
          }
    ]
