use Rattle.std.proofs.Common.{◌≡◌, ◌∙◌, ◌+◌, ap, sym, map, is_some, arith}
use Rattle.ir_syntax.specs.Results.{result_type}
use Rattle.ir_syntax.specs.FormedBody.{item_name}
use Rattle.ir_writer.proofs.LineTexts.{result_count, inst_step, count_step}
use Rattle.ir_writer.proofs.blocks.write_insts.Goals as goal
use Rattle.ir_writer.proofs.blocks.write_insts.Goals.{then-has_result, else-has_result}

pub loop-inst-preserved : goal.loop-inst-preserved
loop-inst-preserved c = record {
  few = elim c.if-has_result.branch [ then-has_result w ↦ omega arith | else-has_result w ↦ omega arith ];
  number = omega (arith, grown, count_step c.args.insts.now c.loop-inst.inst-index c.inst-item.result c.loop-inst-test.true c.inst-item.is);
  text = inst_step (map item_name c.args.items.now) c.args.insts.now c.loop-inst.inst-index c.loop-inst.number c.if-has_result.number c.inst-item.result _ _ _ c.loop-inst-test.true c.inst-item.is grown c.in_ok-write_inst_line.ensures c.loop-inst.invariant.text;
}
  where
    grown : c.if-has_result.number ≡ c.loop-inst.number + result_count (is_some (result_type c.inst-item.result))
    grown = elim c.if-has_result.branch [
      | then-has_result w ↦ w.number-is ∙ ap (λ b. c.loop-inst.number + result_count b) (sym w.if-has_result.true ∙ c.has_result.ensures)
      | else-has_result w ↦ let e = ap (λ b. c.loop-inst.number + result_count b) (sym w.if-has_result.false ∙ c.has_result.ensures) in omega (arith, e)
    ]
