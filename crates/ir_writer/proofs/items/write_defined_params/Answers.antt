use Rattle.std.proofs.Common.{◌+◌, get_or, arith}
use Rattle.std.proofs.lemmas.List.{drop_more}
use Rattle.ir_types.specs.declared.scalar.Scalar.TheVariants.{I1}
use Rattle.ir_types.specs.declared.scalar.Ext.TheVariants.{Plain}
use Rattle.ir_syntax.specs.declared.item.Param.{Param}
use Rattle.ir_writer.proofs.ItemTexts.{params_step}
use Rattle.ir_writer.proofs.items.write_defined_params.Goals as goal

pub loop-place-preserved : goal.loop-place-preserved
loop-place-preserved c =
    let other : Param = record { ty = I1; ext = Plain } in
    params_step c.args.params.now c.loop-place.place (c.loop-place.place + 1) (get_or c.args.params.now c.loop-place.place other) _ _ _ _ _ _ (drop_more c.args.params.now c.loop-place.place other c.loop-place-test.true) (omega arith)
    c.in_ok-write_separator.ensures c.in_ok-write_param.ensures c.in_ok-append.ensures.ok c.in_ok-write_local.ensures c.loop-place.invariant
