use Rattle.std.proofs.Common.{Option, subst}
use Rattle.std.specs.Prelude.{IfNone}
use Rattle.ir_syntax.specs.declared.item.Module.{Module}
use Rattle.straight_form.specs.Form.{IsStraightForm}
use Rattle.occam_tool.proofs.Refusals.{module_large, module_other}
use Rattle.occam_tool.proofs.left.read_module.Goals as goal

pub returns-in-Err-TooLarge-clause-gives : goal.returns-in-Err-TooLarge-clause-gives
returns-in-Err-TooLarge-clause-gives g c =
    module_large (g.S.Shelf.files c.args.shelf.now) c.args.plan.now c.as_text.result.now c.as_slice-name.result.now c.in-Err-TooLarge.field-0 c.not_of_form.result
    c.as_text.ensures c.as_slice-name.ensures c.in-Err-TooLarge.field-0-is c.in-Err-TooLarge.ensures.gives c.not_of_form.ensures

pub returns-in-Ok-None-clause-gives : goal.returns-in-Ok-None-clause-gives
returns-in-Ok-None-clause-gives g c =
    module_other (g.S.Shelf.files c.args.shelf.now) c.args.plan.now c.as_text.result.now c.as_slice-name.result.now c.in-Ok.text c.as_slice.result.now c.as_slice-2.result.now c.len.result c.not_of_form-in-Ok-None.result
    c.as_text.ensures c.as_slice-name.ensures c.as_slice.ensures c.as_slice-2.ensures c.len.ensures c.in-Ok.ensures.gives
    (subst (λ (o : Option Module). IfNone o ((m : Module) → IsStraightForm c.as_slice.result.now c.as_slice-2.result.now c.len.result m → ⊥)) c.in-Ok-None.field-0-is c.in-Ok-None.ensures.none) c.not_of_form-in-Ok-None.ensures
