use Rattle.occam_tool.proofs.Refusals.{plan_large, plan_other}
use Rattle.occam_tool.proofs.plan.read_plan.Goals as goal

pub returns-in-Err-TooLarge-clause-gives : goal.returns-in-Err-TooLarge-clause-gives
returns-in-Err-TooLarge-clause-gives g c =
    plan_large (g.S.Shelf.files c.args.shelf.now) c.args.manifest.now c.as_text.result.now c.as_slice-name.result.now c.in-Err-TooLarge.field-0 c.not_of_form.result
    c.as_text.ensures c.as_slice-name.ensures c.in-Err-TooLarge.field-0-is c.in-Err-TooLarge.ensures.gives c.not_of_form.ensures

pub returns-in-Ok-None-clause-gives : goal.returns-in-Ok-None-clause-gives
returns-in-Ok-None-clause-gives g c =
    plan_other (g.S.Shelf.files c.args.shelf.now) c.args.manifest.now c.as_text.result.now c.as_slice-name.result.now c.in-Ok.text c.as_slice.result.now c.in-Ok-None.field-0 c.not_of_form-in-Ok-None.result
    c.as_text.ensures c.as_slice-name.ensures c.as_slice.ensures c.in-Ok-None.field-0-is c.in-Ok.ensures.gives c.in-Ok-None.ensures.plan c.not_of_form-in-Ok-None.ensures
