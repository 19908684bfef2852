use Rattle.occam_tool.proofs.KnownArguments.{plan_result, text_result, words_result}
use Rattle.occam_tool.proofs.plan.plan_of.Goals as goal

pub returns-in-Ok-clause-plan : goal.returns-in-Ok-clause-plan
returns-in-Ok-clause-plan c =
    plan_result c.args.text.now c.in-Ok.manifest c.single_plan.result c.requires c.in-Ok.ensures.manifest c.in-Ok.ensures.answers_manifest c.single_plan.ensures

pub returns-in-Ok-clause-text : goal.returns-in-Ok-clause-text
returns-in-Ok-clause-text c = text_result c.args.text.now c.in-Ok.manifest c.single_plan.result c.in-Ok.ensures.manifest c.single_plan.ensures

pub returns-in-Ok-clause-words : goal.returns-in-Ok-clause-words
returns-in-Ok-clause-words c = words_result c.in-Ok.manifest c.single_plan.result c.single_plan.ensures
