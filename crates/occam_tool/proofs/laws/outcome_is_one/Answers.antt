use Rattle.occam_tool.proofs.OneOutcome.{OneLaws, one_outcome}
use Rattle.occam_tool.proofs.laws.outcome_is_one.Goals as goal

laws : goal.After-limits_are_apart → OneLaws
laws c = record {
  one_module = c.the_form_is_straight.ensures.one;
  one_manifest = c.text_has_one_answer.ensures.one_manifest;
  one_plan = c.plans_are_one.ensures;
  not_many = c.limits_are_apart.ensures.not_many;
  not_much = c.limits_are_apart.ensures.not_much;
  not_both = c.limits_are_apart.ensures.not_both;
  one_loaded = c.files_give_one_answer.ensures.modules;
  one_refusal = c.files_give_one_answer.ensures.refusal;
  not_refused = c.files_give_one_answer.ensures.apart;
}

pub returns-clause-status : goal.returns-clause-status
returns-clause-status c = λ words files source s t o p k l other x y. (one_outcome (laws c) words files source s t o p k l other x y).0

pub returns-clause-outputs : goal.returns-clause-outputs
returns-clause-outputs c = λ words files source s t o p k l other x y. (one_outcome (laws c) words files source s t o p k l other x y).1

pub returns-clause-printed : goal.returns-clause-printed
returns-clause-printed c = λ words files source s t o p k l other x y. (one_outcome (laws c) words files source s t o p k l other x y).2
