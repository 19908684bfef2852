use Rattle.program_loader.proofs.OneAnswer.{deployment_one}
use Rattle.program_loader.proofs.OneRefusal.{program_modules_one, refusal_one, loaded_apart}
use Rattle.program_loader.proofs.laws.files_give_one_answer.Goals as goal

pub returns-clause-manifest : goal.returns-clause-manifest
returns-clause-manifest c = λ files name m n p q a b. deployment_one c.text_has_one_answer.ensures.one files name m n a.deployed b.deployed

pub returns-clause-modules : goal.returns-clause-modules
returns-clause-modules c =
    program_modules_one c.text_has_one_answer.ensures.one c.bad_byte_is_one.ensures c.a_text_spells_one_module.ensures c.a_spelled_text_has_no_cause.ensures.no_bad_byte
    c.a_spelled_text_has_no_cause.ensures.in_subset c.the_cause_is_one_entity.ensures.one c.the_cause_is_one_entity.ensures.no_bad_byte

pub returns-clause-refusal : goal.returns-clause-refusal
returns-clause-refusal c =
    refusal_one c.text_has_one_answer.ensures.one c.bad_byte_is_one.ensures c.a_text_spells_one_module.ensures c.a_spelled_text_has_no_cause.ensures.no_bad_byte
    c.a_spelled_text_has_no_cause.ensures.in_subset c.the_cause_is_one_entity.ensures.one c.the_cause_is_one_entity.ensures.no_bad_byte c.a_refusal_is_one.ensures

pub returns-clause-apart : goal.returns-clause-apart
returns-clause-apart c =
    loaded_apart c.text_has_one_answer.ensures.one c.bad_byte_is_one.ensures c.a_text_spells_one_module.ensures c.a_spelled_text_has_no_cause.ensures.no_bad_byte
    c.a_spelled_text_has_no_cause.ensures.in_subset c.the_cause_is_one_entity.ensures.one c.the_cause_is_one_entity.ensures.no_bad_byte c.a_linked_program_is_not_refused.ensures
