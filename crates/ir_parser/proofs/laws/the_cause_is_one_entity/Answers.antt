use Rattle.ir_parser.proofs.OneModule.{one-place}
use Rattle.ir_parser.proofs.laws.the_cause_is_one_entity.Goals as goal

pub returns-clause-one : goal.returns-clause-one
returns-clause-one c = one-place c.tokens_are_one.ensures c.one_derivation.ensures c.entity_takes_one.ensures

pub returns-clause-no_bad_byte : goal.returns-clause-no_bad_byte
returns-clause-no_bad_byte c = λ text entity at no bad. c.tokens_or_bad_byte.ensures.never_both text no.tokens at no.tile bad
