use Rattle.ir_parser.proofs.OneModule.{spelled-in-subset}
use Rattle.ir_parser.proofs.laws.a_spelled_text_has_no_cause.Goals as goal

pub returns-clause-no_bad_byte : goal.returns-clause-no_bad_byte
returns-clause-no_bad_byte c = λ text m at spelled bad. c.tokens_or_bad_byte.ensures.never_both text spelled.tokens at spelled.tile bad

pub returns-clause-in_subset : goal.returns-clause-in_subset
returns-clause-in_subset c = spelled-in-subset c.tokens_are_one.ensures c.one_derivation.ensures c.entity_takes_one.ensures
