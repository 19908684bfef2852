use Rattle.std.proofs.Common.{rules}
use Rattle.ir_parser.proofs.Exactly.{exactly}
use Rattle.ir_parser.proofs.reading.read_module.Goals as goal

pub returns-in_err-entities-clause-exact : goal.returns-in_err-entities-clause-exact
returns-in_err-entities-clause-exact c = λ read is. exactly (record {
  never_both = c.tokens_or_bad_byte.ensures.never_both;
  one_byte = c.bad_byte_is_one.ensures;
  one_module = c.a_text_spells_one_module.ensures;
  in_subset = c.a_spelled_text_has_no_cause.ensures.in_subset;
  one_entity = c.the_cause_is_one_entity.ensures.one;
}) c.args.bytes.now c.from_residual-in_err-entities.result read (search rules) (search rules) is

pub returns-clause-exact : goal.returns-clause-exact
returns-clause-exact c = λ read is. exactly (record {
  never_both = c.tokens_or_bad_byte.ensures.never_both;
  one_byte = c.bad_byte_is_one.ensures;
  one_module = c.a_text_spells_one_module.ensures;
  in_subset = c.a_spelled_text_has_no_cause.ensures.in_subset;
  one_entity = c.the_cause_is_one_entity.ensures.one;
}) c.args.bytes.now c.module_of.result read (search rules) (search rules) is
