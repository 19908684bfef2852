use Rattle.ir_parser.proofs.OneModule.{one-module}
use Rattle.ir_parser.proofs.laws.a_text_spells_one_module.Goals as goal

pub returns : goal.returns
returns c = one-module c.tokens_are_one.ensures c.one_derivation.ensures c.entity_takes_one.ensures
