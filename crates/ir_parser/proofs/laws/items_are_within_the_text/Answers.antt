use Rattle.ir_parser.proofs.Within.{items-within}
use Rattle.ir_parser.proofs.laws.items_are_within_the_text.Goals as goal

pub returns : goal.returns
returns c = items-within c.entity_takes_one.ensures
