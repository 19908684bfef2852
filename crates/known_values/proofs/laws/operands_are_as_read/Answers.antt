use Rattle.known_values.proofs.Facts.{operand_suits}
use Rattle.known_values.proofs.laws.operands_are_as_read.Goals as goal

pub returns : goal.returns
returns c = operand_suits
