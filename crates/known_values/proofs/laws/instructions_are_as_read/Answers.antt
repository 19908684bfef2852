use Rattle.known_values.proofs.Evaluated.{evaluated_suits}
use Rattle.known_values.proofs.laws.instructions_are_as_read.Goals as goal

pub returns : goal.returns
returns c = evaluated_suits
