use Rattle.known_values.proofs.Stepping.{steps_as}
use Rattle.known_values.proofs.laws.steps_are_as_read.Goals as goal

pub returns : goal.returns
returns c = steps_as
