use Rattle.known_values.proofs.Running.{runs_as}
use Rattle.known_values.proofs.laws.runs_are_as_read.Goals as goal

pub returns : goal.returns
returns c = runs_as
