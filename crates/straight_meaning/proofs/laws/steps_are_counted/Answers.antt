use Rattle.straight_meaning.proofs.Counting.{steps_counted}
use Rattle.straight_meaning.proofs.laws.steps_are_counted.Goals as goal

pub returns : goal.returns
returns c = steps_counted
