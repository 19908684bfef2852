use Rattle.straight_meaning.proofs.Agreeing.{runs_match}
use Rattle.straight_meaning.proofs.winnowing.runs_match.Goals as goal

pub returns : goal.returns
returns c = runs_match
