use Rattle.demand_play.proofs.Histories.{entries_needed}
use Rattle.demand_play.proofs.laws.entries_are_needed.Goals as goal

pub returns : goal.returns
returns c = entries_needed
