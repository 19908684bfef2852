use Rattle.demand_play.proofs.NeededRows.{settled_all}
use Rattle.demand_play.proofs.laws.settled_rows_are_all_needed.Goals as goal

pub returns : goal.returns
returns c = settled_all
