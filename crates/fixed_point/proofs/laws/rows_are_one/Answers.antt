use Rattle.fixed_point.proofs.NeededRows.{rows_same}
use Rattle.fixed_point.proofs.laws.rows_are_one.Goals as goal

pub returns : goal.returns
returns c = rows_same
