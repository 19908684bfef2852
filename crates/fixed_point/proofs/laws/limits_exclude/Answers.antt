use Rattle.fixed_point.proofs.NeededRows.{not_more, not_heavier}
use Rattle.fixed_point.proofs.laws.limits_exclude.Goals as goal

pub returns-clause-rows : goal.returns-clause-rows
returns-clause-rows c = not_more

pub returns-clause-sizes : goal.returns-clause-sizes
returns-clause-sizes c needs size roots = not_heavier needs roots size
