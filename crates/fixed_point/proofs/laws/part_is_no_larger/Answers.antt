use Rattle.fixed_point.proofs.Inside.{length-inside, sum_by-inside}
use Rattle.fixed_point.proofs.laws.part_is_no_larger.Goals as goal

pub returns-clause-length : goal.returns-clause-length
returns-clause-length g c = length-inside

pub returns-clause-sizes : goal.returns-clause-sizes
returns-clause-sizes g c = sum_by-inside
