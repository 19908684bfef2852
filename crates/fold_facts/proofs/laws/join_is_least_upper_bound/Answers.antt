use Rattle.fold_facts.proofs.Orders.{join_left, join_right, join_least}
use Rattle.fold_facts.proofs.laws.join_is_least_upper_bound.Goals as goal

pub returns : goal.returns
returns c = record { left = join_left; right = join_right; least = join_least }
