use Rattle.fixed_point.proofs.Searched.{all_permuted}
use Rattle.fixed_point.proofs.laws.rows_are_needed_in_any_order.Goals as goal

pub returns : goal.returns
returns c = all_permuted
