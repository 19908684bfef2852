use Rattle.fold_facts.proofs.Orders.{below_refl, below_trans, below_antisym}
use Rattle.fold_facts.proofs.laws.order_is_partial.Goals as goal

pub returns : goal.returns
returns c = record { reflexive = below_refl; transitive = below_trans; antisymmetric = below_antisym }
