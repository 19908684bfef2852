use Rattle.residual_laws.proofs.Formed.{left_formed}
use Rattle.residual_laws.proofs.laws.residual_bodies_are_formed.Goals as goal

pub returns : goal.returns
returns c = left_formed
