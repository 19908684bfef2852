use Rattle.residual_laws.proofs.Definite.{left_definite}
use Rattle.residual_laws.proofs.laws.residual_bodies_are_definite.Goals as goal

pub returns : goal.returns
returns c = left_definite
