use Rattle.residual_laws.proofs.Typed.{left_typed}
use Rattle.residual_laws.proofs.laws.residual_bodies_are_typed.Goals as goal

pub returns : goal.returns
returns c = left_typed
