use Rattle.residual_laws.proofs.Used.{params_open}
use Rattle.residual_laws.proofs.laws.known_parameters_are_gone.Goals as goal

pub returns : goal.returns
returns c = params_open
