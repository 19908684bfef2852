use Rattle.demands.proofs.Apart.{apart}
use Rattle.demands.proofs.laws.names_are_apart.Goals as goal

pub returns : goal.returns
returns c = apart
