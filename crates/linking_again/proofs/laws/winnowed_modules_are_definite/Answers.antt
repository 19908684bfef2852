use Rattle.linking_again.proofs.Definite.{modules_definite}
use Rattle.linking_again.proofs.laws.winnowed_modules_are_definite.Goals as goal

pub returns : goal.returns
returns c = modules_definite
