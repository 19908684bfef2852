use Rattle.linking_again.proofs.Sound.{modules_typed}
use Rattle.linking_again.proofs.laws.winnowed_modules_are_typed.Goals as goal

pub returns : goal.returns
returns c = modules_typed
