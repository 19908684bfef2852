use Rattle.linking_again.proofs.Sound.{modules_formed}
use Rattle.linking_again.proofs.laws.winnowed_modules_are_formed.Goals as goal

pub returns : goal.returns
returns c = modules_formed
