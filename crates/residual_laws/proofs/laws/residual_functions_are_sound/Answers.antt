use Rattle.residual_laws.proofs.Sound.{left_sound}
use Rattle.residual_laws.proofs.laws.residual_functions_are_sound.Goals as goal

pub returns : goal.returns
returns c = left_sound
