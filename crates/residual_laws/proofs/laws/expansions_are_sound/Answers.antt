use Rattle.residual_laws.proofs.Sound.{piece_sound}
use Rattle.residual_laws.proofs.laws.expansions_are_sound.Goals as goal

pub returns : goal.returns
returns c = piece_sound
