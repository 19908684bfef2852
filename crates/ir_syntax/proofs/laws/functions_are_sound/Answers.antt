use Rattle.ir_syntax.proofs.SoundLemmas.{sound_function}
use Rattle.ir_syntax.proofs.laws.functions_are_sound.Goals as goal

pub returns : goal.returns
returns c = sound_function
