use Rattle.linker.proofs.Refusing.{refusal_is_one}
use Rattle.linker.proofs.laws.a_refusal_is_one.Goals as goal

pub returns : goal.returns
returns c = refusal_is_one
