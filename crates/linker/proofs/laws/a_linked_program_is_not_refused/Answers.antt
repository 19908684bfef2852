use Rattle.linker.proofs.Refusing.{linked_is_not_refused}
use Rattle.linker.proofs.laws.a_linked_program_is_not_refused.Goals as goal

pub returns : goal.returns
returns c = linked_is_not_refused
