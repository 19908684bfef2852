use Rattle.ir_grammar.proofs.Derivations.{found_is_derived, derived_is_found}
use Rattle.ir_grammar.proofs.laws.walk_takes_what_is_derived.Goals as goal

pub returns-clause-sound : goal.returns-clause-sound
returns-clause-sound c = found_is_derived

pub returns-clause-complete : goal.returns-clause-complete
returns-clause-complete c = derived_is_found
