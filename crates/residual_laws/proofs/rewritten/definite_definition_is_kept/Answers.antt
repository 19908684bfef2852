use Rattle.residual_laws.proofs.Same.{definite_kept}
use Rattle.residual_laws.proofs.rewritten.definite_definition_is_kept.Goals as goal

pub returns : goal.returns
returns c = definite_kept
