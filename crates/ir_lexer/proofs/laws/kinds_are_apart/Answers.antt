use Rattle.ir_lexer.proofs.Fronts.{one_kind}
use Rattle.ir_lexer.proofs.laws.kinds_are_apart.Goals as goal

pub returns : goal.returns
returns c = one_kind
