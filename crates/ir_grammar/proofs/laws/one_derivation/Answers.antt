use Rattle.ir_grammar.proofs.Derivations.{one_way}
use Rattle.ir_grammar.proofs.laws.one_derivation.Goals as goal

pub returns : goal.returns
returns c = one_way
