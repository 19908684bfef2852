use Rattle.ir_grammar.specs.declared.grammar.Name.TheVariants as the
use Rattle.ir_grammar.proofs.Derivations.{takes_some}
use Rattle.ir_grammar.proofs.laws.entity_takes_one.Goals as goal

pub returns : goal.returns
returns c = takes_some the.Entity
