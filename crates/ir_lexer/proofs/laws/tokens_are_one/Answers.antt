use Rattle.ir_lexer.proofs.Tilings.{tokens_once}
use Rattle.ir_lexer.proofs.laws.tokens_are_one.Goals as goal

pub returns : goal.returns
returns c = tokens_once
