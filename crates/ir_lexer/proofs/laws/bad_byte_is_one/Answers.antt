use Rattle.ir_lexer.proofs.Tilings.{bad_once}
use Rattle.ir_lexer.proofs.laws.bad_byte_is_one.Goals as goal

pub returns : goal.returns
returns c = bad_once
