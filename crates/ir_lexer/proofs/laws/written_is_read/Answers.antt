use Rattle.ir_lexer.proofs.Written.{written}
use Rattle.ir_lexer.proofs.laws.written_is_read.Goals as goal

pub returns : goal.returns
returns c = written
