use Rattle.ir_lexer.proofs.Tilings.{some_answer, tokens_or_bad}
use Rattle.ir_lexer.proofs.laws.tokens_or_bad_byte.Goals as goal

pub returns-clause-one : goal.returns-clause-one
returns-clause-one c = some_answer

pub returns-clause-never_both : goal.returns-clause-never_both
returns-clause-never_both c = tokens_or_bad
