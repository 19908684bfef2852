use Rattle.ir_locals.proofs.Found.{param_within, reg_within, block_within}
use Rattle.ir_locals.proofs.laws.locals_are_within.Goals as goal

pub returns-clause-param : goal.returns-clause-param
returns-clause-param c = param_within

pub returns-clause-reg : goal.returns-clause-reg
returns-clause-reg c = reg_within

pub returns-clause-block : goal.returns-clause-block
returns-clause-block c = block_within
