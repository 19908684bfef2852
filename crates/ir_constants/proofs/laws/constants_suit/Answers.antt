use Rattle.ir_constants.proofs.Suiting.{constant_suits}
use Rattle.ir_constants.proofs.laws.constants_suit.Goals as goal

pub returns : goal.returns
returns c = constant_suits
