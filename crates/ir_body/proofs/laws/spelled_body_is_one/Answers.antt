use Rattle.ir_body.proofs.One.{one_body}
use Rattle.ir_body.proofs.laws.spelled_body_is_one.Goals as goal

pub returns : goal.returns
returns c = one_body c.one_derivation.ensures
