use Rattle.ir_body.proofs.FormingBodies.{body-read}
use Rattle.ir_body.proofs.laws.body_is_formed.Goals as goal

pub returns : goal.returns
returns c = λ env items params kept body same distinct is. body-read env items same distinct params kept body is
