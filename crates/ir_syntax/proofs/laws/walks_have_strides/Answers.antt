use Rattle.ir_syntax.proofs.IndexLemmas.{walks}
use Rattle.ir_syntax.proofs.laws.walks_have_strides.Goals as goal

pub returns : goal.returns
returns c = walks
