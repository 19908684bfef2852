use Rattle.residual_laws.proofs.Used.{names_no_more}
use Rattle.residual_laws.proofs.laws.residual_bodies_name_no_more.Goals as goal

pub returns : goal.returns
returns c = names_no_more
