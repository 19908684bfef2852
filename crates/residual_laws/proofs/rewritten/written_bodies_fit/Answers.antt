use Rattle.residual_laws.proofs.Written.{body_fits}
use Rattle.residual_laws.proofs.rewritten.written_bodies_fit.Goals as goal

pub returns : goal.returns
returns c = body_fits
