use Rattle.type_names.proofs.Fitting.{what_stands_fits}
use Rattle.type_names.proofs.laws.type_names_fit.Goals as goal

pub returns : goal.returns
returns c = what_stands_fits
