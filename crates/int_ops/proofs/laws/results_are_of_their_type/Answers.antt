use Rattle.int_ops.proofs.OfType.{bin_law, values_law}
use Rattle.int_ops.proofs.laws.results_are_of_their_type.Goals as goal

pub returns : goal.returns
returns c = record { numbers = bin_law; values = values_law }
