use Rattle.int_ops.proofs.OfType.{cast_law, cast_value_law}
use Rattle.int_ops.proofs.laws.casts_are_of_their_type.Goals as goal

pub returns : goal.returns
returns c = record { numbers = cast_law; values = cast_value_law }
