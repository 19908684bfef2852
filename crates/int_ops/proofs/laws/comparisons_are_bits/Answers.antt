use Rattle.int_ops.proofs.OfType.{icmp_law}
use Rattle.int_ops.proofs.laws.comparisons_are_bits.Goals as goal

pub returns : goal.returns
returns c = icmp_law
