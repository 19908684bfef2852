-- so many addresses may be open
use Rattle.std.proofs.Common.{◌*◌, ◌+◌}
use Rattle.ir_constants.proofs.addresses.+address.Given as goal

abbrev pub decreases-address : goal.decreases-address
decreases-address l = 2 * l.depth

abbrev pub decreases-base : goal.decreases-base
decreases-base l = 2 * l.depth + 1
