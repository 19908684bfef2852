use Rattle.std.proofs.Common.{arith}
use Rattle.table_rule.proofs.Seating.{splits}
use Rattle.table_rule.proofs.seats.split.Goals as goal

pub split_seat-requires : goal.split_seat-requires
split_seat-requires c = let w = c.requires.fits.1 in (c.requires.fits.0, omega (arith, w), splits _ _ _ c.requires.free.0 c.requires.free.1 c.requires.free.2)
