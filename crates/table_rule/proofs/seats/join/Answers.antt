use Rattle.std.proofs.Common.{arith}
use Rattle.table_rule.proofs.Seating.{joins}
use Rattle.table_rule.proofs.seats.join.Goals as goal

pub join_seat-requires : goal.join_seat-requires
join_seat-requires c = let w = c.requires.fits.1 in (c.requires.fits.0, c.requires.other_fits.0, c.requires.live.2, omega (arith, w), joins _ _ _ _ _ c.requires.live.0 c.requires.live.1)
