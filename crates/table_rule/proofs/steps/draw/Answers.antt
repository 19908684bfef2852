use Rattle.std.proofs.Common.{arith}
use Rattle.table_rule.proofs.Allowed.{draw_allowed}
use Rattle.table_rule.proofs.steps.draw.Goals as goal

pub fetch_add-requires : goal.fetch_add-requires
fetch_add-requires c = let w = c.requires.fits.1 in (c.requires.fits.0, omega (arith, w), draw_allowed _ _ _ _ c.requires.free.0 c.requires.free.1)
