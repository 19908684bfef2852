use Rattle.std.proofs.Common.{arith}
use Rattle.table_rule.proofs.Allowed.{look_allowed}
use Rattle.table_rule.proofs.steps.look.Goals as goal

pub load-requires : goal.load-requires
load-requires c = let w = c.requires.fits.1 in let lt = c.requires.slot in (c.requires.fits.0, omega (arith, w, lt), look_allowed _ _ _ _ _ c.requires.live (omega arith) (omega (arith, lt)))
