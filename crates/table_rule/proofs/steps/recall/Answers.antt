use Rattle.std.proofs.Common.{arith}
use Rattle.table_rule.proofs.Allowed.{recall_allowed}
use Rattle.table_rule.proofs.steps.recall.Goals as goal

pub load-requires : goal.load-requires
load-requires c = let w = c.requires.fits.1 in (c.requires.fits.0, omega (arith, w), recall_allowed _ _ _ _ c.requires.live)
