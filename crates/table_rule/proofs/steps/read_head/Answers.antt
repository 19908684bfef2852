use Rattle.std.proofs.Common.{arith}
use Rattle.table_rule.proofs.Allowed.{head_allowed}
use Rattle.table_rule.proofs.steps.read_head.Goals as goal

pub load-requires : goal.load-requires
load-requires c = let w = c.requires.fits.1 in let r = c.requires.row.0 in (c.requires.fits.0, omega (arith, w, r), head_allowed _ _ _ c.args.row _ _ c.requires.live c.requires.row.1 (omega arith))
