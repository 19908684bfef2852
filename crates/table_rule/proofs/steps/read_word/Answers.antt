use Rattle.std.proofs.Common.{arith}
use Rattle.table_rule.proofs.Allowed.{read_allowed}
use Rattle.table_rule.proofs.steps.read_word.Goals as goal

pub load-requires : goal.load-requires
load-requires c = let w = c.requires.fits.1 in let r = c.requires.row.0 in let j = c.requires.word in (c.requires.fits.0, omega (arith, w, r, j), read_allowed _ _ _ c.args.row c.args.word _ _ j c.requires.row.1 (omega arith))
