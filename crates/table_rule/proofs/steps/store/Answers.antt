use Rattle.std.proofs.Common.{arith}
use Rattle.table_rule.proofs.Allowed.{store_allowed}
use Rattle.table_rule.proofs.steps.store.Goals as goal

pub store-requires : goal.store-requires
store-requires c = let w = c.requires.fits.1 in let r = c.requires.row.0 in let k = c.requires.row.1 in let j = c.requires.word in
    (c.requires.fits.0, omega (arith, w, r, j), store_allowed _ _ _ k.0 c.args.row c.args.word _ _ _ r j (k.1, k.2) (omega arith))
