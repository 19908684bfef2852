use Rattle.std.proofs.Common.{arith, refl}
use Rattle.table_rule.proofs.Allowed.{claim_allowed}
use Rattle.table_rule.proofs.steps.claim.Goals as goal

pub compare_exchange-requires : goal.compare_exchange-requires
compare_exchange-requires c = let w = c.requires.fits.1 in let r = c.requires.row.0 in (c.requires.fits.0, omega (arith, w, r), claim_allowed _ _ _ c.args.row c.args.worker _ _ c.requires.worker.0 c.requires.row.1 (omega arith))

pub returns-clause-found : goal.returns-clause-found
returns-clause-found c = c.compare_exchange.ensures.2.1 c.args.row c.args.worker (omega arith) refl
