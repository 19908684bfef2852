use Rattle.std.proofs.Common.{arith, ◌+◌, ◌*◌, ◌≡◌, ℕ, ap, ◌∙◌}
use Rattle.table_rule.specs.Layout.{word_of}
use Rattle.table_rule.specs.Views.{knows}
use Rattle.table_rule.proofs.Allowed.{read_claim_allowed}
use Rattle.table_rule.proofs.steps.read_claim.Goals as goal

pub load-requires : goal.load-requires
load-requires c = let w = c.requires.fits.1 in let r = c.requires.row.0 in (c.requires.fits.0, omega (arith, w, r), read_claim_allowed _ _ _ c.args.row c.requires.row.1.0 _ _ c.requires.row.1.1 (omega arith))

pub returns-clause-found : goal.returns-clause-found
returns-clause-found c =
    let place : 37 * c.args.row + 131109 ≡ word_of c.args.row 36 = omega arith in
    let told = c.load.ensures.2.1 in
    (told.0 ∙ ap (λ (q : ℕ). knows c.args.seat.now.me.0 q c.load.result) place, λ x k e h. told.1 x k (place ∙ e) h)
