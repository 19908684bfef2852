use Rattle.std.proofs.Common.{arith, ◌+◌, ◌≤◌, ℕ, subst, sym, refl}
use Rattle.table_rule.proofs.Rows.{probe_high}
use Rattle.table_rule.proofs.Allowed.{publish_allowed}
use Rattle.table_rule.proofs.steps.publish.Goals as goal

pub overflow_add-slot : goal.overflow_add-slot
overflow_add-slot c = let r = c.requires.ready in let h : c.args.slot + 1 ≤ 131072 = subst (λ (z : ℕ). z ≤ 131072) (sym r.8) (probe_high r.2 r.3) in omega (arith, h)

pub compare_exchange-requires : goal.compare_exchange-requires
compare_exchange-requires c = let w = c.requires.fits.1 in let r = c.requires.ready in
    let h : c.args.slot + 1 ≤ 131072 = subst (λ (z : ℕ). z ≤ 131072) (sym r.8) (probe_high r.2 r.3) in
    (c.requires.fits.0, omega (arith, w, h), publish_allowed _ _ _ r.0 c.args.row _ r.3 r.4 r.5 r.1 r.2 _ c.requires.live c.requires.row r.6 r.8 r.9 r.7)

pub returns-clause-found : goal.returns-clause-found
returns-clause-found c k m parent ws words held ready = c.compare_exchange.ensures.2.1 c.args.row k m parent ws words refl held ready
