use Rattle.std.proofs.lemmas.Option.{slice_get_within}
use Rattle.std.specs.Prelude.{None}
use Rattle.demand_play.proofs.Holding.{applies_insert, applies_claim, refuses_insert, refuses_claim}
use Rattle.demand_play.proofs.table.Table.apply.Goals as goal

pub returns-then-not-may_insert : goal.returns-then-not-may_insert
returns-then-not-may_insert g c before legal held =
    refuses_insert (g.E.Expand.needs_of c.args.e.now) before _ _ _ held c.args.roots.now.keys legal c.args.event.now c.in-Insert.worker c.in-Insert.row c.in-Insert.parent c.may_insert.result
    c.in-Insert.is (c.may_insert.ensures (g.E.Expand.needs_of c.args.e.now) before held) c.if-not-may_insert.true

pub returns-then-not-is_unclaimed : goal.returns-then-not-is_unclaimed
returns-then-not-is_unclaimed g c before legal held =
    refuses_claim (g.E.Expand.needs_of c.args.e.now) before _ _ _ held c.args.roots.now.keys legal c.args.event.now c.in-Claim.worker c.in-Claim.ticket c.is_unclaimed.result
    c.in-Claim.is c.is_unclaimed.ensures c.if-not-is_unclaimed.true

pub claim-requires-clause-there : goal.claim-requires-clause-there
claim-requires-clause-there g c κs within =
    slice_get_within c.args.self.now.core.claims c.in-Claim.ticket None (c.is_unclaimed.ensures.0 c.if-not-is_unclaimed.false)

pub returns-in_ok-insert-in-Insert : goal.returns-in_ok-insert-in-Insert
returns-in_ok-insert-in-Insert g c before legal held =
    applies_insert (g.E.Expand.needs_of c.args.e.now) before _ _ _ held c.args.roots.now.keys legal c.args.event.now c.in-Insert.worker c.in-Insert.row c.in-Insert.parent c.may_insert.result
    _ _ _ c.in-Insert.is (c.may_insert.ensures (g.E.Expand.needs_of c.args.e.now) before held) c.if-not-may_insert.false
    c.in_ok-insert-in-Insert.ensures.rows c.in_ok-insert-in-Insert.ensures.makers c.in_ok-insert-in-Insert.ensures.parents c.in_ok-insert-in-Insert.ensures.claims
    c.in_ok-insert-in-Insert.ensures.found c.in_ok-insert-in-Insert.ensures.needed

pub returns-in_ok-claim-in-Claim : goal.returns-in_ok-claim-in-Claim
returns-in_ok-claim-in-Claim g c before legal held =
    applies_claim (g.E.Expand.needs_of c.args.e.now) before _ _ _ held c.args.roots.now.keys legal c.args.event.now c.in-Claim.worker c.in-Claim.ticket c.is_unclaimed.result
    _ _ _ c.in-Claim.is c.is_unclaimed.ensures c.if-not-is_unclaimed.false
    c.in_ok-claim-in-Claim.ensures.rows c.in_ok-claim-in-Claim.ensures.makers c.in_ok-claim-in-Claim.ensures.parents c.in_ok-claim-in-Claim.ensures.claims
    c.in_ok-claim-in-Claim.ensures.found c.in_ok-claim-in-Claim.ensures.needed
