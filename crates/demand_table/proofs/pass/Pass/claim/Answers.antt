use Rattle.std.proofs.Common.{arith}
use Rattle.table_rule.specs.Layout.{word_of}
use Rattle.demand_table.proofs.Tied.{ties_takes, ties_read}
use Rattle.demand_table.proofs.Shown.{again, claims_row}
use Rattle.demand_table.proofs.pass.Pass.claim.Goals as goal

pub claim-found-requires-clause-worker : goal.claim-found-requires-clause-worker
claim-found-requires-clause-worker c = let w = c.self.invariant.1.works in (w.own, w.few c.self.inside.worker w.own)

pub claim-found-requires-clause-row : goal.claim-found-requires-clause-row
claim-found-requires-clause-row c = claims_row _ _ _ _ _ _ c.self.view_is c.table.view_is c.requires.belongs c.table.invariant.0 _ _ _ c.self.invariant.1 c.args.ticket.place _ c.is_known.ensures c.if-not-is_known.false

pub invariant_of-self : goal.invariant_of-self
invariant_of-self c = let s = c.claim-found.ensures.same in
    let r = claims_row _ _ _ _ _ _ c.self.view_is c.table.view_is c.requires.belongs c.table.invariant.0 _ _ _ c.self.invariant.1 c.args.ticket.place _ c.is_known.ensures c.if-not-is_known.false in
    again _ _ _ _ _ _ _ _ s.0 s.1 c.self.invariant.0 (ties_takes _ _ _ _ _ c.self.invariant.1 _ c.args.ticket.place c.self.inside.worker (c.claim-found.ensures.found.0 c.if-found-eq0.true) r.1 c.self.invariant.1.works.own)

pub invariant_of-self-2 : goal.invariant_of-self-2
invariant_of-self-2 c = let s = c.claim-found.ensures.same in
    again _ _ _ _ _ _ _ _ s.0 s.1 c.self.invariant.0 (ties_read _ _ _ _ _ c.self.invariant.1 _ (word_of c.args.ticket.place 36) c.claim-found.result (c.claim-found.ensures.found.1 c.if-found-eq0.false) (omega arith))
