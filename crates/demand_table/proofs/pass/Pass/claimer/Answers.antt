use Rattle.std.proofs.Common.{arith}
use Rattle.table_rule.specs.Layout.{word_of}
use Rattle.demand_table.proofs.Tied.{ties_read}
use Rattle.demand_table.proofs.Shown.{again, reads_claim_of, claim_read, claim_worker, claim_known, claim_more, limit_low}
use Rattle.demand_table.proofs.pass.Pass.claimer.Goals as goal

pub read_claim-claim-requires-clause-row : goal.read_claim-claim-requires-clause-row
read_claim-claim-requires-clause-row c = reads_claim_of _ _ _ _ _ _ c.self.view_is c.table.view_is c.requires.belongs c.table.invariant.0 _ _ _ c.self.invariant.1 c.args.place c.requires.claimed

pub overflow_sub-result : goal.overflow_sub-result
overflow_sub-result c = claim_more _ _ _ _ _ _ c.self.view_is c.self.invariant.1 c.args.place c.requires.claimed _ _ c.read_claim-claim.ensures.found

pub invariant_of-self : goal.invariant_of-self
invariant_of-self c =
    let s = c.read_claim-claim.ensures.same in
    again _ _ _ _ _ _ _ _ s.0 s.1 c.self.invariant.0 (ties_read _ _ _ _ _ c.self.invariant.1 _ (word_of c.args.place 36) c.read_claim-claim.result c.read_claim-claim.ensures.found.0 (omega arith))

pub returns-clause-read : goal.returns-clause-read
returns-clause-read c = claim_read _ _ _ _ _ _ c.self.view_is c.self.invariant.1 c.args.place c.requires.claimed _ _ c.read_claim-claim.ensures.found

pub returns-clause-worker : goal.returns-clause-worker
returns-clause-worker c = claim_worker _ _ _ _ _ _ c.self.view_is c.self.invariant.1 c.args.place c.requires.claimed _ _ c.read_claim-claim.ensures.found

pub returns-clause-known : goal.returns-clause-known
returns-clause-known c = claim_known _ _ _ _ _ _ c.self.view_is c.self.invariant.1 c.args.place c.requires.claimed _ _ c.read_claim-claim.ensures.found

pub returns-clause-few : goal.returns-clause-few
returns-clause-few c = limit_low _ _ _ _ _ _ c.self.view_is c.self.invariant.1
