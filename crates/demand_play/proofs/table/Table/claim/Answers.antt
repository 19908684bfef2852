use Rattle.demand_play.proofs.Sets.{keeps_needs}
use Rattle.demand_play.proofs.table.Table.claim.Goals as goal

pub returns-clause-needed : goal.returns-clause-needed
returns-clause-needed g c row =
    keeps_needs (λ rows. rows.keys) (g.E.Expand.needs_of c.args.e.now) c.args.self.now.needed c.set.new.self c.in_ok-rows.rows c.args.self.now.core.rows c.as_slice.result.now c.args.ticket
    c.index-as_slice-ticket.result row c.index-as_slice-ticket.is c.as_slice.ensures c.set.ensures c.in_ok-rows.ensures
