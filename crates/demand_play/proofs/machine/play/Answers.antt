use Rattle.demand_play.specs.Legal.{IsLegal}
use Rattle.demand_play.proofs.Answering.{on_ok}
use Rattle.demand_play.proofs.Legality.{legal_same, first_same}
use Rattle.demand_play.proofs.machine.play.Goals as goal

pub returns-clause-legal : goal.returns-clause-legal
returns-clause-legal g c =
    on_ok c.apply_all.result (IsLegal (g.E.Expand.needs_of c.args.e.now) c.in_ok-rooted.rooted.keys c.args.events.now) (IsLegal (g.E.Expand.needs_of c.args.e.now) c.args.roots.now c.args.events.now)
    (legal_same (g.E.Expand.needs_of c.args.e.now) c.in_ok-rooted.rooted.keys c.args.roots.now c.in_ok-rooted.ensures.same c.args.events.now)
    c.apply_all.ensures.legal

pub returns-clause-illegal : goal.returns-clause-illegal
returns-clause-illegal g c at is =
    first_same (g.E.Expand.needs_of c.args.e.now) c.in_ok-rooted.rooted.keys c.args.roots.now c.in_ok-rooted.ensures.same c.args.events.now at (c.apply_all.ensures.illegal at is)
