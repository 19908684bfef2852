use Rattle.std.proofs.Common.{take, map, subst}
use Rattle.demand_play.specs.Legal.{IsLegal}
use Rattle.demand_play.proofs.Holding.{as_long}
use Rattle.demand_play.proofs.Legality.{legal_none}
use Rattle.demand_play.proofs.Places.{take_past}
use Rattle.demand_play.proofs.Playing.{goes_on, stops_at}
use Rattle.demand_play.proofs.machine.apply_all.Goals as goal

pub loop-at-init : goal.loop-at-init
loop-at-init g c = record {
  legal = legal_none (g.E.Expand.needs_of c.args.e.now) c.args.roots.now.keys;
  held = c.new-table.ensures (g.E.Expand.needs_of c.args.e.now);
}

pub apply-requires-after_bounds : goal.apply-requires-after_bounds
apply-requires-after_bounds g c κs within = as_long (g.E.Expand.needs_of c.args.e.now) (take c.loop-at.at c.args.events.now) _ _ _ c.loop-at.invariant.held

pub returns-then-not-legal-clause-illegal : goal.returns-then-not-legal-clause-illegal
returns-then-not-legal-clause-illegal g c =
    stops_at (g.E.Expand.needs_of c.args.e.now) c.args.roots.now.keys c.args.events.now c.loop-at.at c.index-events-at.result
    c.apply.new.self.core c.apply.new.self.found.keys (map (λ rows. rows.keys) c.apply.new.self.needed)
    c.loop-at-test.true c.index-events-at.is c.loop-at.invariant.legal c.in_ok-legal.legal
    (c.in_ok-legal.ensures (take c.loop-at.at c.args.events.now) c.loop-at.invariant.legal c.loop-at.invariant.held) c.if-not-legal.true

pub loop-at-preserved : goal.loop-at-preserved
loop-at-preserved g c =
    let next = goes_on (g.E.Expand.needs_of c.args.e.now) c.args.roots.now.keys c.args.events.now c.loop-at.at c.index-events-at.result
    c.apply.new.self.core c.apply.new.self.found.keys (map (λ rows. rows.keys) c.apply.new.self.needed)
    c.loop-at-test.true c.index-events-at.is c.loop-at.invariant.legal c.in_ok-legal.legal
    (c.in_ok-legal.ensures (take c.loop-at.at c.args.events.now) c.loop-at.invariant.legal c.loop-at.invariant.held) c.if-not-legal.false in
    record { legal = next.0; held = next.1 }

pub returns-clause-legal : goal.returns-clause-legal
returns-clause-legal g c =
    subst (IsLegal (g.E.Expand.needs_of c.args.e.now) c.args.roots.now.keys) (take_past c.args.events.now c.loop-at.at c.loop-at-test.false) c.loop-at.invariant.legal
