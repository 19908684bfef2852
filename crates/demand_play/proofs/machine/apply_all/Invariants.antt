-- the events so far are legal, and the table holds what they make
use Rattle.std.proofs.Common.{take, map}
use Rattle.demand_play.specs.Legal.{IsLegal}
use Rattle.demand_play.specs.Mirrors.Held.{HoldsEvents}
use Rattle.demand_play.proofs.machine.apply_all.Given as goal

abbrev pub invariant-loop-at : goal.invariant-loop-at
invariant-loop-at g l = record {
  legal : IsLegal (g.E.Expand.needs_of l.e) l.roots.keys (take l.at l.events);
  held : HoldsEvents (g.E.Expand.needs_of l.e) (take l.at l.events) l.table.core l.table.found.keys (map (λ rows. rows.keys) l.table.needed);
}
