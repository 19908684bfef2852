use Rattle.std.proofs.Common.{arith, ap}
use Rattle.demand_table.specs.Passes.{PassView}
use Rattle.demand_table.proofs.Booking.{on_false, drawn_full, drawn_ready}
use Rattle.demand_table.proofs.pass.Pass.row_at_hand.Goals as goal

pub returns-then-held-len-clause-full : goal.returns-then-held-len-clause-full
returns-then-held-len-clause-full c =
    let e = c.len.ensures in
    let ok = c.self.inside.found.ok.0 in
    let wide = c.self.invariant.1.finds.wide in
    let shows = ap (λ (z : PassView). z.seen.limit) c.self.view_is in
    drawn_full _ _ c.draw_row-held.result.number c.len.result (on_false _ _ _ c.holds_number.ensures c.if-holds_number.false) c.draw_row-held.ensures.drawn (omega (arith, e, ok, wide, shows)) c.if-held-len.true

pub returns-clause-ready : goal.returns-clause-ready
returns-clause-ready c =
    let e = c.len.ensures in
    let ok = c.self.inside.found.ok.0 in
    let wide = c.self.invariant.1.finds.wide in
    let shows = ap (λ (z : PassView). z.seen.limit) c.self.view_is in
    drawn_ready _ _ c.draw_row-held.result.number c.len.result c.draw_row-held.result.worker c.draw_row-held.ensures.drawn c.draw_row-held.ensures.worker (omega (arith, e, ok, wide, shows)) c.if-held-len.false
