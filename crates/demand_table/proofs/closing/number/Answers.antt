use Rattle.std.proofs.Common.{arith}
use Rattle.demand_table.proofs.Counting.{number_skip, number_push, number_all}
use Rattle.demand_table.proofs.closing.number.Goals as goal

pub loop-ticket-preserved-then-found-ticket-eq0 : goal.loop-ticket-preserved-then-found-ticket-eq0
loop-ticket-preserved-then-found-ticket-eq0 c = number_skip c.loop-ticket.ticket c.args.found.now c.loop-ticket.tickets.items c.loop-ticket.places.items c.loop-ticket.invariant c.if-found-ticket-eq0.true

pub loop-ticket-preserved : goal.loop-ticket-preserved
loop-ticket-preserved c =
    let ok = c.push.new.self.ok in
    let e = c.len.ensures in
    number_push c.loop-ticket.ticket c.args.found.now c.loop-ticket.tickets.items c.loop-ticket.places.items c.push.new.self.items c.len.result c.loop-ticket.invariant c.loop-ticket-test.true c.if-found-ticket-eq0.false c.in_ok-push.ensures.items (omega (arith, ok, e))

pub returns : goal.returns
returns c = number_all c.loop-ticket.ticket c.args.found.now c.loop-ticket.tickets.items c.loop-ticket.places.items c.loop-ticket.invariant c.loop-ticket-test.false
