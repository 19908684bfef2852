use Rattle.demand_table.proofs.Booking.{booked_root, later_two, booked_child}
use Rattle.demand_table.proofs.Shown.{limit_low}
use Rattle.demand_table.proofs.Seeking.{slot_later, later_knows}
use Rattle.demand_table.proofs.pass.Pass.booking.Goals as goal

pub returns-in_default-clause-booked : goal.returns-in_default-clause-booked
returns-in_default-clause-booked c = booked_root _ _ _ _ _ _ c.self.view_is c.self.invariant.1 c.args.parent c.in_default.not-Some

pub head-requires-clause-known : goal.head-requires-clause-known
head-requires-clause-known c = slot_later _ _ _ (later_knows _ _ _ _ c.claimer-maker.ensures.read) c.claimer-maker.ensures.known.0

pub returns-clause-later : goal.returns-clause-later
returns-clause-later c = later_two _ _ _ _ _ _ _ c.claimer-maker.ensures.read c.head.ensures.read

pub returns-clause-booked : goal.returns-clause-booked
returns-clause-booked c =
    let w = c.claimer-maker.ensures.worker in
    booked_child _ _ _ _ _ _ _ c.in-Some.ticket c.args.parent c.in-Some.is w.0 c.claimer-maker.ensures.read c.head.ensures.read w.1 w.2 c.claimer-maker.ensures.known.1 c.head.ensures.low

pub returns-in_default-clause-few : goal.returns-in_default-clause-few
returns-in_default-clause-few c = limit_low _ _ _ _ _ _ c.self.view_is c.self.invariant.1
