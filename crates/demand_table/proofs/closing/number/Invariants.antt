use Rattle.demand_table.specs.Closing.{AreNumberedTo}
use Rattle.demand_table.proofs.closing.number.Given as goal

abbrev pub invariant-loop-ticket : goal.invariant-loop-ticket
invariant-loop-ticket l = AreNumberedTo l.ticket l.found l.tickets.items l.places.items
