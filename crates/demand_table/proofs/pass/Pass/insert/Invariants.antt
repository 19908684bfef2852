use Rattle.std.proofs.Common.{◌≡◌}
use Rattle.demand_table.specs.Answers.{place_of}
use Rattle.demand_table.specs.Seeking.{IsSeeking, IsBooked}
use Rattle.demand_table.proofs.pass.Pass.insert.Given as goal

abbrev pub invariant-loop-i : goal.invariant-loop-i
invariant-loop-i l = (l.self.table ≡ l.fn.self.table) × IsSeeking l.fn.self.seen l.self.seen l.words l.i × IsBooked l.self.seen l.booking.maker l.booking.generation (place_of l.booking.parent)
