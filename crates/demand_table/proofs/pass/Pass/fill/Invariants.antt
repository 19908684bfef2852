use Rattle.std.proofs.Common.{◌≡◌}
use Rattle.demand_table.specs.Seeking.{Fills}
use Rattle.demand_table.proofs.pass.Pass.fill.Given as goal

abbrev pub invariant-loop-i : goal.invariant-loop-i
invariant-loop-i l = (l.self.table ≡ l.fn.self.table) × Fills l.i l.fn.self.seen l.self.seen l.held.worker l.held.number l.head l.origin l.words
