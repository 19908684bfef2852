use Rattle.std.proofs.Common.{◌≡◌}
use Rattle.demand_table.specs.Passes.{HasLearned}
use Rattle.demand_table.specs.Seeking.{AreRead}
use Rattle.demand_table.proofs.pass.Pass.words_at.Given as goal

abbrev pub invariant-loop-i : goal.invariant-loop-i
invariant-loop-i l = (l.self.table ≡ l.fn.self.table) × HasLearned l.fn.self.seen l.self.seen × AreRead l.i l.self.seen l.place l.words
