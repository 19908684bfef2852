use Rattle.std.proofs.Common.{◌≡◌, ◌%◌, ℕ, length}
use Rattle.table_rule.specs.Layout.{Has, word_of}
use Rattle.demand_table.specs.Passes.{HasLearned}
use Rattle.demand_table.specs.Seeking.{AreSame}
use Rattle.demand_table.proofs.pass.Pass.has_words.Given as goal

abbrev pub invariant-loop-i : goal.invariant-loop-i
invariant-loop-i l = (l.self.table ≡ l.fn.self.table) × HasLearned l.fn.self.seen l.self.seen × AreSame l.i l.self.seen l.place l.words
    × ((h : ℕ) × Has l.self.seen.known (word_of l.place 0, h) × (h % 64 ≡ length l.words))
