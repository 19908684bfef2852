use Rattle.std.proofs.Common.{◌≡◌, length, drop}
use Rattle.table_rule.specs.Layout.{mixed}
use Rattle.demand_table.proofs.home.home_of.Given as goal

abbrev pub invariant-loop-word : goal.invariant-loop-word
invariant-loop-word l = mixed l.mixed (drop l.word-index l.words) ≡ mixed (length l.words) l.words
