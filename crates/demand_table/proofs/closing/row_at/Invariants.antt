use Rattle.std.specs.Slots.{slots_items}
use Rattle.demand_table.specs.Closing.{IsCopied}
use Rattle.demand_table.proofs.closing.row_at.Given as goal

abbrev pub invariant-loop-i : goal.invariant-loop-i
invariant-loop-i l = IsCopied l.i (slots_items l.words.words) l.at l.kept
