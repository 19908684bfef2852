use Rattle.std.proofs.Common.{◌≡◌, length}
use Rattle.std.specs.Slots.{slots_items}
use Rattle.demand_table.specs.Closing.{AreWritten}
use Rattle.demand_table.proofs.closing.write_entries.Given as goal

abbrev pub invariant-loop-i : goal.invariant-loop-i
invariant-loop-i l = (length l.entries.items ≡ length l.tickets) × AreWritten l.i (slots_items l.words.words) l.places l.tickets l.entries.items
