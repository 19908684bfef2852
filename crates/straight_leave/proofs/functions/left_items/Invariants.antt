use Rattle.std.proofs.Common.{◌≡◌, ◌++◌, drop}
use Rattle.straight_leave.specs.Places.{place_in}
use Rattle.straight_leave.specs.Rewritten.{new_items}
use Rattle.straight_leave.proofs.functions.left_items.Given as goal

abbrev pub invariant-loop-cut : goal.invariant-loop-cut
invariant-loop-cut l = l.left ++ new_items l.items (place_in l.rows.keys) l.start (drop l.cut-index l.plan) ≡ new_items l.items (place_in l.rows.keys) l.start l.plan
