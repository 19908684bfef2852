use Rattle.std.proofs.Common.{◌≡◌, ◌++◌, drop}
use Rattle.straight_leave.specs.Places.{rows_of}
use Rattle.straight_leave.proofs.places.rows_of.Given as goal

abbrev pub invariant-loop-cut : goal.invariant-loop-cut
invariant-loop-cut l = l.rows.keys ++ rows_of (drop l.cut-index l.plan) ≡ rows_of l.plan
