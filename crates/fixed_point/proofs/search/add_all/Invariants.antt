-- the rows so far were added
use Rattle.std.proofs.Common.{take}
use Rattle.fixed_point.specs.Found.{Adds}
use Rattle.fixed_point.proofs.search.add_all.Given as goal

abbrev pub invariant-loop-row : goal.invariant-loop-row
invariant-loop-row l = Adds l.initial.found.keys (take l.row-index l.rows) l.found.keys
