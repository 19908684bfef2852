-- the rows so far are in the set
use Rattle.std.proofs.Common.{take}
use Rattle.demand_play.specs.Mirrors.Held.{IsSetOf}
use Rattle.demand_play.proofs.table.set_of.Given as goal

abbrev pub invariant-loop-row : goal.invariant-loop-row
invariant-loop-row l = IsSetOf (take l.row-index l.rows) l.found.keys
