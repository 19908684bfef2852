-- the rows found so far, and the pieces of the expanded ones
use Rattle.std.proofs.Common.{◌≤◌, ◌-◌, ◌+◌}
use Rattle.fixed_point.specs.declared.TheConstants.{MOST_CODE, MOST_DEMANDS}
use Rattle.fixed_point.proofs.Searched.{IsSearched, IsWeighed}
use Rattle.fixed_point.proofs.demands.least.Given as goal

abbrev pub invariant-loop-at : goal.invariant-loop-at
invariant-loop-at g l = record {
  searched : IsSearched (g.E.Expand.needs_of l.e) l.roots l.found.keys l.at;
  turns : l.at ≤ MOST_DEMANDS;
  weighed : IsWeighed (g.E.Expand.expands l.e) (g.E.Expand.size_of l.e) MOST_CODE l.found.keys l.at l.kept.pairs.items l.kept.size;
}

abbrev pub decreases-loop-at : goal.decreases-loop-at
decreases-loop-at g l = MOST_DEMANDS + 1 - l.at
