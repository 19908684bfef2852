use Rattle.occam_base.proofs.Places.{Separates}
use Rattle.occam_base.proofs.entries.has_distinct_names.Given as goal

abbrev pub invariant-loop-at : goal.invariant-loop-at
invariant-loop-at l = Separates l.files l.at
