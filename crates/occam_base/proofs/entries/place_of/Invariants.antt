use Rattle.occam_base.proofs.Places.{Reaches}
use Rattle.occam_base.proofs.entries.place_of.Given as goal

abbrev pub invariant-loop-at : goal.invariant-loop-at
invariant-loop-at l = Reaches l.name l.files l.at
