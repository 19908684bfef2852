use Rattle.std.proofs.Common.{◌≡◌, map, drop}
use Rattle.fold_facts.specs.Facts.{join, join_all}
use Rattle.fold_facts.specs.Phis.{entry_fact, phi_fact}
use Rattle.fold_facts.proofs.phis.phi_fact.Given as goal

-- the join so far, with that of what is left
abbrev pub invariant-loop-entry : goal.invariant-loop-entry
invariant-loop-entry l =
    join l.fact (join_all (map (entry_fact (record { known = l.known }) l.a l.place) (drop l.entry-index l.entry-items)))
    ≡ phi_fact (record { known = l.known }) l.a l.place l.phi
