use Rattle.std.proofs.Common.{drop}
use Rattle.specialise.specs.Mirrors.Shown.{shown}
use Rattle.specialise.proofs.Entering.{EntriesTo}
use Rattle.specialise.proofs.phis.left_entries.Given as goal

abbrev pub invariant-loop-entry : goal.invariant-loop-entry
invariant-loop-entry l = EntriesTo (shown l.left) l.place l.entries (drop l.entry-index l.entries) l.made l.before l.entry-index
