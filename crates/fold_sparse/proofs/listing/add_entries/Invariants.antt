use Rattle.std.proofs.Common.{◌≡◌, ◌++◌, drop}
use Rattle.fold_sparse.specs.Looks.{entry_looks}
use Rattle.fold_sparse.proofs.listing.add_entries.Given as goal

abbrev pub invariant-loop-entry : goal.invariant-loop-entry
invariant-loop-entry l = l.looks ++ entry_looks l.at l.phi l.entry l.number (drop l.entry l.entries) ≡ l.fn.looks ++ entry_looks l.at l.phi 0 l.number l.entries
