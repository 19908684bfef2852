use Rattle.std.proofs.Common.{◌≡◌, ◌+◌, ◌++◌, drop, length}
use Rattle.fold_facts.specs.OfFunction.{results_in}
use Rattle.fold_sparse.specs.Looks.{looks_from, looks_of}
use Rattle.fold_sparse.proofs.listing.add_blocks.Given as goal

abbrev pub invariant-loop-at : goal.invariant-loop-at
invariant-loop-at l = (l.looks ++ looks_from l.at l.first (drop l.at l.blocks) ≡ looks_of l.blocks) × (l.first + length (results_in (drop l.at l.blocks)) ≡ length (results_in l.blocks))
