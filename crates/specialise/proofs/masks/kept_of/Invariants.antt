-- the flags so far, and then those of the blocks that are left, and how many results are before and behind
use Rattle.std.proofs.Common.{◌≡◌, ◌+◌, ◌++◌, drop, length}
use Rattle.fold_facts.specs.OfFunction.{results_in}
use Rattle.specialise.specs.Leaving.{kept_from, kept}
use Rattle.specialise.proofs.masks.kept_of.Given as goal

abbrev pub invariant-loop-place : goal.invariant-loop-place
invariant-loop-place l =
    (l.flags ++ kept_from l.a l.place (drop (length l.flags) l.facts) (drop l.place l.blocks) ≡ kept l.a l.blocks) × (length l.flags + length (results_in (drop l.place l.blocks)) ≡ length (results_in l.blocks))
