-- the blocks so far, and then what is left of the others, and how many results are before and behind
use Rattle.std.proofs.Common.{◌≡◌, ◌+◌, ◌++◌, drop, length}
use Rattle.fold_facts.specs.OfFunction.{results_in}
use Rattle.specialise.specs.Residual.{left_blocks}
use Rattle.specialise.specs.Mirrors.Shown.{shown}
use Rattle.specialise.proofs.blocks.left_blocks.Given as goal

abbrev pub invariant-loop-place : goal.invariant-loop-place
invariant-loop-place l =
    (l.made ++ left_blocks (shown l.left) l.place l.first (drop l.place l.blocks) ≡ left_blocks (shown l.left) 0 0 l.blocks) × (l.first + length (results_in (drop l.place l.blocks)) ≡ length (results_in l.blocks))
