-- the functions so far, with those of what is left
use Rattle.std.proofs.Common.{◌≡◌, ◌++◌, length, reverse}
use Rattle.std.specs.List.{filter_map}
use Rattle.straight_fold.proofs.cuts.functions_of.Given as goal

abbrev pub invariant-loop-piece : goal.invariant-loop-piece
invariant-loop-piece l = l.found.items ++ filter_map (λ pair. pair.1.found) (reverse l.pairs) ≡ filter_map (λ pair. pair.1.found) (reverse l.initial.pairs)

abbrev pub decreases-loop-piece : goal.decreases-loop-piece
decreases-loop-piece l = length l.pairs
