use Rattle.std.proofs.Common.{◌≡◌, ◌++◌, map, drop}
use Rattle.fold_sparse.specs.declared.standing.Standing.TheVariants.{Unopened}
use Rattle.fold_sparse.proofs.search.unopened.Given as goal

abbrev pub invariant-loop-look : goal.invariant-loop-look
invariant-loop-look l = l.standing ++ map (λ look. Unopened) (drop l._look-index l.looks) ≡ map (λ look. Unopened) l.looks
