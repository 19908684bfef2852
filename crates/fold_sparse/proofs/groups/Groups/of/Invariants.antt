use Rattle.fold_sparse.proofs.Grouping.{IsGrouped}
use Rattle.fold_sparse.proofs.groups.Groups.of.Given as goal

abbrev pub invariant-loop-key : goal.invariant-loop-key
invariant-loop-key l = IsGrouped l.lists.items l._key l.pairs 0

abbrev pub invariant-loop-key-2 : goal.invariant-loop-key-2
invariant-loop-key-2 l = IsGrouped l.lists.items l.count l.pairs l.key-index
