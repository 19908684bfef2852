-- so many lists, in which nothing is
use Rattle.std.proofs.Common.{[]}
use Rattle.reach_prune.specs.Mirrors.Split.{AreSplit}
use Rattle.reach_prune.proofs.assembling.empty_lists.Given as goal

abbrev pub invariant-loop-k : goal.invariant-loop-k
invariant-loop-k l = AreSplit l._k [] l.lists.items
