-- the items, and then those of the declarations so far
use Rattle.std.proofs.Common.{◌≡◌, ◌++◌, map}
use Rattle.reach_prune.proofs.modules.with_declared.Given as goal

abbrev pub invariant-loop-entry : goal.invariant-loop-entry
invariant-loop-entry l = l.items ≡ l.fn.items ++ map (λ entry. entry.item) l.yielded
