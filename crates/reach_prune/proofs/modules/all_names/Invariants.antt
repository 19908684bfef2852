-- the names so far, and then those that are left
use Rattle.std.proofs.Common.{◌≡◌, ◌++◌, drop, map}
use Rattle.reach_prune.proofs.modules.all_names.Given as goal

abbrev pub invariant-loop-entry : goal.invariant-loop-entry
invariant-loop-entry l = l.names ++ map (λ entry. entry.named) (drop l.entry-index l.declared) ≡ l.fn.names ++ map (λ entry. entry.named) l.declared
