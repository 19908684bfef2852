-- the names so far, and then those that are left, and each has its declaration
use Rattle.std.proofs.Common.{◌≡◌, ◌++◌, All, drop, map}
use Rattle.reach_prune.specs.Mirrors.Noting.{HasItem}
use Rattle.reach_prune.specs.Mirrors.Shown.{shown}
use Rattle.reach_prune.proofs.declared.declared_of.Given as goal

abbrev pub invariant-loop-named : goal.invariant-loop-named
invariant-loop-named l = (map (λ declared. declared.named) l.made.items ++ drop l.named-index l.names ≡ l.names) × All (HasItem (shown l.g) l.home) l.made.items
