-- the symbols so far, and then those of what is left that weren't seen
use Rattle.std.proofs.Common.{◌≡◌, ◌++◌, ◌∷◌, drop}
use Rattle.std.specs.Prelude.{not}
use Rattle.std.specs.List.{filter}
use Rattle.interface.specs.Roots.{once}
use Rattle.interface.specs.Mirrors.Seen.{has}
use Rattle.interface.proofs.root.once.Given as goal

abbrev pub invariant-loop-symbol : goal.invariant-loop-symbol
invariant-loop-symbol l = l.symbols ++ filter (λ other. not (has l.seen other)) (once (drop l.symbol-index l.more)) ≡ once (l.fn.first ∷ l.more)
