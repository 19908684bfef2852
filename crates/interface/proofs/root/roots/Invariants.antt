-- the rows so far, and then those of what is left
use Rattle.std.proofs.Common.{◌≡◌, ◌++◌, Some, drop, map}
use Rattle.std.specs.List.{filter_map}
use Rattle.demands.specs.Rows.{words_of}
use Rattle.interface.specs.Asked.{asked_by}
use Rattle.interface.specs.Roots.{by_root, roots}
use Rattle.interface.proofs.root.roots.Given as goal

abbrev pub invariant-loop-symbol : goal.invariant-loop-symbol
invariant-loop-symbol l = l.rows ++ map words_of (filter_map (λ symbol. asked_by (by_root l.p l.cycles) l.p (Some symbol)) (drop l.symbol-index l.symbol-items)) ≡ map words_of (roots l.p l.cycles)
