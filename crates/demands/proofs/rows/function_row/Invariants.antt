use Rattle.std.proofs.Common.{◌≡◌, ◌+◌, ◌∷◌, ◌++◌, take, drop, map, length}
use Rattle.demands.specs.Order.{number_of}
use Rattle.demands.proofs.rows.function_row.Given as goal

abbrev pub invariant-loop-k : goal.invariant-loop-k
invariant-loop-k l = (take (l.k + 2) l.words ++ map number_of (drop l.k l.items) ≡ l.place ∷ l.bits ∷ map number_of l.items) × (length l.words ≡ 34)
