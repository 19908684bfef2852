-- Counts and edges as the code keeps them.
use Rattle.std.specs.Prelude.{ℕ, nat_eq, Bool, ◌&&◌, Option, None, Some}
use Rattle.std.specs.HashMap.{get}
use Rattle.std.specs.HashSet.{contains}
use Rattle.specialise.specs.declared.counts.Counts.{Counts}
use Rattle.specialise.specs.declared.edges.ReachedEdges.{ReachedEdges}

abbrev pub count_in : Option ℕ → ℕ
count_in None = 0
count_in (Some n) = n

-- how often a number was counted
abbrev pub counted : Counts → ℕ → ℕ
counted c k = count_in (get nat_eq c.counts k)

-- the j-th edge from the one block to the other is there
abbrev pub has_edge : ReachedEdges → ℕ → ℕ → ℕ → Bool
has_edge e from to j = contains (λ p q. (nat_eq p.0 q.0 && nat_eq p.1 q.1) && nat_eq p.2 q.2) e.edges (from, to, j)
