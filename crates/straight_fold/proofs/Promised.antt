-- What the crates below promise of rows and of demands.
use Rattle.std.proofs.Common.{◌≡◌, ◌≢◌, ◌↔◌, ℕ, ◌≤◌, All, AllPairs, Contains, List, Some, length, sum_by}
use Rattle.std.specs.declared.cmp.Ordering.TheVariants.{Equal}
use Rattle.std.specs.List.Sorted.{IsPermutation}
use Rattle.ir_syntax.specs.declared.item.Module.{Module}
use Rattle.demands.specs.declared.demand.Demand.{Demand}
use Rattle.demands.specs.Order.{demand_order}
use Rattle.demands.specs.Rows.{words_of}
use Rattle.demands.specs.Demands.{IsDemand}
use Rattle.demands.specs.Reading.{read_row}
use Rattle.fixed_point.specs.Needs.{AreAllNeeded}

-- what is read of a row is a demand that has it, and each demand is read from its row
pub record AreRead : Type 0 where
  pub found : (modules : List Module) (row : List ℕ) (d : Demand) → read_row modules row ≡ Some d → IsDemand modules d × (words_of d ≡ row)
  pub all : (modules : List Module) (row : List ℕ) (d : Demand) → length row ≤ 34 → IsDemand modules d → words_of d ≡ row → read_row modules row ≡ Some d

-- the order of demands ties a demand with itself alone
abbrev pub TiesItself : Type 0
TiesItself = (a b : Demand) → (demand_order a b ≡ Equal) ↔ (a ≡ b)

-- all needed rows are so in another order too
abbrev pub AreInAnyOrder : Type 0
AreInAnyOrder = (needs : List ℕ → List (List ℕ)) (roots rows others : List (List ℕ)) → IsPermutation rows others → AreAllNeeded needs roots rows → AreAllNeeded needs roots others

-- distinct things that all stand in a list are at most as many as it has
abbrev pub FewStandThere : Type 0 → Type 0
FewStandThere X = (xs ys : List X) → AllPairs (λ x y. x ≢ y) xs → All (Contains ys) xs → length xs ≤ length ys

-- and their sizes add to at most its
abbrev pub LittleStandsThere : Type 0 → Type 0
LittleStandsThere X = (size : X → ℕ) (xs ys : List X) → AllPairs (λ x y. x ≢ y) xs → All (Contains ys) xs → sum_by size xs ≤ sum_by size ys
