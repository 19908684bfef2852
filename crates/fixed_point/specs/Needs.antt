-- Lists of needed rows, and when there are too many of them or their sizes add to too much.
use Rattle.std.specs.Prelude.{◌≡◌, ◌≢◌, ℕ, ◌<◌, Bool, true, List, All, AllPairs, Contains, length, sum_by}
use Rattle.demand_core.specs.Needed.{HoldsRoots, IsClosed, IsNeeded}

-- the set holds the roots, is closed under needs, and is contained in every such set
pub record IsLeast (needs : List ℕ → List (List ℕ)) (roots : List (List ℕ)) (s : List ℕ → Bool) : Type 0 where
  pub holds : HoldsRoots roots s
  pub closed : IsClosed needs s
  pub least : (t : List ℕ → Bool) → HoldsRoots roots t → IsClosed needs t → (row : List ℕ) → s row ≡ true → t row ≡ true

-- no row stands twice, and each is needed
pub record AreNeeded (needs : List ℕ → List (List ℕ)) (roots rows : List (List ℕ)) : Type 0 where
  pub distinct : AllPairs (λ row other. row ≢ other) rows
  pub needed : All (IsNeeded needs roots) rows

-- the rows are finitely many
pub record IsFinite (needs : List ℕ → List (List ℕ)) (roots : List (List ℕ)) : Type 0 where
  pub rows : List (List ℕ)
  pub complete : (row : List ℕ) → IsNeeded needs roots row → Contains rows row

-- each needed row stands there once, and no other row
pub record AreAllNeeded (needs : List ℕ → List (List ℕ)) (roots rows : List (List ℕ)) : Type 0 where
  pub distinct : AllPairs (λ row other. row ≢ other) rows
  pub needed : All (IsNeeded needs roots) rows
  pub complete : (row : List ℕ) → IsNeeded needs roots row → Contains rows row

-- more than so many rows are needed
pub record NeedsMoreThan (needs : List ℕ → List (List ℕ)) (roots : List (List ℕ)) (most : ℕ) : Type 0 where
  pub rows : List (List ℕ)
  pub are : AreNeeded needs roots rows
  pub more : most < length rows

-- the sizes of the needed rows, which are finitely many, add to more than so much
pub record WeighsMoreThan (needs : List ℕ → List (List ℕ)) (size : List ℕ → ℕ) (roots : List (List ℕ)) (most : ℕ) : Type 0 where
  pub rows : List (List ℕ)
  pub are : AreAllNeeded needs roots rows
  pub more : most < sum_by size rows
