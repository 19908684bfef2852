-- The search for a row's place.
use Rattle.std.specs.Prelude.{◌≡◌, ℕ, ◌+◌, ◌<◌, ◌≤◌, List, length, slice_index, Option, Some}
use Rattle.table_rule.specs.declared.view.View.{View}
use Rattle.table_rule.specs.Layout.{Has, word_of}
use Rattle.table_rule.specs.Tells.{Clear, IsBookedUnder}

-- the view knows more, and its workers, its number of rows and its claims are as before
pub record Later (v w : View) : Type 0 where
  pub workers : w.workers ≡ v.workers
  pub lead : w.lead ≡ v.lead
  pub limit : w.limit ≡ v.limit
  pub claims : w.claims ≡ v.claims
  pub known : (q n : ℕ) → Has v.known (q, n) → Has w.known (q, n)

-- the search has come to the i-th slot of the row's chain
pub record IsSeeking (v w : View) (row : List ℕ) (i : ℕ) : Type 0 where
  pub later : Later v w
  pub made : w.made ≡ v.made
  pub clear : Clear w row i
  pub few : i ≤ w.limit + 1

-- a row can be made by this worker with this generation, under this parent or without one
pub record IsBooked (v : View) (m g : ℕ) (parent : Option ℕ) : Type 0 where
  pub maker : Has v.workers m
  pub few : m < 64
  pub low : g ≤ 65600
  pub near : (y : ℕ) → parent ≡ Some y → y < 65600
  pub under : IsBookedUnder v g m parent

-- the open row has a head, an origin, and the first n words
pub record IsFilledTo (n : ℕ) (ws : List ℕ) (first last : ℕ) (row : List ℕ) : Type 0 where
  pub long : length ws ≡ 36
  pub head : slice_index ws 0 ≡ first
  pub origin : slice_index ws 35 ≡ last
  pub words : (j : ℕ) → j < n → slice_index ws (j + 1) ≡ slice_index row j

-- the view holds the row x open with worker k, with this head, this origin, and the first n words
pub record Fills (n : ℕ) (v w : View) (k x first last : ℕ) (row : List ℕ) : Type 0 where
  pub later : Later v w
  pub made : w.made ≡ v.made
  pub ws : List ℕ
  pub held : Has w.held (k, (x, ws))
  pub filled : IsFilledTo n ws first last row

-- the first n of these are the words of the row x
abbrev pub AreRead : ℕ → View → ℕ → List ℕ → Type 0
AreRead n v x kept = (length kept ≡ 34) × ((j : ℕ) → j < n → Has v.known (word_of x (j + 1), slice_index kept j))

-- the view knows that the first n words of the row x are those of the row
abbrev pub AreSame : ℕ → View → ℕ → List ℕ → Type 0
AreSame n v x row = (j : ℕ) → j < n → Has v.known (word_of x (j + 1), slice_index row j)
