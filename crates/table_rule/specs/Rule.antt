-- The rule of the table, which holds between any two steps.
use Rattle.std.specs.Prelude.{◌≡◌, ◌≢◌, ◌⊎◌, ℕ, ◌+◌, ◌*◌, ◌%◌, ◌<◌, ◌≤◌, List, length, slice_index, Option, Some, None}
use mathlib.Core.Option.{some}
use lib.ListN.{get_elem?}
use Rattle.table_rule.specs.declared.view.View.{View}
use Rattle.table_rule.specs.Layout.{Has, slots, word_of, total, content, generation, named, probe}
use Rattle.table_rule.specs.Views.{Held}

-- a drawn number is open with a worker, or that of a row that a slot names
pub data Status : Type 0 where
  open_with : ℕ → Status
  at_slot : ℕ → Status

abbrev pub IsOpen : List Status → ℕ → ℕ → Type 0
IsOpen rows x k = get_elem? rows x ≡ some (open_with k)

abbrev pub IsPublished : List Status → ℕ → ℕ → Type 0
IsPublished rows x p = get_elem? rows x ≡ some (at_slot p)

-- Part 1, of one view: its workers are distinct and below the bound, the lead is the least of them, and it knows the
-- number of rows.
pub record Workers (b : ℕ) (workers : List ℕ) (lead size : ℕ) : Type 0 where
  pub bounded : (k : ℕ) → Has workers k → k < b
  pub once : (i j k : ℕ) → get_elem? workers i ≡ some k → get_elem? workers j ≡ some k → i ≡ j
  pub least : (k : ℕ) → Has workers k → Has workers lead × (lead ≤ k)
  pub limit : (k : ℕ) → Has workers k → size ≡ 65536 + b

-- Part 2: the count is that of the drawn numbers. A worker has one number open at most. A published row's number is
-- below the number of rows and named by one slot, and a slot names published rows alone. The words of a row whose number
-- isn't drawn are zeros.
pub record Numbers (b : ℕ) (words : List ℕ) (rows : List Status) : Type 0 where
  pub wide : length words ≡ total b
  pub narrow : b ≤ 64
  pub drawn : slice_index words 0 ≡ length rows
  pub apart : (x y k : ℕ) → IsOpen rows x k → IsOpen rows y k → x ≡ y
  pub few : (x k : ℕ) → IsOpen rows x k → k < b
  pub below : (x p : ℕ) → IsPublished rows x p → x < 65536 + b
  pub slot : (x p : ℕ) → IsPublished rows x p → (0 < p) × (p ≤ slots) × (slice_index words p ≡ x + 1)
  pub named : (p x : ℕ) → 0 < p → p ≤ slots → slice_index words p ≡ x + 1 → IsPublished rows x p
  pub blank : (x j : ℕ) → length rows ≤ x → x < 65536 + b → j < 36 → slice_index words (word_of x j) ≡ 0

-- these are the words of the row x but its claim, where the table has the row
abbrev pub Shows : ℕ → List ℕ → ℕ → List ℕ → Type 0
Shows b words x ws = (length ws ≡ 36) × ((j : ℕ) → j < 36 → x < 65536 + b → slice_index words (word_of x j) ≡ slice_index ws j)

-- Part 3, of one view: it holds the rows that are open with its workers, as their words are.
pub record Opens (b : ℕ) (words : List ℕ) (rows : List Status) (workers : List ℕ) (held : List Held) : Type 0 where
  pub mine : (x k : ℕ) → IsOpen rows x k → Has workers k → (ws : List ℕ) × Has held (k, (x, ws))
  pub shown : (x k : ℕ) (ws : List ℕ) → Has held (k, (x, ws)) → IsOpen rows x k × Has workers k × Shows b words x ws

-- the word keeps its value: a slot that names a row, a word of a published row but its claim, or the claim of a row that
-- is claimed
abbrev pub IsFixed : ℕ → List Status → ℕ → ℕ → Type 0
IsFixed b rows q n =
    ((0 < q) × (q ≤ slots) × (n ≢ 0))
    ⊎ (((x : ℕ) × (j : ℕ) × (p : ℕ) × (q ≡ word_of x j) × (j < 36) × IsPublished rows x p)
    ⊎ ((x : ℕ) × (q ≡ word_of x 36) × (x < 65536 + b) × (n ≢ 0)))

-- Part 4, of one view: what it knows of words holds, and will.
abbrev pub Knows : ℕ → List ℕ → List Status → List (ℕ × ℕ) → Type 0
Knows b words rows known = (q n : ℕ) → Has known (q, n) → (slice_index words q ≡ n) × IsFixed b rows q n

-- the i-th slot of the row's chain, where each slot before names a row with other words
abbrev pub IsChained : List ℕ → List Status → List ℕ → ℕ → Type 0
IsChained words rows row p = (i : ℕ) × (p ≡ probe row i) × ((j : ℕ) → j < i → (y : ℕ) × IsPublished rows y (probe row j) × (content words y ≢ row))

-- Part 5: published rows are no longer than 34 words, and stand in their chains.
pub record Chains (words : List ℕ) (rows : List Status) : Type 0 where
  pub short : (x p : ℕ) → IsPublished rows x p → slice_index words (word_of x 0) % 64 ≤ 34
  pub chain : (x p : ℕ) → IsPublished rows x p → IsChained words rows (content words x) p

-- a row without parent has generation 0, and one with a parent has one more than the parent, which the maker claimed
abbrev pub IsUnder : ℕ → List ℕ → ℕ → ℕ → Option ℕ → Type 0
IsUnder b words g m None = g ≡ 0
IsUnder b words g m (Some y) = (y < 65536 + b) × (slice_index words (word_of y 36) ≡ m + 1) × (g ≡ generation words y + 1)

-- the row's origin word names its maker and its parent
pub record IsFrom (b : ℕ) (words : List ℕ) (x m : ℕ) (parent : Option ℕ) : Type 0 where
  pub word : slice_index words (word_of x 35) ≡ m + 64 * named parent
  pub maker : m < b
  pub under : IsUnder b words (generation words x) m parent

-- Part 6: the order of publication has each published row once, no generation is above a row's place there, and each row
-- has an origin.
pub record Origins (b : ℕ) (words : List ℕ) (rows : List Status) (order : List ℕ) : Type 0 where
  pub listed : (x p : ℕ) → IsPublished rows x p → Has order x
  pub ordered : (i x : ℕ) → get_elem? order i ≡ some x → (p : ℕ) × IsPublished rows x p × (generation words x ≤ i)
  pub single : (i j x : ℕ) → get_elem? order i ≡ some x → get_elem? order j ≡ some x → i ≡ j
  pub origin : (x p : ℕ) → IsPublished rows x p → (m : ℕ) × (parent : Option ℕ) × IsFrom b words x m parent

-- Part 6, of one view: it made the rows whose origins name its workers, and knows their slots.
pub record Makes (words : List ℕ) (rows : List Status) (workers : List ℕ) (known : List (ℕ × ℕ)) (books : List (ℕ × (ℕ × Option ℕ))) : Type 0 where
  pub makes : (x m : ℕ) (parent : Option ℕ) → Has books (x, (m, parent))
      → (slice_index words (word_of x 35) ≡ m + 64 * named parent) × Has workers m × ((p : ℕ) × IsPublished rows x p × Has known (p, x + 1))
  pub made : (x p m : ℕ) (parent : Option ℕ) → IsPublished rows x p → slice_index words (word_of x 35) ≡ m + 64 * named parent → Has workers m → Has books (x, (m, parent))

-- Part 7: a claim word that isn't 0 is a worker's number plus 1, and its row is published.
abbrev pub Claimed : ℕ → List ℕ → List Status → Type 0
Claimed b words rows = (x k : ℕ) → x < 65536 + b → slice_index words (word_of x 36) ≡ k + 1 → (k < b) × ((p : ℕ) × IsPublished rows x p)

-- Part 7, of one view: it claimed the rows whose claim words name its workers, each once.
pub record Claims (b : ℕ) (words : List ℕ) (workers : List ℕ) (taken : List (ℕ × ℕ)) : Type 0 where
  pub claims : (x k : ℕ) → Has taken (x, k) → (x < 65536 + b) × (slice_index words (word_of x 36) ≡ k + 1) × Has workers k
  pub claimed : (x k : ℕ) → x < 65536 + b → slice_index words (word_of x 36) ≡ k + 1 → Has workers k → Has taken (x, k)
  pub once : (i j x k l : ℕ) → get_elem? taken i ≡ some (x, k) → get_elem? taken j ≡ some (x, l) → i ≡ j

pub record Keeps (b : ℕ) (words : List ℕ) (rows : List Status) (v : View) : Type 0 where
  pub workers : Workers b v.workers v.lead v.limit
  pub opens : Opens b words rows v.workers v.held
  pub knows : Knows b words rows v.known
  pub makes : Makes words rows v.workers v.known v.made
  pub claims : Claims b words v.workers v.claims

-- no two views have one worker
abbrev pub AreApart : List View → Type 0
AreApart views = (i j : ℕ) (v w : View) (k : ℕ) → get_elem? views i ≡ some v → get_elem? views j ≡ some w → Has v.workers k → Has w.workers k → i ≡ j

pub record Rule (b : ℕ) (words : List ℕ) (views : List View) : Type 0 where
  pub rows : List Status
  pub order : List ℕ
  pub numbers : Numbers b words rows
  pub chains : Chains words rows
  pub origins : Origins b words rows order
  pub claimed : Claimed b words rows
  pub each : (id : ℕ) (v : View) → get_elem? views id ≡ some v → Keeps b words rows v
  pub apart : AreApart views
