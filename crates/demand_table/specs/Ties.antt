-- What a pass keeps beside its seat, against what the seat knows.
use Rattle.std.specs.Prelude.{◌≡◌, ◌≢◌, ℕ, ◌+◌, ◌*◌, ◌<◌, ◌≤◌, List, length, slice_index, Option, Some}
use mathlib.Core.Option.{some}
use lib.ListN.{get_elem?}
use Rattle.atomic_table.specs.Seated.{TableId}
use Rattle.table_rule.specs.declared.view.View.{View}
use Rattle.table_rule.specs.Layout.{Has}
use Rattle.table_rule.specs.Views.{Held}
use Rattle.table_rule.specs.Tells.{KnowsSlot}

-- the pass has the rows of its table
pub record Sizes (table : TableId) (limit : ℕ) : Type 0 where
  pub words : table.words ≡ 37 * limit + 131073
  pub large : 65536 < limit
  pub small : limit ≤ 65600

-- the array has the word of a slot exactly where a slot is known to name the row
pub record Finds (limit : ℕ) (known : List (ℕ × ℕ)) (found : List ℕ) : Type 0 where
  pub wide : length found ≡ limit
  pub slot : (t : ℕ) → slice_index found t ≢ 0 → (slice_index found t ≤ 131072) × Has known (slice_index found t, t + 1)
  pub all : (p t : ℕ) → 0 < p → p ≤ 131072 → Has known (p, t + 1) → slice_index found t ≢ 0

-- for each worker the array has the number of the row that is held open with it
pub record Holds (held : List Held) (open_rows : List (Option ℕ)) : Type 0 where
  pub wide : length open_rows ≡ 64
  pub own : (k x : ℕ) → get_elem? open_rows k ≡ some (Some x) → (ws : List ℕ) × Has held (k, (x, ws))
  pub all : (k x : ℕ) (ws : List ℕ) → Has held (k, (x, ws)) → (get_elem? open_rows k ≡ some (Some x)) × (length ws ≡ 36)
  pub apart : (k l x : ℕ) → get_elem? open_rows k ≡ some (Some x) → get_elem? open_rows l ≡ some (Some x) → k ≡ l

-- the worker is the least of the view's, and a claimed row is known and was claimed for one of them
pub record Works (v : View) (worker : ℕ) : Type 0 where
  pub lead : worker ≡ v.lead
  pub own : Has v.workers worker
  pub few : (k : ℕ) → Has v.workers k → k < 64
  pub claims : (x k : ℕ) → Has v.claims (x, k) → KnowsSlot v x × Has v.workers k

pub record Ties (table : TableId) (v : View) (found : List ℕ) (open_rows : List (Option ℕ)) (worker : ℕ) : Type 0 where
  pub sizes : Sizes table v.limit
  pub finds : Finds v.limit v.known found
  pub holds : Holds v.held open_rows
  pub works : Works v worker
