-- What is known of a table and of a pass.
use Rattle.std.specs.Prelude.{◌≡◌, ℕ, ◌+◌, ◌≤◌, List, [], ◌∷◌, map, Option, Some, None}
use Rattle.atomic_table.specs.Seated.{TableId}
use Rattle.table_rule.specs.declared.view.View.{View}
use Rattle.table_rule.specs.Layout.{Has}
use Rattle.table_rule.specs.Views.{learns, counted}

-- which table it is, and for how many workers
pub record TableView : Type 0 where
  pub id : TableId
  pub workers : ℕ

-- the table of a pass, and what the pass knows, holds and has done
pub record PassView : Type 0 where
  pub table : TableId
  pub seen : View

-- a pass that has done nothing yet
abbrev pub fresh : ℕ → ℕ → View
fresh worker rows = record { workers = worker ∷ []; lead = worker; limit = rows; held = []; known = []; made = []; claims = []; empties = [] }

-- the pass of a worker of a table for b workers, which has done nothing yet
abbrev pub fresh_pass : TableId → ℕ → ℕ → PassView
fresh_pass table b worker = record { table = table; seen = fresh worker (65536 + b) }

-- passes of n workers from k on, which have done nothing yet, of a table for b workers
abbrev pub fresh_passes : TableId → ℕ → ℕ → ℕ → List PassView
fresh_passes table b k n = map (fresh_pass table b) (counted k n)

-- the pass claimed the ticket for one of its workers
abbrev pub IsClaimed : View → ℕ → Type 0
IsClaimed v ticket = (k : ℕ) × Has v.claims (ticket, k)

-- a row without parent is booked to the least worker, and one with a parent to the worker that claimed the parent
abbrev pub IsMaker : View → Option ℕ → ℕ → Type 0
IsMaker v None m = m ≡ v.lead
IsMaker v (Some parent) m = Has v.claims (parent, m)

-- the view knows more words, and all else stays
abbrev pub HasLearned : View → View → Type 0
HasLearned v w = (more : List (ℕ × ℕ)) × (w ≡ learns v more)

-- the view holds a drawn number, and each that it holds is beyond the rows
abbrev pub IsFull : View → Type 0
IsFull v = ((k : ℕ) × (x : ℕ) × (ws : List ℕ) × Has v.held (k, (x, ws))) × ((k x : ℕ) (ws : List ℕ) → Has v.held (k, (x, ws)) → v.limit ≤ x)
