-- What the entries of a closed table say.
use Rattle.std.specs.Prelude.{◌≡◌, ◌≢◌, ◌↔◌, ℕ, ◌+◌, ◌/◌, ◌%◌, ◌<◌, ◌≤◌, List, length, slice_index, Option, Some, None}
use mathlib.Core.Option.{some}
use lib.ListN.{get_elem?}
use Rattle.demand_play.specs.declared.entry.Closed.{Closed}
use Rattle.table_rule.specs.declared.view.View.{View}
use Rattle.table_rule.specs.Layout.{Has, word_of, content}
use Rattle.table_rule.specs.Tells.{KnowsRow}

-- a parent's ticket, and its place among the tickets
abbrev pub IsParent : List ℕ → Option ℕ → Option ℕ → Type 0
IsParent tickets None place = place ≡ None
IsParent tickets (Some parent) place = (y : ℕ) × (place ≡ Some y) × (get_elem? tickets y ≡ some parent)

-- the entry of a ticket: the view made the row, and claimed it just for the claimer; where it knows the row's words, these are the row
pub record IsEntryOf (v : View) (tickets : List ℕ) (ticket : ℕ) (entry : Closed) : Type 0 where
  pub made : (parent : Option ℕ) × Has v.made (ticket, (entry.maker, parent)) × IsParent tickets parent entry.parent
  pub claimed : (k : ℕ) → (entry.claimer ≡ Some k) ↔ Has v.claims (ticket, k)
  pub row : (row : List ℕ) → KnowsRow v ticket row → entry.row ≡ row

-- the entries are those of the rows that the view made and of the tickets that it claimed, each once, in order of the tickets
pub record Reports (v : View) (entries : List Closed) : Type 0 where
  pub tickets : List ℕ
  pub same : length tickets ≡ length entries
  pub rising : (i j x y : ℕ) → i < j → get_elem? tickets i ≡ some x → get_elem? tickets j ≡ some y → x < y
  pub each : (i x : ℕ) (entry : Closed) → get_elem? tickets i ≡ some x → get_elem? entries i ≡ some entry → IsEntryOf v tickets x entry
  pub made : (x m : ℕ) (parent : Option ℕ) → Has v.made (x, (m, parent)) → Has tickets x
  pub claimed : (x k : ℕ) → Has v.claims (x, k) → Has tickets x

-- the tickets below n whose slots are known, in order, and for each its place, counted from 1
pub record AreNumberedTo (n : ℕ) (found tickets places : List ℕ) : Type 0 where
  pub wide : length places ≡ length found
  pub within : (i x : ℕ) → get_elem? tickets i ≡ some x → (slice_index found x ≢ 0) × (slice_index places x ≡ i + 1) × (x < n)
  pub all : (x : ℕ) → x < n → slice_index found x ≢ 0 → Has tickets x
  pub rising : (i j x y : ℕ) → i < j → get_elem? tickets i ≡ some x → get_elem? tickets j ≡ some y → x < y

abbrev pub AreNumbered : List ℕ → List ℕ → List ℕ → Type 0
AreNumbered found tickets places = AreNumberedTo (length found) found tickets places

-- what an origin word names is none, or a row with this place
pub record IsPlace (places : List ℕ) (named : ℕ) (place : Option ℕ) : Type 0 where
  pub none : named ≡ 0 → place ≡ None
  pub some_ : (y : ℕ) → named ≡ y + 1 → (z : ℕ) × (place ≡ Some z) × (slice_index places y ≡ z + 1)

-- what a claim word names is none, or this worker
pub record IsWorker (claim : ℕ) (worker : Option ℕ) : Type 0 where
  pub none : claim ≡ 0 → worker ≡ None
  pub some_ : (k : ℕ) → claim ≡ k + 1 → worker ≡ Some k

-- the entry of the row x, as its words say
pub record IsWritten (words places : List ℕ) (x : ℕ) (entry : Closed) : Type 0 where
  pub row : entry.row ≡ content words x
  pub maker : entry.maker ≡ slice_index words (word_of x 35) % 64
  pub parent : IsPlace places (slice_index words (word_of x 35) / 64) entry.parent
  pub claimer : IsWorker (slice_index words (word_of x 36)) entry.claimer

-- the row x is short, and its parent has a place
pub record IsReadable (words places : List ℕ) (x : ℕ) : Type 0 where
  pub short : slice_index words (word_of x 0) % 64 ≤ 34
  pub near : (y : ℕ) → slice_index words (word_of x 35) / 64 ≡ y + 1 → (y < 65600) × (y < length places) × (0 < slice_index places y)

-- the first n entries are those of the first n tickets
abbrev pub AreWritten : ℕ → List ℕ → List ℕ → List ℕ → List Closed → Type 0
AreWritten n words places tickets entries = (i x : ℕ) (entry : Closed) → i < n → get_elem? tickets i ≡ some x → get_elem? entries i ≡ some entry → IsWritten words places x entry

-- the first n of these are the words behind the head that stands at this place
abbrev pub IsCopied : ℕ → List ℕ → ℕ → List ℕ → Type 0
IsCopied n words at kept = (length kept ≡ 34) × ((j : ℕ) → j < n → slice_index kept j ≡ slice_index words (at + 1 + j))
