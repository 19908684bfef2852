-- What each kind of step asks of the seat that steps, and tells it.
use Rattle.std.specs.Prelude.{◌≡◌, ◌≢◌, ◌⊎◌, ℕ, ◌+◌, ◌*◌, ◌/◌, ◌%◌, ◌<◌, ◌≤◌, List, length, slice_index, Option, Some, None}
use mathlib.Core.Option.{some}
use lib.ListN.{get_elem?}
use Rattle.atomic_table.specs.Table.{Me, Step}
use Rattle.atomic_table.specs.Seated.{TableId}
use Rattle.table_rule.specs.declared.view.View.{View}
use Rattle.table_rule.specs.Layout.{Has, slots, word_of, total, content_at, named, probe}
use Rattle.table_rule.specs.Views.{opened, writes, knows, saw_empty, published, takes}

-- the view knows a slot that names the row
abbrev pub KnowsSlot : View → ℕ → Type 0
KnowsSlot v x = (p : ℕ) × (0 < p) × (p ≤ slots) × Has v.known (p, x + 1)

-- the view knows another length of the row x, or another word
abbrev pub KnowsOther : View → ℕ → List ℕ → Type 0
KnowsOther v x row = ((h : ℕ) × Has v.known (word_of x 0, h) × (h % 64 ≢ length row))
    ⊎ ((j : ℕ) × (a : ℕ) × (n : ℕ) × Has v.known (word_of x (j + 1), n) × (get_elem? row j ≡ some a) × (n ≢ a))

-- the view knows that the row x has these words
pub record KnowsRow (v : View) (x : ℕ) (row : List ℕ) : Type 0 where
  pub head : (h : ℕ) × Has v.known (word_of x 0, h) × (h % 64 ≡ length row)
  pub each : (j a : ℕ) → get_elem? row j ≡ some a → Has v.known (word_of x (j + 1), a)

-- the view knows that each slot before the i-th of the row's chain names a row with another length or word
abbrev pub Clear : View → List ℕ → ℕ → Type 0
Clear v row i = (j : ℕ) → j < i → (y : ℕ) × Has v.known (probe row j, y + 1) × KnowsOther v y row

-- the view claimed the parent for the maker, and knows its generation, to which the row's adds one
abbrev pub IsBookedUnder : View → ℕ → ℕ → Option ℕ → Type 0
IsBookedUnder v g m None = g ≡ 0
IsBookedUnder v g m (Some y) = (h : ℕ) × Has v.claims (y, m) × Has v.known (word_of y 0, h) × (g ≡ h / 64 + 1)

-- an open row's words are those of a row made by one of the view's workers, under this parent or without one
pub record IsReady (v : View) (ws row : List ℕ) (m : ℕ) (parent : Option ℕ) : Type 0 where
  pub short : slice_index ws 0 % 64 ≤ 34
  pub content : content_at ws 0 ≡ row
  pub origin : slice_index ws 35 ≡ m + 64 * named parent
  pub maker : Has v.workers m
  pub under : IsBookedUnder v (slice_index ws 0 / 64) m parent

abbrev pub Sat : Type 0
Sat = Me (Unit {0}) View

-- a number is drawn
abbrev pub HasDrawn : View → ℕ → View → Type 0
HasDrawn v found after = (after ≡ opened v found) × (found ≤ v.limit + v.limit)

abbrev pub draws : Step (Unit {0}) → Sat → ℕ → Sat → Type 0
draws st me found after = (after.1 ≡ me.1) × HasDrawn me.0 found after.0

-- a word of an open row is written
abbrev pub stores : Step (Unit {0}) → Sat → ℕ → Sat → Type 0
stores st me found after = (after.1 ≡ me.1) × ((x j : ℕ) → j < 36 → st.word ≡ word_of x j → after.0 ≡ writes me.0 x j found)

-- a slot is empty, or names a row; chains are no longer than there are rows
pub record HasLooked (p : ℕ) (v : View) (found : ℕ) (after : View) : Type 0 where
  pub none : found ≡ 0 → after ≡ saw_empty v p
  pub names : found ≢ 0 → (after ≡ knows v p found) × (found ≤ v.limit)
  pub crowd : (row : List ℕ) (i : ℕ) → i ≤ slots → Clear v row i → i ≤ v.limit

abbrev pub looks : Step (Unit {0}) → Sat → ℕ → Sat → Type 0
looks st me found after = (after.1 ≡ me.1) × HasLooked st.word me.0 found after.0

-- a word of a published row is read
abbrev pub reads : Step (Unit {0}) → Sat → ℕ → Sat → Type 0
reads st me found after = (after.1 ≡ me.1) × (after.0 ≡ knows me.0 st.word found)

-- a head is read: the row has at most 34 words, and a generation below the number of rows
abbrev pub HasReadHead : ℕ → View → ℕ → View → Type 0
HasReadHead q v found after = (after ≡ knows v q found) × (found % 64 ≤ 34) × (found / 64 < v.limit)

abbrev pub reads_head : Step (Unit {0}) → Sat → ℕ → Sat → Type 0
reads_head st me found after = (after.1 ≡ me.1) × HasReadHead st.word me.0 found after.0

-- the claim of a row is read that the view claimed
abbrev pub HasReadClaim : ℕ → View → ℕ → View → Type 0
HasReadClaim q v found after = (after ≡ knows v q found) × ((x k : ℕ) → q ≡ word_of x 36 → Has v.claims (x, k) → found ≡ k + 1)

abbrev pub reads_claim : Step (Unit {0}) → Sat → ℕ → Sat → Type 0
reads_claim st me found after = (after.1 ≡ me.1) × HasReadClaim st.word me.0 found after.0

-- an open row was put into the slot, or the slot names another
abbrev pub HasPublished : ℕ → ℕ → ℕ → Option ℕ → View → ℕ → View → Type 0
HasPublished p x m parent v found after = (found ≡ 0 → after ≡ published v p x m parent) × (found ≢ 0 → (after ≡ knows v p found) × (found ≤ v.limit))

abbrev pub publishes : Step (Unit {0}) → Sat → ℕ → Sat → Type 0
publishes st me found after = (after.1 ≡ me.1) × ((x k m : ℕ) (parent : Option ℕ) (ws row : List ℕ) → st.second ≡ x + 1 → Has me.0.held (k, (x, ws)) → IsReady me.0 ws row m parent → HasPublished st.word x m parent me.0 found after.0)

-- a row was claimed, or another claim is known
abbrev pub HasClaimed : ℕ → ℕ → View → ℕ → View → Type 0
HasClaimed x k v found after = (found ≡ 0 → after ≡ takes v x k) × (found ≢ 0 → after ≡ knows v (word_of x 36) found)

abbrev pub claims_it : Step (Unit {0}) → Sat → ℕ → Sat → Type 0
claims_it st me found after = (after.1 ≡ me.1) × ((x k : ℕ) → st.word ≡ word_of x 36 → st.second ≡ k + 1 → HasClaimed x k me.0 found after.0)

-- What the rule says of one view: a worker holds one row at most, and a row is held with one worker, a row was claimed once, and a word has one value.
pub record IsSane (v : View) : Type 0 where
  pub held : (k x y : ℕ) (ws us : List ℕ) → Has v.held (k, (x, ws)) → Has v.held (k, (y, us)) → x ≡ y
  pub holder : (k l x : ℕ) (ws us : List ℕ) → Has v.held (k, (x, ws)) → Has v.held (l, (x, us)) → k ≡ l
  pub workers : (k x : ℕ) (ws : List ℕ) → Has v.held (k, (x, ws)) → k < 64
  pub claims : (i j x k l : ℕ) → get_elem? v.claims i ≡ some (x, k) → get_elem? v.claims j ≡ some (x, l) → i ≡ j
  pub known : (q m n : ℕ) → Has v.known (q, m) → Has v.known (q, n) → m ≡ n

abbrev pub recalls : Step (Unit {0}) → Sat → ℕ → Sat → Type 0
recalls st me found after = (after.1 ≡ me.1) × (after.0 ≡ me.0) × IsSane me.0

-- the seat is one of the table, which has rows for as many workers as its key says
abbrev pub Fits : TableId → TableId → ℕ → Type 0
Fits seat table workers = (seat ≡ table) × (table.words ≡ total workers) × (workers ≤ 64)

-- the table has the row
abbrev pub IsRow : ℕ → ℕ → Type 0
IsRow x workers = x < 65536 + workers

-- a row is published where the view knows its slot or claimed it
abbrev pub CanRead : View → ℕ → Type 0
CanRead v x = KnowsSlot v x ⊎ ((k : ℕ) × Has v.claims (x, k))
