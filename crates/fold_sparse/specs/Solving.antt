-- What holds while a solver runs.
use Rattle.std.specs.Prelude.{◌≡◌, ◌⊎◌, ℕ, ◌+◌, ◌<◌, ◌≤◌, Bool, true, false, List, ◌++◌, Option, None, Some, IsTrue, Contains, length, sum_by, slice_get}
use Rattle.ir_syntax.specs.declared.body.Block.{Block}
use Rattle.ir_syntax.specs.declared.body.Term.{Term as Terminator}
use Rattle.ir_syntax.specs.Edges.{successors}
use Rattle.fold_facts.specs.declared.fact.Fact.{Fact}
use Rattle.fold_facts.specs.declared.said.Edges.{Edges}
use Rattle.fold_facts.specs.Terminators.{asks}
use Rattle.fold_facts.specs.Facts.{IsBelow}
use Rattle.fold_facts.specs.Assigned.{Assigned, fact_of, IsAtMost, IsReachedEdge}
use Rattle.fold_facts.specs.Operands.{Setting}
use Rattle.fold_facts.specs.Closed.{IsClosed}
use Rattle.fold_facts.specs.OfFunction.{IsAssignmentIn}
use Rattle.fold_facts.specs.Raising.{fact_room, with_fact}
use Rattle.fold_sparse.specs.declared.look.Look.{Look}
use Rattle.fold_sparse.specs.declared.look.Look.TheVariants.{Entry, Value, Term}
use Rattle.fold_sparse.specs.declared.standing.Standing.{Standing}
use Rattle.fold_sparse.specs.declared.standing.Standing.TheVariants.{Unopened, Queued, Idle}
use Rattle.fold_sparse.specs.Groups.{members}
use Rattle.fold_sparse.specs.Looks.{looks_of, is_active, IsMet, uses_from, sources_from}

-- The assignment, how each look stands, and the worklist. The looks in `unseen` may have become active unnoticed, and those in
-- `busy` may ask for more than there is.
pub record IsSolving (setting : Setting) (blocks : List Block) (a : Assigned) (standing : List Standing) (queue unseen busy : List ℕ) : Type 0 where
  pub fits : IsAssignmentIn blocks a
  pub below : (other : Assigned) → IsClosed setting blocks other → IsAtMost a other
  pub long : length standing ≡ length (looks_of blocks)
  -- one that was opened is active,
  pub opened : (l : ℕ) (look : Look) → slice_get (looks_of blocks) l ≡ Some look → (slice_get standing l ≡ Some Unopened) ⊎ IsTrue (is_active a look)
  -- and one that is active was opened;
  pub seen : (l : ℕ) (look : Look) → slice_get (looks_of blocks) l ≡ Some look → IsTrue (is_active a look) → slice_get standing l ≡ Some Unopened → Contains unseen l
  -- one that waits is in the worklist,
  pub waits : (l : ℕ) → slice_get standing l ≡ Some Queued → Contains queue l
  -- and one that was looked at and doesn't wait has what it asks for.
  pub met : (l : ℕ) (look : Look) → slice_get (looks_of blocks) l ≡ Some look → slice_get standing l ≡ Some Idle → IsMet setting blocks a look ⊎ Contains busy l

-- ---- transfers that are left

abbrev pub unopened : Standing → ℕ
unopened Unopened = 1
unopened Queued = 0
unopened Idle = 0

-- Each look that waits, each that wasn't opened, and each use once for each time that its result can rise.
abbrev pub left : List (ℕ × ℕ) → List Fact → List Standing → List ℕ → ℕ
left uses facts standing queue = length queue + sum_by unopened standing + sum_by (λ pair. fact_room (fact_of facts pair.0)) uses

-- ---- steps of the search

abbrev pub is_unopened : Option Standing → Bool
is_unopened None = false
is_unopened (Some Unopened) = true
is_unopened (Some Queued) = false
is_unopened (Some Idle) = false

abbrev pub is_queued : Option Standing → Bool
is_queued None = false
is_queued (Some Unopened) = false
is_queued (Some Queued) = true
is_queued (Some Idle) = false

abbrev pub is_idle : Option Standing → Bool
is_idle None = false
is_idle (Some Unopened) = false
is_idle (Some Queued) = false
is_idle (Some Idle) = true

-- The look's block is one of those that the assignment has.
abbrev pub IsPlaced : Assigned → Look → Type 0
IsPlaced a (Entry at from phi entry number) = at < length a.edges
IsPlaced a (Value at k number) = at < length a.edges
IsPlaced a (Term at) = at < length a.edges

-- Of the looks in `ls` those that are active are opened.
pub record Opens (blocks : List Block) (a : Assigned) (standing next : List Standing) (queue longer ls : List ℕ) : Type 0 where
  pub goes : (setting : Setting) (unseen busy : List ℕ) → IsSolving setting blocks a standing queue (ls ++ unseen) busy → IsSolving setting blocks a next longer unseen busy
  pub left : (uses : List (ℕ × ℕ)) → left uses a.facts next longer ≤ left uses a.facts standing queue

-- Of the looks in `ls` those that were looked at wait again.
pub record Pushes (blocks : List Block) (a : Assigned) (standing next : List Standing) (queue longer ls : List ℕ) : Type 0 where
  pub goes : (setting : Setting) (unseen busy : List ℕ) → IsSolving setting blocks a standing queue unseen (ls ++ busy) → IsSolving setting blocks a next longer unseen busy
  pub left : (uses : List (ℕ × ℕ)) → left uses a.facts next longer ≤ left uses a.facts standing queue + length ls

-- The fact of a result is raised to at least what is said, and the looks that read it wait where it rose.
abbrev pub Rises : List Block → Assigned → Assigned → List Standing → List Standing → List ℕ → List ℕ → ℕ → Fact → Type 0
Rises blocks a b standing next queue longer number said =
    (b ≡ with_fact a number said) ×
    ((IsBelow said (fact_of a.facts number) × (next ≡ standing) × (longer ≡ queue))
    ⊎ ((IsBelow said (fact_of a.facts number) → ⊥) × Pushes blocks b standing next queue longer (members (uses_from blocks 0 (looks_of blocks)) number)))

-- The k-th edge of a block, which goes to another, is reached, and the looks of the other block are opened. Entries for the first
-- block's edges may have become active.
pub record Reaches (blocks : List Block) (a b : Assigned) (standing next : List Standing) (queue longer : List ℕ) (at k to : ℕ) : Type 0 where
  pub facts : b.facts ≡ a.facts
  pub above : IsAtMost a b
  pub fits : IsAssignmentIn blocks b
  pub reached : IsReachedEdge b at k to
  pub goes : (setting : Setting) (busy : List ℕ) → ((other : Assigned) → IsClosed setting blocks other → IsAtMost a other → IsReachedEdge other at k to)
      → IsSolving setting blocks a standing queue (members (sources_from 0 (looks_of blocks)) at) busy → IsSolving setting blocks b next longer (members (sources_from 0 (looks_of blocks)) at) busy
  pub left : (uses : List (ℕ × ℕ)) → left uses b.facts next longer ≤ left uses a.facts standing queue

-- Those of the first n edges of a block, which go to these blocks, that are asked for are reached.
pub record ReachesAll (blocks : List Block) (a b : Assigned) (standing next : List Standing) (queue longer : List ℕ) (at : ℕ) (tos : List ℕ) (asked : Edges) (n : ℕ) : Type 0 where
  pub facts : b.facts ≡ a.facts
  pub above : IsAtMost a b
  pub fits : IsAssignmentIn blocks b
  pub reached : (k to : ℕ) → k < n → slice_get tos k ≡ Some to → IsTrue (asks asked k) → IsReachedEdge b at k to
  pub goes : (setting : Setting) (busy : List ℕ)
      → ((other : Assigned) → IsClosed setting blocks other → IsAtMost a other → (k to : ℕ) → slice_get tos k ≡ Some to → IsTrue (asks asked k) → IsReachedEdge other at k to)
      → IsSolving setting blocks a standing queue (members (sources_from 0 (looks_of blocks)) at) busy → IsSolving setting blocks b next longer (members (sources_from 0 (looks_of blocks)) at) busy
  pub left : (uses : List (ℕ × ℕ)) → left uses b.facts next longer ≤ left uses a.facts standing queue

-- A terminator goes to blocks that are there.
abbrev pub HasTargets : List Block → Terminator → Type 0
HasTargets blocks term = (k to : ℕ) → slice_get (successors term) k ≡ Some to → to < length blocks
