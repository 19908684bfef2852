-- Assignments that are given by lists of edges and of facts.
use Rattle.std.specs.Prelude.{◌≡◌, ◌≢◌, ◌↔◌, ℕ, ◌<◌, List, Some, IsSomeAnd, Contains, All, length, slice_get}
use Rattle.ir_syntax.specs.declared.body.Block.{Block}
use Rattle.ir_syntax.specs.Edges.{successors_of}
use Rattle.fold_facts.specs.declared.fact.Fact.{Fact}
use Rattle.fold_facts.specs.declared.fact.Fact.TheVariants.{Varying}
use Rattle.fold_facts.specs.Assigned.{Assigned, IsReachedEdge}
use Rattle.fold_facts.specs.OfFunction.{IsFactOf, results_in}

-- an edge of these blocks: a block, and a place among the edges that leave it
abbrev pub IsEdgeIn : List Block → ℕ × ℕ → Type 0
IsEdgeIn blocks edge = edge.1 < length (successors_of (slice_get blocks edge.0))

-- a result of these blocks with a fact of its type
abbrev pub IsFactIn : List Block → ℕ × Fact → Type 0
IsFactIn blocks given = IsSomeAnd (slice_get (results_in blocks) given.0) (λ ty. IsFactOf ty given.1)

-- Just the edges that are listed are reached.
abbrev pub HasEdges : List Block → Assigned → List (ℕ × ℕ) → Type 0
HasEdges blocks a edges = (from k to : ℕ) → slice_get (successors_of (slice_get blocks from)) k ≡ Some to
    → IsReachedEdge a from k to ↔ Contains edges (from, k)

-- Results have the facts that are listed for them, and vary where none is.
pub record HasFacts (blocks : List Block) (a : Assigned) (facts : List (ℕ × Fact)) : Type 0 where
  pub listed : All (λ given. slice_get a.facts given.0 ≡ Some given.1) facts
  pub others : (k : ℕ) → k < length (results_in blocks) → All (λ given. given.0 ≢ k) facts → slice_get a.facts k ≡ Some Varying
