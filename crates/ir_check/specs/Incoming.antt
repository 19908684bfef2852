-- The blocks that each block of a body is entered from: one for each edge.
use Rattle.std.specs.Prelude.{◌≡◌, ℕ, ◌+◌, ◌<◌, ◌==◌, List, [], ◌∷◌, ◌++◌, length, count_by, slice_index_or, slice_set}
use Rattle.ir_syntax.specs.declared.body.Block.{Block}
use Rattle.ir_syntax.specs.Edges.{successors, edges}

-- how often a block stands among these
abbrev pub times : ℕ → List ℕ → ℕ
times from preds = count_by (λ pred. pred == from) preds

-- For each block the list of those that its edges come from, one for each edge.
pub record AreIncoming (blocks : List Block) (incoming : List (List ℕ)) : Type 0 where
  pub as_many : length incoming ≡ length blocks
  pub each : (from to : ℕ) → to < length blocks → times from (slice_index_or incoming to []) ≡ edges blocks from to

-- the lists with the edges from a block to these
abbrev pub with_edges : List (List ℕ) → ℕ → List ℕ → List (List ℕ)
with_edges incoming from [] = incoming
with_edges incoming from (to ∷ more) = with_edges (slice_set incoming to (slice_index_or incoming to [] ++ from ∷ [])) from more

-- the lists with the edges of these blocks, which are counted from a place on
abbrev pub with_blocks : List (List ℕ) → ℕ → List Block → List (List ℕ)
with_blocks incoming from [] = incoming
with_blocks incoming from (block ∷ more) = with_blocks (with_edges incoming from (successors block.term)) (from + 1) more
