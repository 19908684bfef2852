-- Paths that come to a block past others.
use Rattle.std.specs.Prelude.{◌≡◌, ℕ, ◌<◌, List, ◌∷◌, All, Contains, ◌↔◌, length, slice_index}
use Rattle.std.specs.Int.{bit_at}
use Rattle.ir_syntax.specs.declared.body.Block.{Block}
use Rattle.ir_syntax.specs.Definite.{IsPath}
use Rattle.ir_paths.specs.declared.far.Far.{Far}

-- On every path to the use its definer is visited before.
abbrev pub IsPassed : List Block → Far → Type 0
IsPassed blocks far = (visited : List ℕ) → IsPath blocks (far.place ∷ visited) → Contains visited far.definer

-- The use and its definer stand in blocks that are there.
abbrev pub IsWithin : ℕ → Far → Type 0
IsWithin count far = (far.definer < count) × (far.place < count)

-- The bit is set in the word of a block.
abbrev pub HasBit : List ℕ → ℕ → ℕ → Type 0
HasBit words place bit = bit_at (slice_index words place) bit ≡ 1

-- A path that comes to the block past all blocks that own the bit.
pub record Bypasses (blocks : List Block) (own : List ℕ) (bit place : ℕ) : Type 0 where
  pub visited : List ℕ
  pub path : IsPath blocks (place ∷ visited)
  pub past : All (λ before. HasBit own before bit → ⊥) visited

-- Each word has just the bits past whose owners a path comes to its block.
pub record AreBypassed (blocks : List Block) (own words : List ℕ) : Type 0 where
  pub each : length words ≡ length blocks
  pub exact : (place bit : ℕ) → place < length blocks → bit < 64 → HasBit words place bit ↔ Bypasses blocks own bit place

-- No two blocks own one bit.
abbrev pub AreSingle : List ℕ → Type 0
AreSingle own = (one other bit : ℕ) → HasBit own one bit → HasBit own other bit → one ≡ other
