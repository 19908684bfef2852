-- Phis and blocks that suit the blocks that edges come from.
use Rattle.std.specs.Prelude.{◌≡◌, ℕ, ◌==◌, List, Option, All, AllPairs, IfSome, count_by, slice_get}
use Rattle.ir_types.specs.declared.scalar.Scalar.{Scalar}
use Rattle.ir_syntax.specs.declared.constant.Operand.{Operand}
use Rattle.ir_syntax.specs.declared.body.Phi.{Phi}
use Rattle.ir_syntax.specs.declared.body.Block.{Block}
use Rattle.ir_syntax.specs.Typed.{Types, HasType, TypedInst, TypedTerm, TypedBlock}
use Rattle.ir_check.specs.Incoming.{times}

-- how many entries are for a block
abbrev pub entries_for : ℕ → List (Operand × ℕ) → ℕ
entries_for from entries = count_by (λ entry. entry.1 == from) entries

-- The entries name just these blocks, each as often as it stands among them.
abbrev pub HasEdges : List ℕ → List (Operand × ℕ) → Type 0
HasEdges blocks entries = (from : ℕ) → entries_for from entries ≡ times from blocks

-- A phi of a block that is entered from these blocks.
pub record SuitsPhi (types : Types) (blocks : List ℕ) (phi : Phi) : Type 0 where
  pub edges : HasEdges blocks phi.entries
  pub agree : AllPairs (λ a b. a.1 ≡ b.1 → a.0 ≡ b.0) phi.entries
  pub has_types : All (λ entry. HasType types phi.ty entry.0) phi.entries

-- A block that is entered from these blocks.
pub record SuitsBlock (types : Types) (returns : Option Scalar) (blocks : List ℕ) (block : Block) : Type 0 where
  pub phis : All (SuitsPhi types blocks) block.phis
  pub insts : All (TypedInst types) block.insts
  pub term : TypedTerm types returns block.term

abbrev pub AreTypedBlocks : Types → Option Scalar → List Block → Type 0
AreTypedBlocks types returns blocks = (place : ℕ) → IfSome (slice_get blocks place) (TypedBlock types returns blocks place)
