-- On every path of blocks from the first block to a use, the definition comes before the use.
use Rattle.std.specs.Prelude.{◌≡◌, ◌⊎◌, ℕ, suc, ◌+◌, ◌<◌, ◌≤◌, List, [], ◌∷◌, ◌++◌, Option, None, Some, All, Contains, length, map, sum, take, IfSome, flat_map}
use Rattle.ir_types.specs.declared.scalar.Scalar.{Scalar}
use Rattle.ir_syntax.specs.declared.constant.Operand.{Operand}
use Rattle.ir_syntax.specs.declared.constant.Operand.TheVariants as operand
use Rattle.ir_syntax.specs.declared.body.Inst.{Inst}
use Rattle.ir_syntax.specs.declared.body.Term.{Term}
use Rattle.ir_syntax.specs.declared.body.Phi.{Phi}
use Rattle.ir_syntax.specs.declared.body.Block.{Block}
use Rattle.ir_syntax.specs.declared.body.Body.{Body}
use Rattle.ir_syntax.specs.declared.item.Item.{Item}
use Rattle.ir_syntax.specs.declared.item.Item.TheVariants as item
use Rattle.ir_syntax.specs.declared.item.Module.{Module}
use Rattle.ir_syntax.specs.Edges.{Leads}
use Rattle.ir_syntax.specs.Results.{result_type, block_results}
pub use Rattle.ir_syntax.specs.Operands.{operands, term_operands}

-- ---- what is defined where

-- the number of the first result of the block at a place, and of the first one behind the last block
abbrev pub first_result : List Block → ℕ → ℕ
first_result blocks place = sum (map (λ block. length (block_results block)) (take place blocks))

-- the block at the place defines the register
abbrev pub Defines : List Block → ℕ → ℕ → Type 0
Defines blocks place register = (first_result blocks place ≤ register) × (register < first_result blocks (suc place))

-- ---- uses

-- A use of a register in the block at a place. Of the results of that block those with numbers below `until` come before it.
pub record Use : Type 0 where
  pub register : ℕ
  pub place : ℕ
  pub until : ℕ

abbrev pub operand_uses : ℕ → ℕ → Operand → List Use
operand_uses place until (operand.Param k) = []
operand_uses place until (operand.Reg k) = record { register = k; place = place; until = until } ∷ []
operand_uses place until (operand.Const constant) = []

-- An operand of a phi is used at the end of the block that its edge comes from.
abbrev pub phi_uses : List Block → Phi → List Use
phi_uses blocks phi = flat_map (λ entry. operand_uses entry.1 (first_result blocks (suc entry.1)) entry.0) phi.entries

abbrev pub has_result : Option Scalar → ℕ
has_result None = 0
has_result (Some ty) = 1

-- The other instructions of a block, where results with numbers below `until` come before the first of them, and its
-- terminator.
abbrev pub insts_uses : ℕ → ℕ → List Inst → Term → List Use
insts_uses place until [] term = flat_map (operand_uses place until) (term_operands term)
insts_uses place until (i ∷ is) term = flat_map (operand_uses place until) (operands i) ++ insts_uses place (until + has_result (result_type i)) is term

abbrev pub block_uses : List Block → ℕ → Block → List Use
block_uses blocks place block = flat_map (phi_uses blocks) block.phis ++ insts_uses place (first_result blocks place + length block.phis) block.insts block.term

-- the uses in these blocks, which stand in the body from a place on
abbrev pub uses_from : List Block → ℕ → List Block → List Use
uses_from blocks place [] = []
uses_from blocks place (block ∷ more) = block_uses blocks place block ++ uses_from blocks (suc place) more

abbrev pub uses : List Block → List Use
uses blocks = uses_from blocks 0 blocks

-- ---- paths

-- A path from the first block, last visited first: each block follows the one behind it in the list.
abbrev pub IsPath : List Block → List ℕ → Type 0
IsPath blocks [] = ⊥
IsPath blocks (place ∷ []) = place ≡ 0
IsPath blocks (place ∷ from ∷ more) = Leads blocks from place × IsPath blocks (from ∷ more)

-- The register is defined in a block that was visited before, or before the use in its own.
abbrev pub IsDefinedOn : List Block → List ℕ → Use → Type 0
IsDefinedOn blocks visited u =
    ((place : ℕ) × Contains visited place × Defines blocks place u.register) ⊎
    ((first_result blocks u.place ≤ u.register) × (u.register < u.until))

-- on every path to the use
abbrev pub IsSurelyDefined : List Block → Use → Type 0
IsSurelyDefined blocks u = (visited : List ℕ) → IsPath blocks (u.place ∷ visited) → IsDefinedOn blocks visited u

abbrev pub DefiniteBody : Body → Type 0
DefiniteBody body = All (IsSurelyDefined body.blocks) (uses body.blocks)

abbrev pub DefiniteItem : Item → Type 0
DefiniteItem (item.Var var) = Unit {0}
DefiniteItem (item.Func func) = IfSome func.body DefiniteBody

-- Each function of the module is definite.
abbrev pub Definite : Module → Type 0
Definite m = All DefiniteItem m.items
