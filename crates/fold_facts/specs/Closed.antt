-- Closed assignments, and the least of them.
use Rattle.std.specs.Prelude.{◌≡◌, ℕ, ◌+◌, List, Some, IsSome, IsTrue, length, take, slice_get}
use Rattle.std.specs.List.{filter_map}
use Rattle.ir_syntax.specs.declared.body.Inst.{Inst}
use Rattle.ir_syntax.specs.declared.body.Phi.{Phi}
use Rattle.ir_syntax.specs.declared.body.Block.{Block}
use Rattle.ir_syntax.specs.Edges.{successors}
use Rattle.ir_syntax.specs.Results.{result_type}
use Rattle.ir_syntax.specs.Definite.{first_result}
use Rattle.fold_facts.specs.Facts.{IsBelow}
use Rattle.fold_facts.specs.Assigned.{Assigned, fact_of, IsReachedEdge, is_reached, IsAtMost}
use Rattle.fold_facts.specs.Operands.{Setting}
use Rattle.fold_facts.specs.Instructions.{inst_fact}
use Rattle.fold_facts.specs.Phis.{phi_fact}
use Rattle.fold_facts.specs.Terminators.{asks, term_edges}

-- the number of the result of the k-th instruction, where those of the instructions begin with a number
abbrev pub inst_result : List Inst → ℕ → ℕ → ℕ
inst_result insts first k = first + length (filter_map result_type (take k insts))

-- Each phi's result, of the block at a place whose results begin with a number, is at least what the phi says,
abbrev pub ArePhisClosed : Setting → Assigned → ℕ → ℕ → Block → Type 0
ArePhisClosed setting a place first block = (k : ℕ) (phi : Phi) → slice_get block.phis k ≡ Some phi
    → IsBelow (phi_fact setting a place phi) (fact_of a.facts (first + k))

-- each other instruction's result at least what the instruction says,
abbrev pub AreInstsClosed : Setting → Assigned → ℕ → Block → Type 0
AreInstsClosed setting a first block = (k : ℕ) (inst : Inst) → slice_get block.insts k ≡ Some inst → IsSome (result_type inst)
    → IsBelow (inst_fact setting a.facts inst) (fact_of a.facts (inst_result block.insts (first + length block.phis) k))

-- and each edge that the terminator asks for is reached.
abbrev pub AreEdgesClosed : Setting → Assigned → ℕ → Block → Type 0
AreEdgesClosed setting a place block = (k to : ℕ) → slice_get (successors block.term) k ≡ Some to
    → IsTrue (asks (term_edges setting a.facts block.term) k) → IsReachedEdge a place k to

pub record IsClosedBlock (setting : Setting) (a : Assigned) (place first : ℕ) (block : Block) : Type 0 where
  pub phis : ArePhisClosed setting a place first block
  pub insts : AreInstsClosed setting a first block
  pub edges : AreEdgesClosed setting a place block

-- In each reached block, they are.
abbrev pub IsClosed : Setting → List Block → Assigned → Type 0
IsClosed setting blocks a = (place : ℕ) (block : Block) → slice_get blocks place ≡ Some block → IsTrue (is_reached a place)
    → IsClosedBlock setting a place (first_result blocks place) block

-- the closed assignment that is at most every closed one
pub record IsLeastClosed (setting : Setting) (blocks : List Block) (a : Assigned) : Type 0 where
  pub closed : IsClosed setting blocks a
  pub least : (other : Assigned) → IsClosed setting blocks other → IsAtMost a other
