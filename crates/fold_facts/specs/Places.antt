-- The places of a body, and what stands there says.
use Rattle.std.specs.Prelude.{ℕ, List, [], Option, None, Some, IsSome, option_map, option_and_then, slice_get}
use Rattle.ir_syntax.specs.declared.constant.Operand.{Operand}
use Rattle.ir_syntax.specs.declared.body.Inst.{Inst}
use Rattle.ir_syntax.specs.declared.body.Phi.{Phi}
use Rattle.ir_syntax.specs.declared.body.Block.{Block}
use Rattle.ir_syntax.specs.declared.body.Body.{Body}
use Rattle.ir_syntax.specs.declared.item.Func.{Func}
use Rattle.fold_facts.specs.declared.fact.Fact.{Fact}
use Rattle.fold_facts.specs.declared.said.Said.{Said}
use Rattle.fold_facts.specs.declared.said.Said.TheVariants as said
use Rattle.fold_facts.specs.declared.place.Place.{Place}
use Rattle.fold_facts.specs.declared.place.Place.TheVariants as place
use Rattle.fold_facts.specs.Assigned.{Assigned}
use Rattle.fold_facts.specs.Operands.{Setting, operand_fact}
use Rattle.fold_facts.specs.Instructions.{inst_fact}
use Rattle.fold_facts.specs.Phis.{phi_fact}
use Rattle.fold_facts.specs.Terminators.{term_edges}

abbrev pub blocks_in : Option Body → List Block
blocks_in None = []
blocks_in (Some body) = body.blocks

-- the blocks of a function; a declaration has none
abbrev pub blocks_of : Func → List Block
blocks_of func = blocks_in func.body

abbrev pub phi_at : List Block → ℕ → ℕ → Option Phi
phi_at blocks at k = option_and_then (λ block. slice_get block.phis k) (slice_get blocks at)

abbrev pub inst_at : List Block → ℕ → ℕ → Option Inst
inst_at blocks at k = option_and_then (λ block. slice_get block.insts k) (slice_get blocks at)

abbrev pub entry_at : List Block → ℕ → ℕ → ℕ → Option (Operand × ℕ)
entry_at blocks at k j = option_and_then (λ phi. slice_get phi.entries j) (phi_at blocks at k)

-- the place is one of these blocks'
abbrev pub IsPlaceIn : List Block → Place → Type 0
IsPlaceIn blocks (place.Phi at k) = IsSome (phi_at blocks at k)
IsPlaceIn blocks (place.Inst at k) = IsSome (inst_at blocks at k)
IsPlaceIn blocks (place.Term at) = IsSome (slice_get blocks at)

-- What the phi, instruction or terminator at a place says, if there is one, its block taken as reached.
abbrev pub said_at : Setting → List Block → Assigned → Place → Option Said
said_at setting blocks a (place.Phi at k) = option_map (λ phi. said.Fact (phi_fact setting a at phi)) (phi_at blocks at k)
said_at setting blocks a (place.Inst at k) = option_map (λ inst. said.Fact (inst_fact setting a.facts inst)) (inst_at blocks at k)
said_at setting blocks a (place.Term at) = option_map (λ block. said.Edges (term_edges setting a.facts block.term)) (slice_get blocks at)

-- What an entry of a phi says, if there is one, its edge taken as reached.
abbrev pub entry_said_at : Setting → List Block → List Fact → ℕ → ℕ → ℕ → Option Fact
entry_said_at setting blocks facts at k j = option_map (λ entry. operand_fact setting facts entry.0) (entry_at blocks at k j)
