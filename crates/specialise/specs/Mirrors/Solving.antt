-- The least closed assignment as a function: rounds of visits of all places, each of which raises what its place asks for.
use Rattle.std.specs.Prelude.{ℕ, zero, suc, ◌+◌, Bool, true, false, cond, not, ◌&&◌, ◌||◌, List, Option, None, Some, length, slice_get}
use Rattle.ir_types.specs.declared.scalar.Scalar.{Scalar}
use Rattle.ir_syntax.specs.declared.body.Inst.{Inst}
use Rattle.ir_syntax.specs.declared.body.Phi.{Phi}
use Rattle.ir_syntax.specs.declared.body.Block.{Block}
use Rattle.ir_syntax.specs.Definite.{first_result}
use Rattle.ir_syntax.specs.Edges.{successors}
use Rattle.ir_syntax.specs.Results.{result_type}
use Rattle.fold_facts.specs.declared.fact.Fact.{Fact}
use Rattle.fold_facts.specs.declared.fact.Fact.TheVariants.{Unreached, One, Varying}
use Rattle.fold_facts.specs.declared.edge.Edge.{Edge}
use Rattle.fold_facts.specs.declared.said.Edges.{Edges}
use Rattle.fold_facts.specs.Facts.{is_same}
use Rattle.fold_facts.specs.Assigned.{Assigned, fact_of, edges_from, is_reached}
use Rattle.fold_facts.specs.Closed.{inst_result}
use Rattle.fold_facts.specs.Operands.{Setting}
use Rattle.fold_facts.specs.Instructions.{inst_fact}
use Rattle.fold_facts.specs.Phis.{phi_fact}
use Rattle.fold_facts.specs.Terminators.{asks, term_edges}
use Rattle.fold_facts.specs.Raising.{with_fact, with_edge, room, blank}

-- an assignment that was raised, and whether it changed
pub record Round : Type 0 where
  pub a : Assigned
  pub changed : Bool

abbrev pub begun : Assigned → Round
begun a = record { a = a; changed = false }

abbrev pub is_below : Fact → Fact → Bool
is_below Unreached other = true
is_below (One v) Unreached = false
is_below (One v) (One w) = is_same v w
is_below (One v) Varying = true
is_below Varying Unreached = false
is_below Varying (One w) = false
is_below Varying Varying = true

abbrev pub raised : Round → ℕ → Fact → Round
raised r k said = record { a = with_fact r.a k said; changed = r.changed || not (is_below said (fact_of r.a.facts k)) }

abbrev pub visit_phi : Setting → ℕ → ℕ → Option Phi → Round → Round
visit_phi setting place number None r = r
visit_phi setting place number (Some phi) r = raised r number (phi_fact setting r.a place phi)

-- the first n phis of a block
abbrev pub visit_phis : Setting → ℕ → ℕ → Block → ℕ → Assigned → Round
visit_phis setting place first block zero a = begun a
visit_phis setting place first block (suc n) a = visit_phi setting place (first + n) (slice_get block.phis n) (visit_phis setting place first block n a)

abbrev pub raise_result : Setting → ℕ → Option Scalar → Inst → Round → Round
raise_result setting number None inst r = r
raise_result setting number (Some ty) inst r = raised r number (inst_fact setting r.a.facts inst)

abbrev pub visit_inst : Setting → ℕ → Option Inst → Round → Round
visit_inst setting number None r = r
visit_inst setting number (Some inst) r = raise_result setting number (result_type inst) inst r

-- its first n instructions
abbrev pub visit_insts : Setting → ℕ → Block → ℕ → Assigned → Round
visit_insts setting first block zero a = begun a
visit_insts setting first block (suc n) a = visit_inst setting (inst_result block.insts (first + length block.phis) n) (slice_get block.insts n) (visit_insts setting first block n a)

abbrev pub visit_edge : Bool → ℕ → ℕ → Option Edge → Round → Round
visit_edge asked place k None r = r
visit_edge asked place k (Some edge) r = record { a = cond (asked && not edge.reached) (with_edge r.a place k edge.to) r.a; changed = r.changed || (asked && not edge.reached) }

-- its first n edges
abbrev pub visit_edges : Edges → ℕ → ℕ → Assigned → Round
visit_edges asked place zero a = begun a
visit_edges asked place (suc n) a = visit_edge (asks asked n) place n (slice_get (edges_from (visit_edges asked place n a).a place) n) (visit_edges asked place n a)

abbrev pub all_phis : Setting → ℕ → ℕ → Block → Assigned → Round
all_phis setting place first block a = visit_phis setting place first block (length block.phis) a

abbrev pub all_insts : Setting → ℕ → Block → Assigned → Round
all_insts setting first block a = visit_insts setting first block (length block.insts) a

abbrev pub all_edges : Setting → ℕ → Block → Assigned → Round
all_edges setting place block a = visit_edges (term_edges setting a.facts block.term) place (length (successors block.term)) a

abbrev pub visit_block : Setting → ℕ → ℕ → Block → Assigned → Round
visit_block setting place first block a =
    let phis = all_phis setting place first block a in
    let insts = all_insts setting first block phis.a in
    let edges = all_edges setting place block insts.a in
    record { a = edges.a; changed = (phis.changed || insts.changed) || edges.changed }

abbrev pub visit_if : Bool → Setting → ℕ → ℕ → Block → Assigned → Round
visit_if false setting place first block a = begun a
visit_if true setting place first block a = visit_block setting place first block a

abbrev pub visit_place : Setting → List Block → ℕ → Option Block → Round → Round
visit_place setting blocks place None r = r
visit_place setting blocks place (Some block) r =
    let visited = visit_if (is_reached r.a place) setting place (first_result blocks place) block r.a in
    record { a = visited.a; changed = r.changed || visited.changed }

-- the first n blocks
abbrev pub visit_blocks : Setting → List Block → ℕ → Assigned → Round
visit_blocks setting blocks zero a = begun a
visit_blocks setting blocks (suc n) a = visit_place setting blocks n (slice_get blocks n) (visit_blocks setting blocks n a)

abbrev pub settled : Setting → List Block → ℕ → Assigned → Assigned
settled setting blocks zero a = a
settled setting blocks (suc n) a = cond (visit_blocks setting blocks (length blocks) a).changed (settled setting blocks n (visit_blocks setting blocks (length blocks) a).a) (visit_blocks setting blocks (length blocks) a).a

-- Each round but the last takes some of the room.
abbrev pub least_of : Setting → List Block → Assigned
least_of setting blocks = settled setting blocks (suc (room (blank blocks Unreached))) (blank blocks Unreached)
