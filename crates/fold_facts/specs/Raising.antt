-- How a solver raises an assignment: what a step keeps.
use Rattle.std.specs.Prelude.{◌≡◌, ℕ, ◌+◌, ◌<◌, ◌^◌, Bool, true, false, List, Some, IsTrue, IsFalse, length, map, sum_by, slice_get, slice_set, if◌then◌else◌}
use Rattle.std.specs.List.{AllZip}
use Rattle.ir_types.specs.declared.scalar.Scalar.{Scalar}
use Rattle.ir_syntax.specs.declared.constant.Operand.{Operand}
use Rattle.ir_syntax.specs.declared.body.Inst.{Inst}
use Rattle.ir_syntax.specs.declared.body.Phi.{Phi}
use Rattle.ir_syntax.specs.declared.body.Block.{Block}
use Rattle.ir_syntax.specs.Edges.{successors}
use Rattle.ir_syntax.specs.Results.{result_type}
use Rattle.ir_syntax.specs.Definite.{first_result}
use Rattle.fold_facts.specs.declared.fact.Fact.{Fact}
use Rattle.fold_facts.specs.declared.fact.Fact.TheVariants.{Unreached, One, Varying}
use Rattle.fold_facts.specs.declared.edge.Edge.{Edge}
use Rattle.fold_facts.specs.Facts.{join}
use Rattle.fold_facts.specs.Assigned.{Assigned, fact_of, edges_from, is_reached, IsAtMost}
use Rattle.fold_facts.specs.Operands.{Setting, operand_fact}
use Rattle.fold_facts.specs.Instructions.{inst_fact}
use Rattle.fold_facts.specs.Phis.{phi_fact}
use Rattle.fold_facts.specs.Closed.{IsClosed}
use Rattle.fold_facts.specs.OfFunction.{IsFactOf, IsAssignmentIn, results_in}

-- ---- one change

-- with the fact of a result raised to at least what is said
abbrev pub with_fact : Assigned → ℕ → Fact → Assigned
with_fact a k said = record { facts = slice_set a.facts k (join (fact_of a.facts k) said); edges = a.edges }

-- with the k-th edge of a block, which goes to `to`, reached
abbrev pub with_edge : Assigned → ℕ → ℕ → ℕ → Assigned
with_edge a from k to = record {
  facts = a.facts;
  edges = slice_set a.edges from (slice_set (edges_from a from) k (record { to = to; reached = true }));
}

-- ---- room

-- how often a fact can rise
abbrev pub fact_room : Fact → ℕ
fact_room Unreached = 2
fact_room (One v) = 1
fact_room Varying = 0

abbrev pub edge_room : Edge → ℕ
edge_room edge = if edge.reached then 0 else 1

-- how often an assignment can rise
abbrev pub room : Assigned → ℕ
room a = sum_by fact_room a.facts + sum_by (λ edges. sum_by edge_room edges) a.edges

-- ---- steps

-- What the places of a block say is of the types of their results, whatever facts of their types it is said by.
pub record SaysItsTypes (setting : Setting) (results : List Scalar) (block : Block) : Type 0 where
  pub phis : (a : Assigned) → AllZip IsFactOf results a.facts → (place k : ℕ) (phi : Phi) → slice_get block.phis k ≡ Some phi
      → IsFactOf phi.ty (phi_fact setting a place phi)
  pub entries : (facts : List Fact) → AllZip IsFactOf results facts → (k j : ℕ) (phi : Phi) (entry : Operand × ℕ) → slice_get block.phis k ≡ Some phi
      → slice_get phi.entries j ≡ Some entry → IsFactOf phi.ty (operand_fact setting facts entry.0)
  pub insts : (facts : List Fact) → AllZip IsFactOf results facts → (k : ℕ) (inst : Inst) (ty : Scalar) → slice_get block.insts k ≡ Some inst
      → result_type inst ≡ Some ty → IsFactOf ty (inst_fact setting facts inst)

-- A reached block of a body, whose results begin with a number, and an assignment of that body.
pub record IsVisit (setting : Setting) (blocks : List Block) (a : Assigned) (place first : ℕ) (block : Block) : Type 0 where
  pub there : slice_get blocks place ≡ Some block
  pub numbered : first ≡ first_result blocks place
  pub reached : IsTrue (is_reached a place)
  pub fits : IsAssignmentIn blocks a
  pub few : length (results_in blocks) < 2 ^ 64
  pub typed : SaysItsTypes setting (results_in blocks) block

-- The one assignment came of the other by steps that raise only what each closed one has as well.
pub record Raises (setting : Setting) (blocks : List Block) (a b : Assigned) (changed : Bool) : Type 0 where
  pub above : IsAtMost a b
  pub fits : IsAssignmentIn blocks b
  pub within : (other : Assigned) → IsClosed setting blocks other → IsAtMost a other → IsAtMost b other
  pub same : IsFalse changed → b ≡ a
  pub falls : IsTrue changed → room b < room a

-- ---- the start

-- the edges of a block, none of them reached
abbrev pub blank_edges : Block → List Edge
blank_edges block = map (λ to. record { to = to; reached = false }) (successors block.term)

-- one fact for each result, and no edge reached
abbrev pub blank : List Block → Fact → Assigned
blank blocks fact = record { facts = map (λ ty. fact) (results_in blocks); edges = map blank_edges blocks }
