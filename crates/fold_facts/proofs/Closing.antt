-- Tests of the places of a block, one after another.
use Rattle.std.proofs.Common.{◌≡◌, ◌∙◌, ◌↔◌, inl, inr, ℕ, ◌+◌, ◌<◌, ◌≤◌, Bool, true, false, List, [], ◌∷◌, Some, length, map, take, refl, sym, ap, subst, arith}
use Rattle.std.specs.Prelude.{slice_get, IsSome, IsTrue, IfSome}
use Rattle.std.proofs.lemmas.Bool.{false≢true}
use Rattle.std.proofs.lemmas.List.{length-map}
use Rattle.ir_syntax.specs.declared.body.Inst.{Inst}
use Rattle.ir_syntax.specs.declared.body.Phi.{Phi}
use Rattle.ir_syntax.specs.declared.body.Block.{Block}
use Rattle.ir_syntax.specs.Edges.{successors}
use Rattle.ir_syntax.specs.Results.{result_type, block_results}
use Rattle.ir_syntax.specs.Definite.{first_result, has_result}
use Rattle.fold_facts.specs.declared.edge.Edge.{Edge}
use Rattle.fold_facts.specs.declared.said.Edges.{Edges}
use Rattle.fold_facts.specs.Facts.{IsBelow}
use Rattle.fold_facts.specs.Assigned.{Assigned, fact_of, edges_from, IsReachedEdge, is_reached}
use Rattle.fold_facts.specs.Operands.{Setting}
use Rattle.fold_facts.specs.Instructions.{inst_fact}
use Rattle.fold_facts.specs.Phis.{phi_fact}
use Rattle.fold_facts.specs.Terminators.{asks, term_edges}
use Rattle.fold_facts.specs.Closed.{inst_result, ArePhisClosed, AreInstsClosed, AreEdgesClosed, IsClosedBlock, IsClosed}
use Rattle.fold_facts.proofs.Lists.{some_is, is_or_not, there, within, of_map}
use Rattle.fold_facts.proofs.Numbers.{first_zero, first_next, phis_first, types, types_next, types_most}
use Rattle.fold_facts.proofs.Visits.{edge_is}

pub accepted : {Q : Type 0} → Q → IsTrue true ↔ Q
accepted q = (λ t. q, λ h. refl)

pub refuted : {P Q : Type 0} (r : Bool) → r ≡ false → IsTrue r ↔ P → (Q → P) → IsTrue false ↔ Q
refuted r failed test h = (λ t. absurd (false≢true t), λ q. sym failed ∙ test.1 (h q))

-- ---- phis

abbrev pub PhisTo : Setting → Assigned → ℕ → ℕ → Block → ℕ → Type 0
PhisTo setting a place first block n = (k : ℕ) (phi : Phi) → k < n → slice_get block.phis k ≡ Some phi → IsBelow (phi_fact setting a place phi) (fact_of a.facts (first + k))

pub phis_more : (setting : Setting) (a : Assigned) (place first n : ℕ) (block : Block) (phi : Phi) → PhisTo setting a place first block n → slice_get block.phis n ≡ Some phi → IsBelow (phi_fact setting a place phi) (fact_of a.facts (first + n)) → PhisTo setting a place first block (n + 1)
phis_more setting a place first n block phi h is low k other less at = elim (is_or_not k n) [
  | inl e ↦
      let one : phi ≡ other = some_is (sym is ∙ sym (ap (slice_get block.phis) e) ∙ at) in
      subst (λ p. IsBelow (phi_fact setting a place p) (fact_of a.facts (first + k))) one (subst (λ m. IsBelow (phi_fact setting a place phi) (fact_of a.facts (first + m))) (sym e) low)
  | inr ne ↦ h k other (omega (arith, less, ne)) at
]

pub phis_done : (setting : Setting) (a : Assigned) (place first n : ℕ) (block : Block) → length block.phis ≤ n → PhisTo setting a place first block n → ArePhisClosed setting a place first block
phis_done setting a place first n block all h k phi is = h k phi (omega (arith, all, within block.phis k phi is)) is

-- ---- other instructions

pub record InstsTo (setting : Setting) (a : Assigned) (first : ℕ) (block : Block) (n number : ℕ) : Type 0 where
  pub numbered : number ≡ inst_result block.insts (first + length block.phis) n
  pub closed : (k : ℕ) (i : Inst) → k < n → slice_get block.insts k ≡ Some i → IsSome (result_type i) → IsBelow (inst_fact setting a.facts i) (fact_of a.facts (inst_result block.insts (first + length block.phis) k))

pub insts_begin : (setting : Setting) (a : Assigned) (first number : ℕ) (block : Block) → number ≡ first + length block.phis → InstsTo setting a first block 0 number
insts_begin setting a first number block is = record {
  numbered = let none : length (types (take 0 block.insts)) ≡ 0 = none_taken block.insts in omega (arith, is, none);
  closed = λ k i less at. absurd (omega (arith, less));
}
  where
    none_taken : (insts : List Inst) → length (types (take 0 insts)) ≡ 0
    none_taken [] = refl
    none_taken (i ∷ more) = refl

pub insts_more : (setting : Setting) (a : Assigned) (first n number next : ℕ) (block : Block) (i : Inst) → InstsTo setting a first block n number → slice_get block.insts n ≡ Some i
    → (IsSome (result_type i) → IsBelow (inst_fact setting a.facts i) (fact_of a.facts number)) → next ≡ number + has_result (result_type i) → InstsTo setting a first block (n + 1) next
insts_more setting a first n number next block i h is low num = record {
  numbered = omega (arith, num, h.numbered, types_next block.insts n i is);
  closed = λ k other less at some. elim (is_or_not k n) [
    | inl e ↦
        let one : i ≡ other = some_is (sym is ∙ sym (ap (slice_get block.insts) e) ∙ at) in
        let here : IsBelow (inst_fact setting a.facts i) (fact_of a.facts (inst_result block.insts (first + length block.phis) n)) = subst (λ m. IsBelow (inst_fact setting a.facts i) (fact_of a.facts m)) h.numbered (low (subst (λ j. IsSome (result_type j)) (sym one) some)) in
        subst (λ j. IsBelow (inst_fact setting a.facts j) (fact_of a.facts (inst_result block.insts (first + length block.phis) k))) one
        (subst (λ m. IsBelow (inst_fact setting a.facts i) (fact_of a.facts (inst_result block.insts (first + length block.phis) m))) (sym e) here)
    | inr ne ↦ h.closed k other (omega (arith, less, ne)) at some
  ];
}

pub insts_done : (setting : Setting) (a : Assigned) (first n number : ℕ) (block : Block) → length block.insts ≤ n → InstsTo setting a first block n number → AreInstsClosed setting a first block
insts_done setting a first n number block all h k i is some = h.closed k i (omega (arith, all, within block.insts k i is)) is some

-- where all are closed, so is one
pub insts_one : (setting : Setting) (a : Assigned) (first n number : ℕ) (block : Block) (i : Inst) → InstsTo setting a first block n number → slice_get block.insts n ≡ Some i → AreInstsClosed setting a first block
    → IsSome (result_type i) → IsBelow (inst_fact setting a.facts i) (fact_of a.facts number)
insts_one setting a first n number block i h is all some = subst (λ m. IsBelow (inst_fact setting a.facts i) (fact_of a.facts m)) (sym h.numbered) (all n i is some)

pub insts_fit : (first n number : ℕ) (block : Block) (i : Inst) → slice_get block.insts n ≡ Some i → number ≡ inst_result block.insts (first + length block.phis) n → number + has_result (result_type i) ≤ first + length (block_results block)
insts_fit first n number block i is num = omega (arith, num, types_next block.insts n i is, types_most block.insts (n + 1), phis_first block)

-- ---- edges

abbrev pub EdgesTo : Assigned → ℕ → Block → Edges → ℕ → Type 0
EdgesTo a place block asked n = (k to : ℕ) → k < n → slice_get (successors block.term) k ≡ Some to → IsTrue (asks asked k) → IsReachedEdge a place k to

-- what a test of an edge says
abbrev pub IsEdgeClosed : Assigned → ℕ → Edges → ℕ → Type 0
IsEdgeClosed a place asked k = IsTrue (asks asked k) → IfSome (slice_get (edges_from a place) k) (λ edge. IsTrue edge.reached)

edge_in : (a : Assigned) (place k to : ℕ) (block : Block) → map (λ edge. edge.to) (edges_from a place) ≡ successors block.term → slice_get (successors block.term) k ≡ Some to → (e : Edge) × (slice_get (edges_from a place) k ≡ Some e) × (e.to ≡ to)
edge_in a place k to block are at = of_map (λ edge. edge.to) (edges_from a place) k to (ap (λ l. slice_get l k) are ∙ at)

edge_of_test : (a : Assigned) (place k to : ℕ) (block : Block) (asked : Edges) → map (λ edge. edge.to) (edges_from a place) ≡ successors block.term → slice_get (successors block.term) k ≡ Some to → IsEdgeClosed a place asked k → IsTrue (asks asked k) → IsReachedEdge a place k to
edge_of_test a place k to block asked are at test asking =
    let e = edge_in a place k to block are at in
    let on : e.0.reached ≡ true = subst (λ o. IfSome o (λ edge. IsTrue edge.reached)) e.1 (test asking) in
    e.1 ∙ ap Some (edge_is e.0 to e.2 on)

pub edges_more : (a : Assigned) (place n : ℕ) (block : Block) (asked : Edges) → map (λ edge. edge.to) (edges_from a place) ≡ successors block.term → EdgesTo a place block asked n → IsEdgeClosed a place asked n → EdgesTo a place block asked (n + 1)
edges_more a place n block asked are h test k to less at asking = elim (is_or_not k n) [
  | inl e ↦ edge_of_test a place k to block asked are at (subst (IsEdgeClosed a place asked) (sym e) test) asking
  | inr ne ↦ h k to (omega (arith, less, ne)) at asking
]

pub edges_done : (setting : Setting) (a : Assigned) (place n : ℕ) (block : Block) (asked : Edges) → asked ≡ term_edges setting a.facts block.term → length (successors block.term) ≤ n → EdgesTo a place block asked n → AreEdgesClosed setting a place block
edges_done setting a place n block asked is all h k to at asking = h k to (omega (arith, all, within (successors block.term) k to at)) at (subst (λ x. asks x k ≡ true) (sym is) asking)

pub edges_one : (setting : Setting) (a : Assigned) (place n : ℕ) (block : Block) (asked : Edges) → asked ≡ term_edges setting a.facts block.term → map (λ edge. edge.to) (edges_from a place) ≡ successors block.term → n < length (successors block.term)
    → AreEdgesClosed setting a place block → IsEdgeClosed a place asked n
edges_one setting a place n block asked is are less all asking =
    let to = there (successors block.term) n less in
    subst (λ o. IfSome o (λ edge. IsTrue edge.reached)) (sym (all n to.0 to.1 (subst (λ x. asks x n ≡ true) is asking))) refl

pub edges_length : (a : Assigned) (place : ℕ) (block : Block) → map (λ edge. edge.to) (edges_from a place) ≡ successors block.term → length (edges_from a place) ≡ length (successors block.term)
edges_length a place block are = omega (arith, ap length are, length-map (edges_from a place) (λ edge. edge.to))

-- ---- blocks

pub record BlocksTo (setting : Setting) (blocks : List Block) (a : Assigned) (n first : ℕ) : Type 0 where
  pub numbered : first ≡ first_result blocks n
  pub closed : (place : ℕ) (block : Block) → place < n → slice_get blocks place ≡ Some block → IsTrue (is_reached a place) → IsClosedBlock setting a place (first_result blocks place) block

pub blocks_begin : (setting : Setting) (blocks : List Block) (a : Assigned) → BlocksTo setting blocks a 0 0
blocks_begin setting blocks a = record { numbered = sym (first_zero blocks); closed = λ place block less is. absurd (omega (arith, less)) }

pub blocks_more : (setting : Setting) (blocks : List Block) (a : Assigned) (n first next count : ℕ) (block : Block) → BlocksTo setting blocks a n first → slice_get blocks n ≡ Some block
    → (IsTrue (is_reached a n) → IsClosedBlock setting a n first block) → count ≡ length (block_results block) → next ≡ first + count → BlocksTo setting blocks a (n + 1) next
blocks_more setting blocks a n first next count block h is closed counted num = record {
  numbered = omega (arith, num, counted, h.numbered, first_next blocks n block is);
  closed = λ place other less at here. elim (is_or_not place n) [
    | inl e ↦
        let one : block ≡ other = some_is (sym is ∙ sym (ap (slice_get blocks) e) ∙ at) in
        let at_n : IsClosedBlock setting a n (first_result blocks n) block = subst (λ m. IsClosedBlock setting a n m block) h.numbered (closed (subst (λ m. is_reached a m ≡ true) e here)) in
        subst (λ d. IsClosedBlock setting a place (first_result blocks place) d) one (subst (λ m. IsClosedBlock setting a m (first_result blocks m) block) (sym e) at_n)
    | inr ne ↦ h.closed place other (omega (arith, less, ne)) at here
  ];
}

pub blocks_done : (setting : Setting) (blocks : List Block) (a : Assigned) (n first : ℕ) → length blocks ≤ n → BlocksTo setting blocks a n first → IsClosed setting blocks a
blocks_done setting blocks a n first all h place block is here = h.closed place block (omega (arith, all, within blocks place block is)) is here

-- where all are closed, so is one
pub blocks_one : (setting : Setting) (blocks : List Block) (a : Assigned) (n first : ℕ) (block : Block) → BlocksTo setting blocks a n first → slice_get blocks n ≡ Some block → IsClosed setting blocks a
    → IsTrue (is_reached a n) → IsClosedBlock setting a n first block
blocks_one setting blocks a n first block h is all here = subst (λ m. IsClosedBlock setting a n m block) (sym h.numbered) (all n block is here)
