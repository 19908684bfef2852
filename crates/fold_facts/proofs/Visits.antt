-- Visits of the places of a reached block, one after another.
use Rattle.std.proofs.Common.{◌≡◌, ◌∙◌, inl, inr, ℕ, ◌+◌, ◌<◌, ◌≤◌, Bool, true, false, cond, List, [], ◌∷◌, Option, None, Some, length, map, take, refl, sym, ap, subst, arith}
use Rattle.std.specs.Prelude.{◌||◌, ◌&&◌, not, slice_get, IsSome, IsTrue, IsFalse, is_some, MatchBool, IfSome}
use Rattle.std.proofs.lemmas.Bool.{false≢true}
use Rattle.std.proofs.lemmas.List.{length-map}
use Rattle.ir_types.specs.declared.scalar.Scalar.{Scalar}
use Rattle.ir_syntax.specs.declared.body.Inst.{Inst}
use Rattle.ir_syntax.specs.declared.body.Phi.{Phi}
use Rattle.ir_syntax.specs.declared.body.Block.{Block}
use Rattle.ir_syntax.specs.Edges.{successors}
use Rattle.ir_syntax.specs.Results.{result_type, block_results}
use Rattle.ir_syntax.specs.Definite.{first_result, has_result}
use Rattle.fold_facts.specs.declared.fact.Fact.{Fact}
use Rattle.fold_facts.specs.declared.edge.Edge.{Edge}
use Rattle.fold_facts.specs.declared.said.Edges.{Edges}
use Rattle.fold_facts.specs.Facts.{IsBelow}
use Rattle.fold_facts.specs.Assigned.{Assigned, fact_of, edges_at, edges_from, IsReachedEdge, is_reached, IsAtMost}
use Rattle.fold_facts.specs.Operands.{Setting}
use Rattle.fold_facts.specs.Instructions.{inst_fact}
use Rattle.fold_facts.specs.Phis.{phi_fact}
use Rattle.fold_facts.specs.Terminators.{asks, term_edges}
use Rattle.fold_facts.specs.Closed.{inst_result, ArePhisClosed, AreInstsClosed, AreEdgesClosed, IsClosedBlock, IsClosed}
use Rattle.fold_facts.specs.OfFunction.{IsFactOf, IsAssignmentIn, results_in}
use Rattle.fold_facts.specs.Raising.{with_fact, with_edge, IsVisit, Raises}
use Rattle.fold_facts.proofs.Lists.{some_is, is_or_not, there, within, get_map, of_map, zip_length}
use Rattle.fold_facts.proofs.Numbers.{first_zero, result_in, first_next, block_within, phi_result, phis_first, types, types_next, types_most, inst_typed}
use Rattle.fold_facts.proofs.Orders.{below_trans}
use Rattle.fold_facts.proofs.Raised.{at_most_trans, raises_none, raises_both, raises_fact, raises_edge, IsSaid}
use Rattle.fold_facts.proofs.Reaching.{reached_rises}
use Rattle.fold_facts.proofs.Rising.{phi_rises, inst_rises, term_rises}

-- A visit goes on with the assignment as it was raised.
pub visit_goes : (setting : Setting) (blocks : List Block) (a b : Assigned) (place first : ℕ) (block : Block) (changed : Bool) → IsVisit setting blocks a place first block → Raises setting blocks a b changed → IsVisit setting blocks b place first block
visit_goes setting blocks a b place first block changed v r = record {
  there = v.there;
  numbered = v.numbered;
  reached = reached_rises a b r.above place v.reached;
  fits = r.fits;
  few = v.few;
  typed = v.typed;
}

-- what an assignment above that is closed has of the block
pub closed_above : (setting : Setting) (blocks : List Block) (a other : Assigned) (place first : ℕ) (block : Block) → IsVisit setting blocks a place first block → IsClosed setting blocks other → IsAtMost a other → IsClosedBlock setting other place first block
closed_above setting blocks a other place first block v closed less =
    subst (λ n. IsClosedBlock setting other place n block) (sym v.numbered) (closed place block v.there (reached_rises a other less place v.reached))

pub facts_long : (blocks : List Block) (a : Assigned) → IsAssignmentIn blocks a → length a.facts ≡ length (results_in blocks)
facts_long blocks a fits = zip_length IsFactOf (results_in blocks) a.facts fits.facts

or_none : (x y : Bool) → (x || y) ≡ false → (x ≡ false) × (y ≡ false)
or_none true y h = absurd (false≢true (sym h))
or_none false y h = (refl, h)

below_when : (said fact : Fact) (raised : Bool) → MatchBool (not raised) (IsBelow said fact) (IsBelow said fact → ⊥) → raised ≡ false → IsBelow said fact
below_when said fact true test h = absurd (false≢true (sym h))
below_when said fact false test h = test

-- ---- phis

-- the first n phis have been visited
pub record PhisRaised (setting : Setting) (blocks : List Block) (a b : Assigned) (place first n : ℕ) (block : Block) (changed : Bool) : Type 0 where
  pub raises : Raises setting blocks a b changed
  pub closed : IsFalse changed → (k : ℕ) (phi : Phi) → k < n → slice_get block.phis k ≡ Some phi → IsBelow (phi_fact setting a place phi) (fact_of a.facts (first + k))

pub phis_start : (setting : Setting) (blocks : List Block) (a : Assigned) (place first : ℕ) (block : Block) → IsAssignmentIn blocks a → PhisRaised setting blocks a a place first 0 block false
phis_start setting blocks a place first block fits = record { raises = raises_none setting blocks a fits; closed = λ f k phi less is. absurd (omega (arith, less)) }

-- the number of a phi's result is that of a fact
pub phi_there : (setting : Setting) (blocks : List Block) (a : Assigned) (place first k : ℕ) (block : Block) (phi : Phi) → IsVisit setting blocks a place first block → slice_get block.phis k ≡ Some phi
    → slice_get (results_in blocks) (first + k) ≡ Some phi.ty
phi_there setting blocks a place first k block phi v is = subst (λ n. slice_get (results_in blocks) (n + k) ≡ Some phi.ty) (sym v.numbered) (result_in blocks place block k phi.ty v.there (phi_result block k phi is))

pub phi_said : (setting : Setting) (blocks : List Block) (b : Assigned) (place first n : ℕ) (block : Block) (phi : Phi) → IsVisit setting blocks b place first block → slice_get block.phis n ≡ Some phi
    → IsSaid setting blocks b (first + n) phi.ty (phi_fact setting b place phi)
phi_said setting blocks b place first n block phi v is = record {
  there = phi_there setting blocks b place first n block phi v is;
  suits = v.typed.phis b v.fits.facts place n phi is;
  least = λ other closed less. below_trans (phi_fact setting b place phi) (phi_fact setting other place phi) (fact_of other.facts (first + n))
      (phi_rises setting b other less place phi) ((closed_above setting blocks b other place first block v closed less).phis n phi is);
}

pub phis_step : (setting : Setting) (blocks : List Block) (a b c : Assigned) (place first n : ℕ) (block : Block) (phi : Phi) (said : Fact) (changed raised : Bool)
    → IsVisit setting blocks a place first block → PhisRaised setting blocks a b place first n block changed → slice_get block.phis n ≡ Some phi
    → said ≡ phi_fact setting b place phi → c ≡ with_fact b (first + n) said
    → MatchBool (not raised) (IsBelow said (fact_of b.facts (first + n))) (IsBelow said (fact_of b.facts (first + n)) → ⊥)
    → PhisRaised setting blocks a c place first (n + 1) block (changed || raised)
phis_step setting blocks a b c place first n block phi said changed raised v before is says made test =
    let next = visit_goes setting blocks a b place first block changed v before.raises in
    let here : IsSaid setting blocks b (first + n) phi.ty said = subst (IsSaid setting blocks b (first + n) phi.ty) (sym says) (phi_said setting blocks b place first n block phi next is) in
    let step : Raises setting blocks b c raised = subst (λ d. Raises setting blocks b d raised) (sym made) (raises_fact setting blocks b (first + n) said phi.ty raised next.fits here test) in
    record {
      raises = raises_both setting blocks a b c changed raised before.raises step;
      closed = λ f k other less at.
          let none = or_none changed raised f in
          let same : b ≡ a = before.raises.same none.0 in
          elim (is_or_not k n) [
            | inl e ↦
                let one : other ≡ phi = some_is (sym at ∙ ap (slice_get block.phis) e ∙ is) in
                let low : IsBelow (phi_fact setting b place phi) (fact_of b.facts (first + n)) = subst (λ x. IsBelow x (fact_of b.facts (first + n))) says (below_when said (fact_of b.facts (first + n)) raised test none.1) in
                let low_a : IsBelow (phi_fact setting a place phi) (fact_of a.facts (first + n)) = subst (λ d. IsBelow (phi_fact setting d place phi) (fact_of d.facts (first + n))) same low in
                subst (λ p. IsBelow (phi_fact setting a place p) (fact_of a.facts (first + k))) (sym one) (subst (λ m. IsBelow (phi_fact setting a place phi) (fact_of a.facts (first + m))) (sym e) low_a)
            | inr ne ↦ before.closed none.0 k other (omega (arith, less, ne)) at
          ];
    }

pub phis_end : (setting : Setting) (blocks : List Block) (a b : Assigned) (place first n : ℕ) (block : Block) (changed : Bool) → length block.phis ≤ n → PhisRaised setting blocks a b place first n block changed → IsFalse changed → ArePhisClosed setting a place first block
phis_end setting blocks a b place first n block changed all h f k phi is = h.closed f k phi (omega (arith, all, within block.phis k phi is)) is

-- ---- other instructions

-- the first n instructions have been visited, and the next result is of a number
pub record InstsRaised (setting : Setting) (blocks : List Block) (a b : Assigned) (first n number : ℕ) (block : Block) (changed : Bool) : Type 0 where
  pub raises : Raises setting blocks a b changed
  pub numbered : number ≡ inst_result block.insts (first + length block.phis) n
  pub closed : IsFalse changed → (k : ℕ) (i : Inst) → k < n → slice_get block.insts k ≡ Some i → IsSome (result_type i)
      → IsBelow (inst_fact setting a.facts i) (fact_of a.facts (inst_result block.insts (first + length block.phis) k))

pub insts_start : (setting : Setting) (blocks : List Block) (a : Assigned) (first number : ℕ) (block : Block) → IsAssignmentIn blocks a → number ≡ first + length block.phis → InstsRaised setting blocks a a first 0 number block false
insts_start setting blocks a first number block fits is = record {
  raises = raises_none setting blocks a fits;
  numbered = let none : length (types (take 0 block.insts)) ≡ 0 = none_taken block.insts in omega (arith, is, none);
  closed = λ f k i less at. absurd (omega (arith, less));
}
  where
    none_taken : (insts : List Inst) → length (types (take 0 insts)) ≡ 0
    none_taken [] = refl
    none_taken (i ∷ more) = refl

pub inst_there : (setting : Setting) (blocks : List Block) (a : Assigned) (place first n : ℕ) (block : Block) (i : Inst) (ty : Scalar) → IsVisit setting blocks a place first block → slice_get block.insts n ≡ Some i → result_type i ≡ Some ty
    → slice_get (results_in blocks) (inst_result block.insts (first + length block.phis) n) ≡ Some ty
inst_there setting blocks a place first n block i ty v is typed =
    let e : first_result blocks place + (length block.phis + length (types (take n block.insts))) ≡ inst_result block.insts (first + length block.phis) n = omega (arith, v.numbered) in
    subst (λ m. slice_get (results_in blocks) m ≡ Some ty) e (result_in blocks place block (length block.phis + length (types (take n block.insts))) ty v.there (inst_typed block n i ty is typed))

pub inst_within : (setting : Setting) (blocks : List Block) (a b : Assigned) (place first n number : ℕ) (block : Block) (i : Inst) (changed : Bool) → IsVisit setting blocks a place first block
    → InstsRaised setting blocks a b first n number block changed → slice_get block.insts n ≡ Some i → IsSome (result_type i) → number < length b.facts
inst_within setting blocks a b place first n number block i changed v h is some = by (result_type i) refl some
  where
    by : (o : Option Scalar) → result_type i ≡ o → IsSome o → number < length b.facts
    by None e s = absurd (false≢true s)
    by (Some ty) e s =
        let next = visit_goes setting blocks a b place first block changed v h.raises in
        let less = within (results_in blocks) (inst_result block.insts (first + length block.phis) n) ty (inst_there setting blocks b place first n block i ty next is e) in
        omega (arith, less, h.numbered, facts_long blocks b next.fits)

pub inst_said : (setting : Setting) (blocks : List Block) (b : Assigned) (place first n : ℕ) (block : Block) (i : Inst) (ty : Scalar) → IsVisit setting blocks b place first block → slice_get block.insts n ≡ Some i → result_type i ≡ Some ty
    → IsSaid setting blocks b (inst_result block.insts (first + length block.phis) n) ty (inst_fact setting b.facts i)
inst_said setting blocks b place first n block i ty v is typed = record {
  there = inst_there setting blocks b place first n block i ty v is typed;
  suits = v.typed.insts b.facts v.fits.facts n i ty is typed;
  least = λ other closed less. below_trans (inst_fact setting b.facts i) (inst_fact setting other.facts i) (fact_of other.facts (inst_result block.insts (first + length block.phis) n))
      (inst_rises setting b.facts other.facts less.facts i) ((closed_above setting blocks b other place first block v closed less).insts n i is (ap is_some typed));
}

-- what a visit of an instruction does
pub record InstRaised (setting : Setting) (b c : Assigned) (number : ℕ) (i : Inst) (raised : Bool) : Type 0 where
  pub value : c ≡ cond (is_some (result_type i)) (with_fact b number (inst_fact setting b.facts i)) b
  pub none : result_type i ≡ None → raised ≡ false
  pub changed : IsSome (result_type i) → MatchBool (not raised) (IsBelow (inst_fact setting b.facts i) (fact_of b.facts number)) (IsBelow (inst_fact setting b.facts i) (fact_of b.facts number) → ⊥)

inst_raises : (setting : Setting) (blocks : List Block) (b c : Assigned) (place first n number : ℕ) (block : Block) (i : Inst) (raised : Bool) → IsVisit setting blocks b place first block → slice_get block.insts n ≡ Some i
    → number ≡ inst_result block.insts (first + length block.phis) n → InstRaised setting b c number i raised → Raises setting blocks b c raised
inst_raises setting blocks b c place first n number block i raised v is num h = by (result_type i) refl
  where
    by : (o : Option Scalar) → result_type i ≡ o → Raises setting blocks b c raised
    by None e =
        subst (λ d. Raises setting blocks b d raised) (sym (h.value ∙ ap (λ o. cond (is_some o) (with_fact b number (inst_fact setting b.facts i)) b) e)) (subst (Raises setting blocks b b) (sym (h.none e)) (raises_none setting blocks b v.fits))
    by (Some ty) e =
        let said : IsSaid setting blocks b number ty (inst_fact setting b.facts i) = subst (λ m. IsSaid setting blocks b m ty (inst_fact setting b.facts i)) (sym num) (inst_said setting blocks b place first n block i ty v is e) in
        subst (λ d. Raises setting blocks b d raised) (sym (h.value ∙ ap (λ o. cond (is_some o) (with_fact b number (inst_fact setting b.facts i)) b) e))
        (raises_fact setting blocks b number (inst_fact setting b.facts i) ty raised v.fits said (h.changed (ap is_some e)))

pub insts_step : (setting : Setting) (blocks : List Block) (a b c : Assigned) (place first n number next : ℕ) (block : Block) (i : Inst) (changed raised : Bool)
    → IsVisit setting blocks a place first block → InstsRaised setting blocks a b first n number block changed → slice_get block.insts n ≡ Some i
    → InstRaised setting b c number i raised → next ≡ number + has_result (result_type i)
    → InstsRaised setting blocks a c first (n + 1) next block (changed || raised)
insts_step setting blocks a b c place first n number next block i changed raised v before is made num =
    let goes = visit_goes setting blocks a b place first block changed v before.raises in
    record {
      raises = raises_both setting blocks a b c changed raised before.raises (inst_raises setting blocks b c place first n number block i raised goes is before.numbered made);
      numbered = omega (arith, num, before.numbered, types_next block.insts n i is);
      closed = λ f k other less at some.
          let none = or_none changed raised f in
          let same : b ≡ a = before.raises.same none.0 in
          elim (is_or_not k n) [
            | inl e ↦
                let one : other ≡ i = some_is (sym at ∙ ap (slice_get block.insts) e ∙ is) in
                let low : IsBelow (inst_fact setting b.facts i) (fact_of b.facts number) = below_when (inst_fact setting b.facts i) (fact_of b.facts number) raised (made.changed (subst (λ j. IsSome (result_type j)) one some)) none.1 in
                let low_a : IsBelow (inst_fact setting a.facts i) (fact_of a.facts number) = subst (λ d. IsBelow (inst_fact setting d.facts i) (fact_of d.facts number)) same low in
                let at_n : IsBelow (inst_fact setting a.facts i) (fact_of a.facts (inst_result block.insts (first + length block.phis) n)) = subst (λ m. IsBelow (inst_fact setting a.facts i) (fact_of a.facts m)) before.numbered low_a in
                subst (λ j. IsBelow (inst_fact setting a.facts j) (fact_of a.facts (inst_result block.insts (first + length block.phis) k))) (sym one)
                (subst (λ m. IsBelow (inst_fact setting a.facts i) (fact_of a.facts (inst_result block.insts (first + length block.phis) m))) (sym e) at_n)
            | inr ne ↦ before.closed none.0 k other (omega (arith, less, ne)) at some
          ];
    }

pub insts_end : (setting : Setting) (blocks : List Block) (a b : Assigned) (first n number : ℕ) (block : Block) (changed : Bool) → length block.insts ≤ n → InstsRaised setting blocks a b first n number block changed → IsFalse changed → AreInstsClosed setting a first block
insts_end setting blocks a b first n number block changed all h f k i is some = h.closed f k i (omega (arith, all, within block.insts k i is)) is some

-- ---- edges

-- the first n edges have been visited
pub record EdgesRaised (setting : Setting) (blocks : List Block) (a b : Assigned) (place n : ℕ) (block : Block) (asked : Edges) (changed : Bool) : Type 0 where
  pub raises : Raises setting blocks a b changed
  pub closed : IsFalse changed → (k to : ℕ) → k < n → slice_get (successors block.term) k ≡ Some to → IsTrue (asks asked k) → IsReachedEdge a place k to

pub edges_start : (setting : Setting) (blocks : List Block) (a : Assigned) (place : ℕ) (block : Block) (asked : Edges) → IsAssignmentIn blocks a → EdgesRaised setting blocks a a place 0 block asked false
edges_start setting blocks a place block asked fits = record { raises = raises_none setting blocks a fits; closed = λ f k to less is. absurd (omega (arith, less)) }

-- the edges that an assignment has of a block are those of its terminator
pub edges_are : (blocks : List Block) (a : Assigned) (place : ℕ) (block : Block) → IsAssignmentIn blocks a → slice_get blocks place ≡ Some block → map (λ edge. edge.to) (edges_from a place) ≡ successors block.term
edges_are blocks a place block fits is =
    let row = of_map (λ edges. map (λ edge. edge.to) edges) a.edges place (successors block.term)
    (ap (λ l. slice_get l place) fits.edges ∙ get_map (λ b. successors b.term) blocks place block is) in
    ap (λ o. map (λ edge. edge.to) (edges_at o)) row.1 ∙ row.2

pub edge_there : (blocks : List Block) (a : Assigned) (place k to : ℕ) (block : Block) → IsAssignmentIn blocks a → slice_get blocks place ≡ Some block → slice_get (successors block.term) k ≡ Some to
    → (e : Edge) × (slice_get (edges_from a place) k ≡ Some e) × (e.to ≡ to)
edge_there blocks a place k to block fits is at = of_map (λ edge. edge.to) (edges_from a place) k to (ap (λ l. slice_get l k) (edges_are blocks a place block fits is) ∙ at)

pub edge_is : (e : Edge) (to : ℕ) → e.to ≡ to → e.reached ≡ true → e ≡ record { to = to; reached = true }
edge_is e to h g = ap (λ k. record { to = k; reached = e.reached }) h ∙ ap (λ b. record { to = to; reached = b }) g

pub edges_step : (setting : Setting) (blocks : List Block) (a b c : Assigned) (place first n : ℕ) (block : Block) (asked : Edges) (changed raised : Bool)
    → IsVisit setting blocks a place first block → asked ≡ term_edges setting a.facts block.term → EdgesRaised setting blocks a b place n block asked changed → n < length (successors block.term)
    → IfSome (slice_get (edges_from b place) n) (λ edge. raised ≡ (asks asked n && not edge.reached))
    → IfSome (slice_get (edges_from b place) n) (λ edge. c ≡ cond (asks asked n && not edge.reached) (with_edge b place n edge.to) b)
    → EdgesRaised setting blocks a c place (n + 1) block asked (changed || raised)
edges_step setting blocks a b c place first n block asked changed raised v is before less flag value =
    let goes = visit_goes setting blocks a b place first block changed v before.raises in
    let to = there (successors block.term) n less in
    let edge = edge_there blocks b place n to.0 block goes.fits v.there to.1 in
    let flag_is : raised ≡ (asks asked n && not edge.0.reached) = subst (λ o. IfSome o (λ e. raised ≡ (asks asked n && not e.reached))) edge.1 flag in
    let made : c ≡ cond (asks asked n && not edge.0.reached) (with_edge b place n edge.0.to) b = subst (λ o. IfSome o (λ e. c ≡ cond (asks asked n && not e.reached) (with_edge b place n e.to) b)) edge.1 value in
    record {
      raises = raises_both setting blocks a b c changed raised before.raises (step goes edge.0 edge.1 to.0 (sym edge.2) to.1 flag_is made (asks asked n) refl);
      closed = λ f k t low at asking.
          let none = or_none changed raised f in
          let same : b ≡ a = before.raises.same none.0 in
          elim (is_or_not k n) [
            | inl e ↦
                let target : t ≡ to.0 = some_is (sym at ∙ ap (slice_get (successors block.term)) e ∙ to.1) in
                let asks_n : asks asked n ≡ true = subst (λ m. asks asked m ≡ true) e asking in
                let was : edge.0.reached ≡ true = reached_when (asks asked n) edge.0.reached asks_n (sym flag_is ∙ none.1) in
                let in_b : IsReachedEdge b place n t = edge.1 ∙ ap Some (edge_is edge.0 t (edge.2 ∙ sym target) was) in
                subst (λ m. IsReachedEdge a place m t) (sym e) (subst (λ d. IsReachedEdge d place n t) same in_b)
            | inr ne ↦ before.closed none.0 k t (omega (arith, low, ne)) at asking
          ];
    }
  where
    reached_when : (x y : Bool) → x ≡ true → (x && not y) ≡ false → y ≡ true
    reached_when true true h g = refl
    reached_when true false h g = absurd (false≢true (sym g))
    reached_when false y h g = absurd (false≢true h)

    least : (e : Edge) (t : ℕ) → slice_get (successors block.term) n ≡ Some t → t ≡ e.to → asks asked n ≡ true → (other : Assigned) → IsClosed setting blocks other → IsAtMost b other → IsReachedEdge other place n e.to
    least e t at is_to asking other closed low =
        let above : IsAtMost a other = at_most_trans a b other before.raises.above low in
        let asks_a : asks (term_edges setting a.facts block.term) n ≡ true = subst (λ x. asks x n ≡ true) is asking in
        let asks_other : asks (term_edges setting other.facts block.term) n ≡ true = term_rises setting a.facts other.facts above.facts block.term n asks_a in
        subst (IsReachedEdge other place n) is_to ((closed_above setting blocks a other place first block v closed above).edges n t at asks_other)

    step : IsVisit setting blocks b place first block → (e : Edge) → slice_get (edges_from b place) n ≡ Some e → (t : ℕ) → t ≡ e.to → slice_get (successors block.term) n ≡ Some t
        → raised ≡ (asks asked n && not e.reached) → c ≡ cond (asks asked n && not e.reached) (with_edge b place n e.to) b → (x : Bool) → asks asked n ≡ x → Raises setting blocks b c raised
    step goes e here t is_to at flag_is made false none =
        subst (λ d. Raises setting blocks b d raised) (sym (made ∙ ap (λ x. cond (x && not e.reached) (with_edge b place n e.to) b) none))
        (subst (Raises setting blocks b b) (sym (flag_is ∙ ap (λ x. x && not e.reached) none)) (raises_none setting blocks b goes.fits))
    step goes e here t is_to at flag_is made true asking =
        raises_edge setting blocks b c place n e raised goes.fits here (least e t at is_to asking) (flag_is ∙ ap (λ x. x && not e.reached) asking) (made ∙ ap (λ x. cond (x && not e.reached) (with_edge b place n e.to) b) asking ∙ swap e.reached)
      where
        swap : (x : Bool) → cond (not x) (with_edge b place n e.to) b ≡ cond x b (with_edge b place n e.to)
        swap true = refl
        swap false = refl

pub edges_end : (setting : Setting) (blocks : List Block) (a b : Assigned) (place n : ℕ) (block : Block) (asked : Edges) (changed : Bool) → length (successors block.term) ≤ n → asked ≡ term_edges setting a.facts block.term
    → EdgesRaised setting blocks a b place n block asked changed → IsFalse changed → AreEdgesClosed setting a place block
edges_end setting blocks a b place n block asked changed all is h f k to at asking = h.closed f k to (omega (arith, all, within (successors block.term) k to at)) at (subst (λ x. asks x k ≡ true) (sym is) asking)

-- ---- numbers that fit

pub phi_less : (setting : Setting) (blocks : List Block) (a : Assigned) (place first k : ℕ) (block : Block) (phi : Phi) → IsVisit setting blocks a place first block → slice_get block.phis k ≡ Some phi → first + k < length (results_in blocks)
phi_less setting blocks a place first k block phi v is = within (results_in blocks) (first + k) phi.ty (phi_there setting blocks a place first k block phi v is)

pub phi_less_facts : (setting : Setting) (blocks : List Block) (a b : Assigned) (place first k : ℕ) (block : Block) (phi : Phi) → IsVisit setting blocks a place first block → IsAssignmentIn blocks b → slice_get block.phis k ≡ Some phi → first + k < length b.facts
phi_less_facts setting blocks a b place first k block phi v fits is = omega (arith, phi_less setting blocks a place first k block phi v is, facts_long blocks b fits)

pub block_less : (setting : Setting) (blocks : List Block) (a : Assigned) (place first : ℕ) (block : Block) → IsVisit setting blocks a place first block → first + length (block_results block) ≤ length (results_in blocks)
block_less setting blocks a place first block v = omega (arith, v.numbered, block_within blocks place block v.there)

pub phis_less : (setting : Setting) (blocks : List Block) (a : Assigned) (place first : ℕ) (block : Block) → IsVisit setting blocks a place first block → first + length block.phis ≤ length (results_in blocks)
phis_less setting blocks a place first block v = omega (arith, phis_first block, block_less setting blocks a place first block v)

pub inst_less : (setting : Setting) (blocks : List Block) (a : Assigned) (place first n number : ℕ) (block : Block) (i : Inst) → IsVisit setting blocks a place first block → slice_get block.insts n ≡ Some i
    → number ≡ inst_result block.insts (first + length block.phis) n → number + has_result (result_type i) ≤ length (results_in blocks)
inst_less setting blocks a place first n number block i v is num =
    omega (arith, num, types_next block.insts n i is, types_most block.insts (n + 1), phis_first block, block_less setting blocks a place first block v)

pub edges_long : (blocks : List Block) (a : Assigned) (place : ℕ) (block : Block) → IsAssignmentIn blocks a → slice_get blocks place ≡ Some block → length (edges_from a place) ≡ length (successors block.term)
edges_long blocks a place block fits is =
    omega (arith, ap length (edges_are blocks a place block fits is), length-map (edges_from a place) (λ edge. edge.to))

pub blocks_long : (blocks : List Block) (a : Assigned) → IsAssignmentIn blocks a → length a.edges ≡ length blocks
blocks_long blocks a fits =
    omega (arith, ap length fits.edges, length-map a.edges (λ edges. map (λ edge. edge.to) edges), length-map blocks (λ block. successors block.term))

-- ---- all blocks

-- the first n blocks have been visited, and the results of the next begin with a number
pub record AllRaised (setting : Setting) (blocks : List Block) (a b : Assigned) (n first : ℕ) (changed : Bool) : Type 0 where
  pub raises : Raises setting blocks a b changed
  pub numbered : first ≡ first_result blocks n
  pub closed : IsFalse changed → (place : ℕ) (block : Block) → place < n → slice_get blocks place ≡ Some block → IsTrue (is_reached a place)
      → IsClosedBlock setting a place (first_result blocks place) block

pub all_start : (setting : Setting) (blocks : List Block) (a : Assigned) → IsAssignmentIn blocks a → AllRaised setting blocks a a 0 0 false
all_start setting blocks a fits = record {
  raises = raises_none setting blocks a fits;
  numbered = sym (first_zero blocks);
  closed = λ f place block less is. absurd (omega (arith, less));
}

pub all_step : (setting : Setting) (blocks : List Block) (a b c : Assigned) (n first next count : ℕ) (block : Block) (changed raised : Bool)
    → AllRaised setting blocks a b n first changed → slice_get blocks n ≡ Some block → Raises setting blocks b c raised
    → (IsFalse raised → IsTrue (is_reached b n) → IsClosedBlock setting b n first block) → count ≡ length (block_results block) → next ≡ first + count
    → AllRaised setting blocks a c (n + 1) next (changed || raised)
all_step setting blocks a b c n first next count block changed raised before is step closed counted num = record {
  raises = raises_both setting blocks a b c changed raised before.raises step;
  numbered = omega (arith, num, counted, before.numbered, first_next blocks n block is);
  closed = λ f place other less at here.
      let none = or_none changed raised f in
      let same : b ≡ a = before.raises.same none.0 in
      elim (is_or_not place n) [
        | inl e ↦
            let one : other ≡ block = some_is (sym at ∙ ap (slice_get blocks) e ∙ is) in
            let in_b : IsTrue (is_reached b n) = subst (λ d. is_reached d n ≡ true) (sym same) (subst (λ m. is_reached a m ≡ true) e here) in
            let at_n : IsClosedBlock setting a n (first_result blocks n) block = subst (λ m. IsClosedBlock setting a n m block) before.numbered (subst (λ d. IsClosedBlock setting d n first block) same (closed none.1 in_b)) in
            subst (λ d. IsClosedBlock setting a place (first_result blocks place) d) (sym one) (subst (λ m. IsClosedBlock setting a m (first_result blocks m) block) (sym e) at_n)
        | inr ne ↦ before.closed none.0 place other (omega (arith, less, ne)) at here
      ];
}

pub all_end : (setting : Setting) (blocks : List Block) (a b : Assigned) (n first : ℕ) (changed : Bool) → length blocks ≤ n → AllRaised setting blocks a b n first changed → IsFalse changed → IsClosed setting blocks a
all_end setting blocks a b n first changed all h f place block is here = h.closed f place block (omega (arith, all, within blocks place block is)) is here
