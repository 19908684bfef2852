-- The law on results of reached blocks.
use Rattle.std.proofs.Common.{◌≡◌, ◌∙◌, ℕ, suc, ◌<◌, true, List, [], Option, None, Some, Contains, length, map, refl, sym, ap, subst, arith}
use Rattle.std.specs.Prelude.{◌==◌, slice_get, IfSome, IsTrue, option_map, count_by}
use Rattle.std.proofs.lemmas.Bool.{eqb-true, eq-eqb}
use Rattle.std.proofs.lemmas.Option.{none-some, slice_get-map}
use Rattle.ir_types.specs.declared.scalar.Known.{Known}
use Rattle.ir_types.specs.declared.scalar.Scalar.{Scalar}
use Rattle.ir_syntax.specs.declared.item.Item.{Item}
use Rattle.ir_types.proofs.ListSteps.{All-at}
use Rattle.ir_syntax.specs.declared.constant.Operand.{Operand}
use Rattle.ir_syntax.specs.declared.body.Phi.{Phi}
use Rattle.ir_syntax.specs.declared.body.Block.{Block}
use Rattle.ir_syntax.specs.declared.body.Body.{Body}
use Rattle.ir_syntax.specs.declared.item.Func.{Func}
use Rattle.ir_syntax.specs.Edges.{successors, successors_of, Leads, edges}
use Rattle.ir_syntax.specs.Definite.{Defines, DefiniteBody, first_result}
use Rattle.ir_syntax.specs.FormedBody.{FormedBody, FormedBlock, FormedPhi, places_of}
use Rattle.ir_syntax.specs.Results.{results}
use Rattle.ir_syntax.specs.SoundFunctions.{IsSoundFunction}
use Rattle.ir_syntax.specs.Typed.{Types, TypedBody, TypedBlock, TypedPhi}
use Rattle.fold_facts.specs.declared.edge.Edge.{Edge}
use Rattle.fold_facts.specs.declared.fact.Fact.{Fact}
use Rattle.fold_facts.specs.declared.fact.Fact.TheVariants.{Unreached}
use Rattle.fold_facts.specs.Assigned.{Assigned, fact_of, edges_at, is_reached, IsReachedEdge}
use Rattle.fold_facts.specs.Operands.{Setting}
use Rattle.fold_facts.specs.Closed.{IsClosed, IsLeastClosed}
use Rattle.fold_facts.specs.Places.{blocks_in, blocks_of}
use Rattle.fold_facts.specs.OfFunction.{IsAssignmentIn, IsAssignmentOf}
use Rattle.fold_facts.proofs.Lists.{some_is, there, get_map}
use Rattle.fold_facts.proofs.Paths.{paths_lead}
use Rattle.fold_facts.proofs.Valued.{IsValued}
use Rattle.fold_facts.proofs.Arriving.{IsWalked, place_in, in_place, counted, counts, path_valued}

-- a reached edge is one of the body
edge_leads : (blocks : List Block) (a : Assigned) (from k to : ℕ) → IsAssignmentIn blocks a → IsReachedEdge a from k to → Leads blocks from to
edge_leads blocks a from k to fits e = by (slice_get a.edges from) (slice_get blocks from) refl refl e
  where
    same : option_map (λ (es : List Edge). map (λ edge. edge.to) es) (slice_get a.edges from) ≡ option_map (λ (b : Block). successors b.term) (slice_get blocks from)
    same = sym (slice_get-map (λ (es : List Edge). map (λ edge. edge.to) es) a.edges from) ∙ ap (λ (l : List (List ℕ)). slice_get l from) fits.edges ∙ slice_get-map (λ (b : Block). successors b.term) blocks from

    goes : (es : List Edge) → option_map (λ (x : List Edge). map (λ edge. edge.to) x) (Some es) ≡ option_map (λ (b : Block). successors b.term) (slice_get blocks from)
        → (o : Option Block) → slice_get blocks from ≡ o → slice_get es k ≡ Some (record { to = to; reached = true }) → Leads blocks from to
    goes es h None is at = absurd (none-some (map (λ (edge : Edge). edge.to) es) (sym (h ∙ ap (option_map (λ (b : Block). successors b.term)) is)))
    goes es h (Some b) is at =
        let tos : map (λ (edge : Edge). edge.to) es ≡ successors b.term = some_is (h ∙ ap (option_map (λ (x : Block). successors x.term)) is) in
        let target : slice_get (successors b.term) k ≡ Some to = sym (ap (λ (l : List ℕ). slice_get l k) tos) ∙ get_map (λ (edge : Edge). edge.to) es k (record { to = to; reached = true }) at in
        subst (λ (o : Option Block). Contains (successors_of o) to) (sym is) (in_place (successors b.term) k to target)

    by : (o : Option (List Edge)) (p : Option Block) → slice_get a.edges from ≡ o → slice_get blocks from ≡ p → slice_get (edges_at (slice_get a.edges from)) k ≡ Some (record { to = to; reached = true }) → Leads blocks from to
    by None p e q at = absurd (none-some (record { to = to; reached = true }) (ap (λ (x : Option (List Edge)). slice_get (edges_at x) k) (sym e) ∙ at))
    by (Some es) p e q at = goes es (ap (option_map (λ (x : List Edge). map (λ edge. edge.to) x)) (sym e) ∙ same) p q (ap (λ (x : Option (List Edge)). slice_get (edges_at x) k) (sym e) ∙ at)

typed_phi : (types : Types) (returns : Option Scalar) (blocks : List Block) (place k : ℕ) (block : Block) (phi : Phi) → TypedBody types returns blocks → slice_get blocks place ≡ Some block → slice_get block.phis k ≡ Some phi → TypedPhi types blocks place phi
typed_phi types returns blocks place k block phi t here is =
    let b : TypedBlock types returns blocks place block = subst (λ (o : Option Block). IfSome o (TypedBlock types returns blocks place)) here (t.each place) in
    All-at (TypedPhi types blocks place) block.phis k phi b.phis is

walked : (setting : Setting) (types : Types) (returns : Option Scalar) (items : List Item) (params : ℕ) (body : Body) (a : Assigned) → FormedBody items params body → TypedBody types returns body.blocks
    → DefiniteBody body → IsAssignmentIn body.blocks a → IsClosed setting body.blocks a → IsWalked setting body.blocks a
walked setting types returns items params body a formed typed definite fits closed = record {
  closed = closed;
  leads = λ from k to e. edge_leads body.blocks a from k to fits e;
  definite = definite;
  entries = λ place k block phi from here is lead.
      let phis = typed_phi types returns body.blocks place k block phi typed here is in
      let one = place_in (successors_of (slice_get body.blocks from)) place lead in
      let some : 0 < edges body.blocks from place = counted (λ (p : ℕ). p == place) (successors_of (slice_get body.blocks from)) one.0 place one.1 (eq-eqb place place refl) in
      let found = counts (λ (entry : Operand × ℕ). entry.1 == from) phi.entries (subst (λ n. 0 < n) (sym (phis.edges from)) some) in
      (found.0, found.1, found.2, eqb-true found.1.1 from found.3);
  first = λ k block phi here is.
      let blocks : FormedBlock (places_of items params body) block = All-at (FormedBlock (places_of items params body)) body.blocks 0 block formed.has_blocks here in
      let formed_phi : FormedPhi (places_of items params body) phi = All-at (FormedPhi (places_of items params body)) block.phis k phi blocks.phis is in
      let phis = typed_phi types returns body.blocks 0 k block phi typed here is in
      let entry = there phi.entries 0 formed_phi.has_entry in
      let some : 0 < count_by (λ (e : Operand × ℕ). e.1 == entry.0.1) phi.entries = counted (λ (e : Operand × ℕ). e.1 == entry.0.1) phi.entries 0 entry.0 entry.1 (eq-eqb entry.0.1 entry.0.1 refl) in
      let none : edges body.blocks entry.0.1 0 ≡ 0 = typed.not_entered entry.0.1 in
      let same : count_by (λ (e : Operand × ℕ). e.1 == entry.0.1) phi.entries ≡ edges body.blocks entry.0.1 0 = phis.edges entry.0.1 in
      omega (arith, some, none, same);
}

not_unreached : (x : Fact) → IsValued x → x ≡ Unreached → ⊥
not_unreached x v e = subst IsValued e v

-- No result of a reached block is Unreached in the least closed assignment.
pub reached_known : (func : Func) (known : List Known) (a : Assigned) (place k : ℕ) → IsSoundFunction func → IsAssignmentOf func a → IsLeastClosed (record { known = known }) (blocks_of func) a → IsTrue (is_reached a place)
    → Defines (blocks_of func) place k → fact_of a.facts k ≡ Unreached → ⊥
reached_known func known a place k sound fits least reached defines unreached = by func.body refl
  where
    in_body : (body : Body) → func.body ≡ Some body → ⊥
    in_body body e =
        let formed : FormedBody sound.items (length func.params) body = subst (λ (o : Option Body). IfSome o (FormedBody sound.items (length func.params))) e sound.formed.has_body in
        let typed : TypedBody (record { items = sound.items; params = map (λ param. param.ty) func.params; results = results body }) func.returns body.blocks =
        subst (λ (o : Option Body). IfSome o (λ b. TypedBody (record { items = sound.items; params = map (λ param. param.ty) func.params; results = results b }) func.returns b.blocks)) e sound.typed.has_body in
        let definite : DefiniteBody body = subst (λ (o : Option Body). IfSome o DefiniteBody) e sound.definite in
        let fit : IsAssignmentIn body.blocks a = subst (λ (o : Option Body). IsAssignmentIn (blocks_in o) a) e fits in
        let closed : IsLeastClosed (record { known = known }) body.blocks a = subst (λ (o : Option Body). IsLeastClosed (record { known = known }) (blocks_in o) a) e least in
        let at : Defines body.blocks place k = subst (λ (o : Option Body). Defines (blocks_in o) place k) e defines in
        let w = walked (record { known = known }) (record { items = sound.items; params = map (λ param. param.ty) func.params; results = results body }) func.returns sound.items (length func.params) body a formed typed definite fit closed.closed in
        paths_lead (record { known = known }) body.blocks a place closed reached
        (λ p. not_unreached (fact_of a.facts k) (path_valued (record { known = known }) body.blocks a place p.visited k w p.path at) unreached)

    by : (o : Option Body) → func.body ≡ o → ⊥
    by None e = nothing place (subst (λ (o : Option Body). Defines (blocks_in o) place k) e defines)
      where
        nothing : (q : ℕ) → Defines [] q k → ⊥
        nothing q d = absurd (none q d.1)
          where
            none : (q : ℕ) → k < first_result [] (suc q) → ⊥
            none q h = omega (arith, h)
    by (Some body) e = in_body body e
