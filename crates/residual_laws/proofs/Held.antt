-- What holds of a body and an assignment by which it is left.
use Rattle.std.proofs.Common.{◌≡◌, ◌∙◌, inl, inr, ℕ, zero, suc, ◌<◌, Bool, true, false, List, [], ◌∷◌, Option, Some, All, Contains, length, map, refl, ap, sym, subst, arith}
use Rattle.std.specs.Prelude.{◌==◌, slice_get, IfSome, count_by}
use Rattle.std.specs.List.{AllZip}
use Rattle.std.proofs.lemmas.Bool.{eqb-true, eq-eqb, false≢true}
use Rattle.std.proofs.lemmas.Option.{none-some}
use Rattle.ir_types.specs.declared.scalar.Known.{Known}
use Rattle.ir_types.specs.declared.scalar.Scalar.{Scalar}
use Rattle.ir_types.proofs.ListSteps.{All-at}
use Rattle.ir_syntax.specs.declared.constant.Operand.{Operand}
use Rattle.ir_syntax.specs.declared.body.Phi.{Phi}
use Rattle.ir_syntax.specs.declared.body.Block.{Block}
use Rattle.ir_syntax.specs.declared.body.Body.{Body}
use Rattle.ir_syntax.specs.declared.item.Func.{Func}
use Rattle.ir_syntax.specs.declared.item.Item.{Item}
use Rattle.ir_syntax.specs.declared.item.Param.{Param}
use Rattle.ir_syntax.specs.Edges.{successors, successors_of, Leads, edges}
use Rattle.ir_syntax.specs.Definite.{uses, IsPath, IsSurelyDefined, DefiniteBody}
use Rattle.ir_syntax.specs.FormedBody.{FormedBody, FormedBlock, FormedPhi, places_of}
use Rattle.ir_syntax.specs.Results.{results}
use Rattle.ir_syntax.specs.Typed.{Types, TypedBody, TypedBlock, TypedPhi}
use Rattle.fold_facts.specs.declared.edge.Edge.{Edge}
use Rattle.fold_facts.specs.Assigned.{Assigned, edges_at, edges_from, is_reached, IsReachedEdge}
use Rattle.fold_facts.specs.Operands.{Setting, known_fact, param_fact}
use Rattle.fold_facts.specs.Closed.{IsClosed}
use Rattle.fold_facts.specs.Places.{blocks_in}
use Rattle.fold_facts.specs.OfFunction.{IsFactOf, IsAssignmentIn}
use Rattle.fold_facts.proofs.Lists.{some_is, there, get_map}
use Rattle.fold_facts.proofs.Visits.{edges_are, blocks_long}
use Rattle.fold_facts.proofs.Reaching.{reached_by, reached_when, first_reached}
use Rattle.fold_facts.proofs.Paths.{IsReachedPath, IsPathTo}
use Rattle.fold_facts.proofs.Arriving.{IsWalked, place_in, in_place, counted, counts}
use Rattle.residual_laws.specs.Left.{IsWay, IsLedTo, IsLeft}

pub record Held (items : List Item) (params : List Scalar) (returns : Option Scalar) (known : List Known) (body : Body) (a : Assigned) : Type 0 where
  pub formed : FormedBody items (length params) body
  pub typed : TypedBody (record { items = items; params = params; results = results body }) returns body.blocks
  pub definite : All (IsSurelyDefined body.blocks) (uses body.blocks)
  pub of : IsAssignmentIn body.blocks a
  pub closed : IsClosed (record { known = known }) body.blocks a
  pub led : (from k to : ℕ) → IsReachedEdge a from k to → IsLedTo a from
  pub knows : (k : ℕ) (ty : Scalar) → slice_get params k ≡ Some ty → IsFactOf ty (param_fact (slice_get known k))

-- ---- of a function

param_suits : (params : List Param) (known : List Known) → AllZip (λ param item. IsFactOf param.ty (known_fact item)) params known
    → (k : ℕ) (ty : Scalar) → slice_get (map (λ param. param.ty) params) k ≡ Some ty → IsFactOf ty (param_fact (slice_get known k))
param_suits [] known h k ty is = absurd (none-some ty is)
param_suits (p ∷ ps) [] h k ty is = absurd h
param_suits (p ∷ ps) (item ∷ items) h zero ty is = subst (λ t. IsFactOf t (known_fact item)) (some_is is) h.0
param_suits (p ∷ ps) (item ∷ items) h (suc k) ty is = param_suits ps items h.1 k ty is

params_long : (params : List Param) → length params ≡ length (map (λ param. param.ty) params)
params_long [] = refl
params_long (p ∷ ps) = ap suc (params_long ps)

pub held : (items : List Item) (known : List Known) (func : Func) (a : Assigned) (body : Body) → IsLeft items known func a → func.body ≡ Some body → Held items (map (λ param. param.ty) func.params) func.returns known body a
held items known func a body h e = record {
  formed = subst (λ (n : ℕ). FormedBody items n body) (params_long func.params) (subst (λ (o : Option Body). IfSome o (FormedBody items (length func.params))) e h.sound.formed.has_body);
  typed = subst (λ (o : Option Body). IfSome o (λ b. TypedBody (record { items = items; params = map (λ param. param.ty) func.params; results = results b }) func.returns b.blocks)) e h.sound.typed.has_body;
  definite = subst (λ (o : Option Body). IfSome o DefiniteBody) e h.sound.definite;
  of = subst (λ (o : Option Body). IsAssignmentIn (blocks_in o) a) e h.of;
  closed = subst (λ (o : Option Body). IsClosed (record { known = known }) (blocks_in o) a) e h.closed;
  led = h.led;
  knows = param_suits func.params known h.knows;
}

-- ---- edges

-- A reached edge is one of its block's.
pub record IsEdgeOf (blocks : List Block) (from k to : ℕ) : Type 0 where
  pub block : Block
  pub here : slice_get blocks from ≡ Some block
  pub goes : slice_get (successors block.term) k ≡ Some to

abbrev reached_to : ℕ → Edge
reached_to to = record { to = to; reached = true }

edge_within : (all : List (List Edge)) (from k to : ℕ) → slice_get (edges_at (slice_get all from)) k ≡ Some (reached_to to) → from < length all
edge_within [] from k to h = absurd (none-some (reached_to to) h)
edge_within (es ∷ more) zero k to h = omega arith
edge_within (es ∷ more) (suc from) k to h = omega (arith, edge_within more from k to h)

pub edge_of : (blocks : List Block) (a : Assigned) (from k to : ℕ) → IsAssignmentIn blocks a → IsReachedEdge a from k to → IsEdgeOf blocks from k to
edge_of blocks a from k to of e =
    let found = there blocks from (let less : from < length a.edges = edge_within a.edges from k to e in omega (arith, less, blocks_long blocks a of)) in
    record {
      block = found.0;
      here = found.1;
      goes = sym (ap (λ (l : List ℕ). slice_get l k) (edges_are blocks a from found.0 of found.1)) ∙ get_map (λ (edge : Edge). edge.to) (edges_from a from) k (reached_to to) e;
    }

edge_leads : (blocks : List Block) (a : Assigned) (from k to : ℕ) → IsAssignmentIn blocks a → IsReachedEdge a from k to → Leads blocks from to
edge_leads blocks a from k to of e =
    let one = edge_of blocks a from k to of e in
    subst (λ (o : Option Block). Contains (successors_of o) to) (sym one.here) (in_place (successors one.block.term) k to one.goes)

-- ---- walks

pub typed_phi : (types : Types) (returns : Option Scalar) (blocks : List Block) (place k : ℕ) (block : Block) (phi : Phi) → TypedBody types returns blocks → slice_get blocks place ≡ Some block → slice_get block.phis k ≡ Some phi
    → TypedPhi types blocks place phi
typed_phi types returns blocks place k block phi t here is =
    let b : TypedBlock types returns blocks place block = subst (λ (o : Option Block). IfSome o (TypedBlock types returns blocks place)) here (t.each place) in
    All-at (TypedPhi types blocks place) block.phis k phi b.phis is

pub walked : (items : List Item) (params : List Scalar) (returns : Option Scalar) (known : List Known) (body : Body) (a : Assigned) → Held items params returns known body a → IsWalked (record { known = known }) body.blocks a
walked items params returns known body a h = record {
  closed = h.closed;
  leads = λ from k to e. edge_leads body.blocks a from k to h.of e;
  definite = h.definite;
  entries = λ place k block phi from here is lead.
      let phis = typed_phi (record { items = items; params = params; results = results body }) returns body.blocks place k block phi h.typed here is in
      let one = place_in (successors_of (slice_get body.blocks from)) place lead in
      let some : 0 < edges body.blocks from place = counted (λ (p : ℕ). p == place) (successors_of (slice_get body.blocks from)) one.0 place one.1 (eq-eqb place place refl) in
      let found = counts (λ (entry : Operand × ℕ). entry.1 == from) phi.entries (subst (λ n. 0 < n) (sym (phis.edges from)) some) in
      (found.0, found.1, found.2, eqb-true found.1.1 from found.3);
  first = λ k block phi here is.
      let blocks : FormedBlock (places_of items (length params) body) block = All-at (FormedBlock (places_of items (length params) body)) body.blocks 0 block h.formed.has_blocks here in
      let formed_phi : FormedPhi (places_of items (length params) body) phi = All-at (FormedPhi (places_of items (length params) body)) block.phis k phi blocks.phis is in
      let phis = typed_phi (record { items = items; params = params; results = results body }) returns body.blocks 0 k block phi h.typed here is in
      let entry = there phi.entries 0 formed_phi.has_entry in
      let some : 0 < count_by (λ (e : Operand × ℕ). e.1 == entry.0.1) phi.entries = counted (λ (e : Operand × ℕ). e.1 == entry.0.1) phi.entries 0 entry.0 entry.1 (eq-eqb entry.0.1 entry.0.1 refl) in
      let none : edges body.blocks entry.0.1 0 ≡ 0 = h.typed.not_entered entry.0.1 in
      let same : count_by (λ (e : Operand × ℕ). e.1 == entry.0.1) phi.entries ≡ edges body.blocks entry.0.1 0 = phis.edges entry.0.1 in
      omega (arith, some, none, same);
}

pub path_is : (setting : Setting) (blocks : List Block) (a : Assigned) (path : List ℕ) → IsWalked setting blocks a → IsReachedPath a path → IsPath blocks path
path_is setting blocks a [] w p = p
path_is setting blocks a (place ∷ []) w p = p
path_is setting blocks a (place ∷ from ∷ more) w p = (w.leads from p.0.0 place p.0.1, path_is setting blocks a (from ∷ more) w p.1)

-- ---- paths

way_path : (a : Assigned) (way : List ℕ) → IsWay a way → IsReachedPath a way
way_path a [] w = w
way_path a (place ∷ []) w = w
way_path a (place ∷ from ∷ more) w = (w.0, way_path a (from ∷ more) w.1)

pub path_reached : (a : Assigned) (place : ℕ) (visited : List ℕ) → IsReachedPath a (place ∷ visited) → is_reached a place ≡ true
path_reached a place [] p = subst (λ n. is_reached a n ≡ true) (sym p) (first_reached a)
path_reached a place (from ∷ more) p = reached_when a from p.0.0 place p.0.1

pub stable : (b : Bool) → ((b ≡ true → ⊥) → ⊥) → b ≡ true
stable true h = refl
stable false h = absurd (h (λ e. false≢true e))

-- It can't be that no path leads to a reached block.
pub some_path : (a : Assigned) → ((from k to : ℕ) → IsReachedEdge a from k to → IsLedTo a from) → (place : ℕ) → is_reached a place ≡ true → (IsPathTo a place → ⊥) → ⊥
some_path a led place r never = elim (reached_by a place r) [
  | inl first ↦ never (record { visited = []; path = first })
  | inr (from, k, e) ↦ led from k place e (λ visited way. never (record { visited = from ∷ visited; path = ((k, e), way_path a (from ∷ visited) way) }))
]

-- and a reached edge begins in a reached block
pub start_reached : (a : Assigned) → ((from k to : ℕ) → IsReachedEdge a from k to → IsLedTo a from) → (from k to : ℕ) → IsReachedEdge a from k to → is_reached a from ≡ true
start_reached a led from k to e = stable (is_reached a from) (λ never. led from k to e (λ visited way. never (path_reached a from visited (way_path a (from ∷ visited) way))))
