-- What is left of a body: which of its blocks, and where they go.
use Rattle.std.proofs.Common.{◌≡◌, ◌∙◌, ℕ, zero, suc, ◌+◌, ◌<◌, ◌≤◌, Bool, true, false, cond, List, [], ◌∷◌, Option, None, Some, Contains, length, map, refl, ap, sym, subst, arith}
use Rattle.std.specs.Prelude.{◌==◌, slice_get, IsTrue}
use Rattle.std.specs.List.{filter, enumerate_from}
use Rattle.std.proofs.lemmas.Bool.{eqb-true, false≢true}
use Rattle.std.proofs.lemmas.Option.{none-some}
use Rattle.ir_types.specs.declared.scalar.Known.{Known}
use Rattle.ir_types.specs.declared.scalar.Scalar.{Scalar}
use Rattle.ir_types.specs.Scalars.{is_number_of}
use Rattle.ir_types.proofs.ListSteps.{All-at}
use Rattle.ir_syntax.specs.declared.body.Term.{Term}
use Rattle.ir_syntax.specs.declared.body.Term.TheVariants as term
use Rattle.ir_syntax.specs.declared.body.Block.{Block}
use Rattle.ir_syntax.specs.declared.body.Body.{Body}
use Rattle.ir_syntax.specs.declared.item.Item.{Item}
use Rattle.ir_syntax.specs.Edges.{successors, successors_of, Leads}
use Rattle.ir_syntax.specs.Operands.{term_operands}
use Rattle.ir_syntax.specs.Definite.{first_result, IsPath}
use Rattle.ir_syntax.specs.FormedBody.{Places, FormedTerm, FormedBlock, places_of}
use Rattle.fold_facts.specs.declared.edge.Edge.{Edge}
use Rattle.fold_facts.specs.Assigned.{Assigned, is_reached, edges_from, IsReachedEdge}
use Rattle.fold_facts.specs.Terminators.{asks, term_edges}
use Rattle.fold_facts.proofs.Lists.{some_is, of_map}
use Rattle.fold_facts.proofs.Reaching.{reached_when}
use Rattle.fold_facts.proofs.Valued.{operand_valued}
use Rattle.fold_facts.proofs.Visits.{edge_is}
use Rattle.fold_facts.proofs.Arriving.{place_in, in_place}
use Rattle.interface.specs.Masks.{rank, is_chosen}
use Rattle.interface.specs.Summaries.{reached}
use Rattle.specialise.specs.Leaving.{leaving, edges_to}
use Rattle.specialise.specs.Residual.{left_blocks, left_term}
use Rattle.residual_laws.proofs.Every.{Every, every_to}
use Rattle.residual_laws.proofs.Flags.{zero_on, reached_flag, are_out}
use Rattle.residual_laws.proofs.Going.{asked_from, HasFact, term_goes, asked_is}
use Rattle.residual_laws.proofs.Held.{Held}
use Rattle.residual_laws.proofs.Numbering.{made}
use Rattle.residual_laws.proofs.Ranks.{rank_zero, rank_one}
use Rattle.residual_laws.proofs.Standing.{left_from, left_first}
use Rattle.residual_laws.proofs.Staying.{OperandStays, block_stays}

-- the blocks that are left
abbrev pub left_of : List Known → Body → Assigned → List Block
left_of known body a = left_blocks (leaving known body.blocks a) 0 0 body.blocks

-- ---- which are reached

chosen_on : (a : Assigned) (blocks : List Block) (from k : ℕ) → is_chosen (map (λ entry. is_reached a entry.0) (enumerate_from from blocks)) k ≡ true → (is_reached a (from + k) ≡ true) × (k < length blocks)
chosen_on a [] from k set = absurd (false≢true set)
chosen_on a (b ∷ bs) from zero set =
    let none_on : from ≡ from + 0 = omega arith in
    (ap (is_reached a) (sym none_on) ∙ set, omega arith)
chosen_on a (b ∷ bs) from (suc k) set =
    let more = chosen_on a bs (from + 1) k set in
    let one_on : from + suc k ≡ (from + 1) + k = omega arith in
    (ap (is_reached a) one_on ∙ more.0, omega (arith, more.1))

pub chosen_reached : (a : Assigned) (blocks : List Block) (k : ℕ) → is_chosen (reached a blocks) k ≡ true → is_reached a k ≡ true
chosen_reached a blocks k set = ap (is_reached a) (sym (zero_on k)) ∙ (chosen_on a blocks 0 k set).0

pub chosen_within : (a : Assigned) (blocks : List Block) (k : ℕ) → is_chosen (reached a blocks) k ≡ true → k < length blocks
chosen_within a blocks k set = (chosen_on a blocks 0 k set).1

-- ---- the block at a place

-- The block at a place of those that are left is what is left of this one.
pub record IsLeftAt (known : List Known) (body : Body) (a : Assigned) (r : ℕ) (b : Block) : Type 0 where
  pub at : ℕ
  pub block : Block
  pub here : slice_get body.blocks at ≡ Some block
  pub set : is_chosen (reached a body.blocks) at ≡ true
  pub stands : rank (reached a body.blocks) at ≡ r
  pub is : b ≡ made (leaving known body.blocks a) at (first_result body.blocks at) block

pub left_is : (known : List Known) (body : Body) (a : Assigned) (r : ℕ) (b : Block) → slice_get (left_of known body a) r ≡ Some b → IsLeftAt known body a r b
left_is known body a r b is =
    let w = leaving known body.blocks a in
    let l = left_from w 0 0 body.blocks r b is in
    let same : rank (reached a body.blocks) (0 + l.at) ≡ rank (reached a body.blocks) l.at = ap (rank (reached a body.blocks)) (zero_on l.at) in
    let total : r + rank (reached a body.blocks) 0 ≡ rank (reached a body.blocks) (0 + l.at) = l.stands in
    record {
      at = l.at;
      block = l.block;
      here = l.here;
      set = ap (is_chosen (reached a body.blocks)) (sym (zero_on l.at)) ∙ l.set;
      stands = omega (arith, total, same, rank_zero (reached a body.blocks));
      is = l.is ∙ ap (λ n. made w n (0 + first_result body.blocks l.at) l.block) (zero_on l.at) ∙ ap (λ n. made w l.at n l.block) (zero_on (first_result body.blocks l.at));
    }

-- its first result
pub first_at : (known : List Known) (body : Body) (a : Assigned) (items : List Item) (params : List Scalar) (returns : Option Scalar) (k : ℕ) → Held items params returns known body a → k ≤ length body.blocks
    → first_result (left_of known body a) (rank (reached a body.blocks) k) ≡ rank (leaving known body.blocks a).kept (first_result body.blocks k)
first_at known body a items params returns k h within =
    let w = leaving known body.blocks a in
    let mask = reached a body.blocks in
    let same : rank mask (0 + k) ≡ rank mask k = ap (rank mask) (zero_on k) in
    let at : rank mask k + rank mask 0 ≡ rank mask (0 + k) = omega (arith, rank_zero mask, same) in
    let first : first_result (left_of known body a) (rank mask k) + rank w.kept 0 ≡ rank w.kept (0 + first_result body.blocks k) = left_first w 0 0 body.blocks k (rank mask k) (are_out known body.blocks a h.of) within at in
    let one : rank w.kept (0 + first_result body.blocks k) ≡ rank w.kept (first_result body.blocks k) = ap (rank w.kept) (zero_on (first_result body.blocks k)) in
    omega (arith, first, one, rank_zero w.kept)

-- ---- where blocks go

pub formed_goes : (places : Places) (t : Term) → FormedTerm places t → (k to : ℕ) → slice_get (successors t) k ≡ Some to → to < places.blocks
formed_goes places term.RetVoid f k to is = absurd (none-some to is)
formed_goes places (term.Ret ty value) f k to is = absurd (none-some to is)
formed_goes places (term.Br one) f zero to is = subst (λ n. n < places.blocks) (some_is is) f
formed_goes places (term.Br one) f (suc k) to is = absurd (none-some to is)
formed_goes places (term.CondBr o one other) f zero to is = subst (λ n. n < places.blocks) (some_is is) f.1
formed_goes places (term.CondBr o one other) f (suc zero) to is = subst (λ n. n < places.blocks) (some_is is) f.2
formed_goes places (term.CondBr o one other) f (suc (suc k)) to is = absurd (none-some to is)
formed_goes places (term.Switch ty o default cases) f zero to is = subst (λ n. n < places.blocks) (some_is is) f.1
formed_goes places (term.Switch ty o default cases) f (suc k) to is =
    let case = of_map (λ (c : ℕ × ℕ). c.1) cases k to is in
    subst (λ n. n < places.blocks) case.2 (All-at (λ (c : ℕ × ℕ). IsTrue (is_number_of ty c.0) × (c.1 < places.blocks)) cases k case.0 f.2 case.1).1
formed_goes places term.Unreachable f k to is = absurd (none-some to is)

pub formed_block : (items : List Item) (params : List Scalar) (returns : Option Scalar) (known : List Known) (body : Body) (a : Assigned) (at : ℕ) (block : Block) → Held items params returns known body a → slice_get body.blocks at ≡ Some block
    → FormedBlock (places_of items (length params) body) block
formed_block items params returns known body a at block h here = All-at (FormedBlock (places_of items (length params) body)) body.blocks at block h.formed.has_blocks here

-- the operand of a reached block's terminator has a fact
pub term_has_facts : (items : List Item) (params : List Scalar) (returns : Option Scalar) (known : List Known) (body : Body) (a : Assigned) (at : ℕ) (block : Block) → Held items params returns known body a → slice_get body.blocks at ≡ Some block
    → is_chosen (reached a body.blocks) at ≡ true → Every (HasFact (leaving known body.blocks a)) (term_operands block.term)
term_has_facts items params returns known body a at block h here set =
    let stays = block_stays items params returns known body a at block h here (chosen_reached a body.blocks at set) in
    every_to (OperandStays body.blocks a) (HasFact (leaving known body.blocks a)) (term_operands block.term) (λ o s. operand_valued (record { known = known }) a.facts o (λ r e. (s r e).valued)) stays.term

-- A place that a block that is left goes to is that of a reached block, which the block itself goes to.
pub record IsGoneTo (body : Body) (a : Assigned) (at to' : ℕ) : Type 0 where
  pub edge : ℕ
  pub to : ℕ
  pub reaches : IsReachedEdge a at edge to
  pub leads : Leads body.blocks at to
  pub set : is_chosen (reached a body.blocks) to ≡ true
  pub stands : rank (reached a body.blocks) to ≡ to'

pub gone_to : (items : List Item) (params : List Scalar) (returns : Option Scalar) (known : List Known) (body : Body) (a : Assigned) (at : ℕ) (block : Block) (j to' : ℕ) → Held items params returns known body a
    → slice_get body.blocks at ≡ Some block → is_chosen (reached a body.blocks) at ≡ true → slice_get (successors (left_term (leaving known body.blocks a) block.term)) j ≡ Some to' → IsGoneTo body a at to'
gone_to items params returns known body a at block j to' h here set is =
    let w = leaving known body.blocks a in
    let goes = term_goes w block.term (term_has_facts items params returns known body a at block h here set) in
    let found = of_map (rank w.reached) (asked_from (term_edges w.setting w.facts block.term) 0 (successors block.term)) j to' (sym (ap (λ l. slice_get l j) goes) ∙ is) in
    let asked = asked_is (term_edges w.setting w.facts block.term) 0 (successors block.term) j found.0 found.1 in
    let asks_it : asks (term_edges w.setting w.facts block.term) asked.at ≡ true = ap (asks (term_edges w.setting w.facts block.term)) (sym (zero_on asked.at)) ∙ asked.asked in
    let reaches : IsReachedEdge a at asked.at found.0 = (h.closed at block here (chosen_reached a body.blocks at set)).edges asked.at found.0 asked.goes asks_it in
    let within : found.0 < length body.blocks = formed_goes (places_of items (length params) body) block.term (formed_block items params returns known body a at block h here).term asked.at found.0 asked.goes in
    record {
      edge = asked.at;
      to = found.0;
      reaches = reaches;
      leads = subst (λ (o : Option Block). Contains (successors_of o) found.0) (sym here) (in_place (successors block.term) asked.at found.0 asked.goes);
      set = reached_flag a body.blocks found.0 within ∙ reached_when a at asked.at found.0 reaches;
      stands = found.2;
    }

-- ---- paths

-- A path through what is left goes through reached blocks, as a path of the body does.
pub record IsPathOf (body : Body) (a : Assigned) (place' : ℕ) (visited' : List ℕ) : Type 0 where
  pub place : ℕ
  pub visited : List ℕ
  pub path : IsPath body.blocks (place ∷ visited)
  pub set : is_chosen (reached a body.blocks) place ≡ true
  pub stands : rank (reached a body.blocks) place ≡ place'
  pub all : Every (λ q. is_chosen (reached a body.blocks) q ≡ true) visited
  pub same : map (rank (reached a body.blocks)) visited ≡ visited'

-- a step of the path
record IsStepOf (body : Body) (a : Assigned) (from' to' : ℕ) : Type 0 where
  from : ℕ
  from_set : is_chosen (reached a body.blocks) from ≡ true
  from_stands : rank (reached a body.blocks) from ≡ from'
  to : ℕ
  leads : Leads body.blocks from to
  to_set : is_chosen (reached a body.blocks) to ≡ true
  to_stands : rank (reached a body.blocks) to ≡ to'

step_of : (items : List Item) (params : List Scalar) (returns : Option Scalar) (known : List Known) (body : Body) (a : Assigned) (from' to' : ℕ) → Held items params returns known body a → Leads (left_of known body a) from' to' → IsStepOf body a from' to'
step_of items params returns known body a from' to' h lead = by (slice_get (left_of known body a) from') refl
  where
    by : (o : Option Block) → slice_get (left_of known body a) from' ≡ o → IsStepOf body a from' to'
    by None e = absurd (none (subst (λ (o : Option Block). Contains (successors_of o) to') e lead))
      where
        none : Contains [] to' → ⊥
        none c = omega (arith, c.1)
    by (Some b) e =
        let l = left_is known body a from' b e in
        let one = place_in (successors b.term) to' (subst (λ (o : Option Block). Contains (successors_of o) to') e lead) in
        let gone = gone_to items params returns known body a l.at l.block one.0 to' h l.here l.set (sym (ap (λ (c : Block). slice_get (successors c.term) one.0) l.is) ∙ one.1) in
        record { from = l.at; from_set = l.set; from_stands = l.stands; to = gone.to; leads = gone.leads; to_set = gone.set; to_stands = gone.stands }

pub path_of : (items : List Item) (params : List Scalar) (returns : Option Scalar) (known : List Known) (body : Body) (a : Assigned) (place' : ℕ) (visited' : List ℕ) → Held items params returns known body a
    → IsPath (left_of known body a) (place' ∷ visited') → IsPathOf body a place' visited'
path_of items params returns known body a place' [] h p = record {
  place = 0;
  visited = [];
  path = refl;
  set = reached_flag a body.blocks 0 h.formed.has_block;
  stands = rank_zero (reached a body.blocks) ∙ sym p;
  all = tt;
  same = refl;
}
path_of items params returns known body a place' (from' ∷ more') h p =
    let before = path_of items params returns known body a from' more' h p.1 in
    let step = step_of items params returns known body a from' place' h p.0 in
    let one : step.from ≡ before.place = rank_one (reached a body.blocks) step.from before.place step.from_set before.set (step.from_stands ∙ sym before.stands) in
    record {
      place = step.to;
      visited = before.place ∷ before.visited;
      path = (subst (λ n. Leads body.blocks n step.to) one step.leads, before.path);
      set = step.to_set;
      stands = step.to_stands;
      all = (before.set, before.all);
      same = ap (λ n. n ∷ map (rank (reached a body.blocks)) before.visited) before.stands ∙ ap (λ l. from' ∷ l) before.same;
    }

-- ---- edges that phis stand for

abbrev AnEdge : List Edge → ℕ → Type 0
AnEdge es to = (k : ℕ) × (slice_get es k ≡ Some (record { to = to; reached = true }))

edge_in : (es : List Edge) (to i : ℕ) → is_chosen (map (λ edge. edge.reached) (filter (λ edge. edge.to == to) es)) i ≡ true → AnEdge es to
edge_in [] to i h = absurd (false≢true h)
edge_in (e ∷ es) to i h = by (e.to == to) refl i h (λ n g. edge_in es to n g)
  where
    later : AnEdge es to → AnEdge (e ∷ es) to
    later more = (suc more.0, more.1)

    by : (b : Bool) → (e.to == to) ≡ b → (n : ℕ) → is_chosen (map (λ (edge : Edge). edge.reached) (cond b (e ∷ filter (λ edge. edge.to == to) es) (filter (λ edge. edge.to == to) es))) n ≡ true
        → ((m : ℕ) → is_chosen (map (λ (edge : Edge). edge.reached) (filter (λ edge. edge.to == to) es)) m ≡ true → AnEdge es to) → AnEdge (e ∷ es) to
    by true same zero set more = (0, ap Some (edge_is e to (eqb-true e.to to same) set))
    by true same (suc n) set more = later (more n set)
    by false same n set more = later (more n set)

-- an entry that stays stands for a reached edge
pub edge_set : (a : Assigned) (from to j : ℕ) → is_chosen (edges_to a from to) j ≡ true → (k : ℕ) × IsReachedEdge a from k to
edge_set a from to j set = edge_in (edges_from a from) to j set
