-- The law on typed bodies.
use Rattle.std.proofs.Common.{◌≡◌, ◌∙◌, inl, inr, ℕ, zero, suc, ◌+◌, ◌<◌, ◌≤◌, Bool, true, false, cond, List, [], ◌∷◌, ◌++◌, Option, None, Some, length, map, get_or, refl, ap, sym, subst, arith}
use Rattle.std.specs.Prelude.{◌==◌, slice_get, IsSome, IfSome, AllPairs, count_by, if◌then◌else◌}
use Rattle.std.specs.List.{filter}
use Rattle.std.proofs.lemmas.Bool.{eqb-true, eq-eqb, false≢true}
use Rattle.std.proofs.lemmas.Option.{none-some, get_or_from_slice_get}
use Rattle.ir_types.specs.declared.scalar.Scalar.{Scalar}
use Rattle.ir_types.specs.declared.scalar.Known.{Known}
use Rattle.ir_types.proofs.ListSteps.{slice_get-within}
use Rattle.ir_syntax.specs.declared.constant.Operand.{Operand}
use Rattle.ir_syntax.specs.declared.body.Phi.{Phi}
use Rattle.ir_syntax.specs.declared.body.Block.{Block}
use Rattle.ir_syntax.specs.declared.body.Body.{Body}
use Rattle.ir_syntax.specs.declared.item.Func.{Func}
use Rattle.ir_syntax.specs.declared.item.Item.{Item}
use Rattle.ir_syntax.specs.Definite.{first_result}
use Rattle.ir_syntax.specs.Edges.{successors, successors_of, edges}
use Rattle.ir_syntax.specs.FormedBody.{places_of}
use Rattle.ir_syntax.specs.Mapped.{map_operands}
use Rattle.ir_syntax.specs.Results.{results}
use Rattle.ir_syntax.specs.Typed.{Types, HasType, TypedInst, TypedPhi, TypedBlock, TypedBody}
use Rattle.fold_facts.specs.declared.edge.Edge.{Edge}
use Rattle.fold_facts.specs.declared.said.Edges.{Edges}
use Rattle.fold_facts.specs.Assigned.{Assigned, edges_from, IsReachedEdge}
use Rattle.fold_facts.specs.Places.{blocks_in}
use Rattle.fold_facts.specs.Terminators.{asks, term_edges}
use Rattle.fold_facts.proofs.Lists.{some_is, there, get_map}
use Rattle.fold_facts.proofs.Reaching.{reached_when}
use Rattle.fold_facts.proofs.Visits.{edges_are, edge_is}
use Rattle.fold_facts.proofs.Arriving.{place_in, counted, counts}
use Rattle.interface.specs.Masks.{rank, is_chosen}
use Rattle.interface.specs.Summaries.{reached}
use Rattle.specialise.specs.Leaving.{Leaving, leaving}
use Rattle.specialise.specs.Residual.{left_operand, left_entries, left_phis, left_insts, left_blocks, residual}
use Rattle.residual_laws.specs.Left.{IsLeft, AreAsked}
use Rattle.residual_laws.proofs.Entries.{IsEntryOf, for_block, flags_to, count_yes, count_no}
use Rattle.residual_laws.proofs.Every.{Every, all_of_every, every_at, every_by, every_to}
use Rattle.residual_laws.proofs.Flags.{reached_flag, zero_on}
use Rattle.residual_laws.proofs.Formed.{phis_each, insts_each, insts_fit}
use Rattle.residual_laws.proofs.Going.{asked_from, apart, term_goes}
use Rattle.residual_laws.proofs.Held.{Held, held, edge_of}
use Rattle.residual_laws.proofs.Insts.{InstFits}
use Rattle.residual_laws.proofs.Left.{left_of, left_is, chosen_reached, formed_goes, formed_block, term_has_facts, gone_to}
use Rattle.residual_laws.proofs.Numbering.{made}
use Rattle.residual_laws.proofs.Operands.{FitsIn, types_of, left_body}
use Rattle.residual_laws.proofs.Phis.{PhiAt, made_phi, was_typed, entries_left, entries_fit, entries_for}
use Rattle.residual_laws.proofs.Ranks.{less_or, rank_zero, rank_one}
use Rattle.residual_laws.proofs.Terms.{term_fits}

-- no edge is reached but those that are asked for
abbrev pub AskedIn : List Known → Body → Assigned → Type 0
AskedIn known body a = (from k to : ℕ) (block : Block) → slice_get body.blocks from ≡ Some block → IsReachedEdge a from k to → asks (term_edges (record { known = known }) a.facts block.term) k ≡ true

-- ---- edges that are asked for

-- Of a block's edges, those to a reached place that are reached are those that are asked for.
asked_count : (mask : List Bool) (eds : Edges) (n place : ℕ) (es : List Edge) → is_chosen mask place ≡ true → ((k : ℕ) (e : Edge) → slice_get es k ≡ Some e → e.reached ≡ asks eds (n + k))
    → ((k : ℕ) (e : Edge) → slice_get es k ≡ Some e → e.reached ≡ true → is_chosen mask e.to ≡ true)
    → count_by (λ to. to == rank mask place) (map (rank mask) (asked_from eds n (map (λ edge. edge.to) es))) ≡ rank (flags_to es place) (length (flags_to es place))
asked_count mask eds n place [] set asked chosen_to = refl
asked_count mask eds n place (e ∷ es) set asked chosen_to =
    by e.reached refl (e.to == place) refl (asked_count mask eds (suc n) place es set (λ k d is. asked (suc k) d is ∙ ap (asks eds) (one_on k)) (λ k d is r. chosen_to (suc k) d is r))
  where
    one_on : (k : ℕ) → n + suc k ≡ suc n + k
    one_on k = omega arith

    none_on : n + 0 ≡ n
    none_on = omega arith

    tos : List ℕ
    tos = asked_from eds (suc n) (map (λ (edge : Edge). edge.to) es)

    asked_one : e.reached ≡ asks eds n
    asked_one = asked 0 e refl ∙ ap (asks eds) none_on

    rest : Type 0
    rest = count_by (λ to. to == rank mask place) (map (rank mask) tos) ≡ rank (flags_to es place) (length (flags_to es place))

    goal : Bool → Bool → Bool → Type 0
    goal asks_it r same = count_by (λ to. to == rank mask place) (map (rank mask) ((if asks_it then e.to ∷ [] else []) ++ tos))
        ≡ rank (map (λ (edge : Edge). edge.reached) (cond same (e ∷ filter (λ edge. edge.to == place) es) (filter (λ edge. edge.to == place) es)))
        (length (map (λ (edge : Edge). edge.reached) (cond same (e ∷ filter (λ edge. edge.to == place) es) (filter (λ edge. edge.to == place) es))))

    flag_set : e.reached ≡ true → rank (e.reached ∷ flags_to es place) (suc (length (flags_to es place))) ≡ suc (rank (flags_to es place) (length (flags_to es place)))
    flag_set r = ap (λ b. rank (b ∷ flags_to es place) (suc (length (flags_to es place)))) r

    flag_unset : e.reached ≡ false → rank (e.reached ∷ flags_to es place) (suc (length (flags_to es place))) ≡ rank (flags_to es place) (length (flags_to es place))
    flag_unset r = ap (λ b. rank (b ∷ flags_to es place) (suc (length (flags_to es place)))) r

    by : (r : Bool) → e.reached ≡ r → (same : Bool) → (e.to == place) ≡ same → rest → goal (asks eds n) r same
    by true er true es_is h =
        let one : (rank mask e.to == rank mask place) ≡ true = eq-eqb (rank mask e.to) (rank mask place) (ap (rank mask) (eqb-true e.to place es_is)) in
        subst (λ b. goal b true true) (sym er ∙ asked_one)
        (count_yes (λ to. to == rank mask place) (rank mask e.to) (map (rank mask) tos) one ∙ ap suc h ∙ sym (flag_set er))
    by true er false es_is h =
        let other : (rank mask e.to == rank mask place) ≡ false =
        apart (rank mask e.to) (rank mask place) (λ same. false≢true (sym es_is ∙ eq-eqb e.to place (rank_one mask e.to place (chosen_to 0 e refl er) set same))) in
        subst (λ b. goal b true false) (sym er ∙ asked_one) (count_no (λ to. to == rank mask place) (rank mask e.to) (map (rank mask) tos) other ∙ h)
    by false er true es_is h = subst (λ b. goal b false true) (sym er ∙ asked_one) (h ∙ sym (flag_unset er))
    by false er false es_is h = subst (λ b. goal b false false) (sym er ∙ asked_one) h

edge_asked : (items : List Item) (params : List Scalar) (returns : Option Scalar) (known : List Known) (body : Body) (a : Assigned) (from : ℕ) (block : Block) → Held items params returns known body a → AskedIn known body a → slice_get body.blocks from ≡ Some block
    → is_chosen (reached a body.blocks) from ≡ true → (k : ℕ) (e : Edge) → slice_get (edges_from a from) k ≡ Some e → e.reached ≡ asks (term_edges (record { known = known }) a.facts block.term) (0 + k)
edge_asked items params returns known body a from block h asked here set k e is = by e.reached refl (asks eds k) refl ∙ ap (asks eds) (sym (zero_on k))
  where
    eds : Edges
    eds = term_edges (record { known = known }) a.facts block.term

    goes : slice_get (successors block.term) k ≡ Some e.to
    goes = sym (ap (λ (l : List ℕ). slice_get l k) (edges_are body.blocks a from block h.of here)) ∙ get_map (λ (edge : Edge). edge.to) (edges_from a from) k e is

    by : (r : Bool) → e.reached ≡ r → (b : Bool) → asks eds k ≡ b → e.reached ≡ asks eds k
    by true er true eb = er ∙ sym eb
    by false er false eb = er ∙ sym eb
    by true er false eb = absurd (false≢true (sym eb ∙ asked from k e.to block here (is ∙ ap Some (edge_is e e.to refl er))))
    by false er true eb =
        let reaches = (h.closed from block here (chosen_reached a body.blocks from set)).edges k e.to goes eb in
        absurd (false≢true (sym er ∙ ap (λ (x : Edge). x.reached) (some_is (sym is ∙ reaches))))

edge_chosen : (items : List Item) (params : List Scalar) (returns : Option Scalar) (known : List Known) (body : Body) (a : Assigned) (from k : ℕ) (e : Edge) → Held items params returns known body a → slice_get (edges_from a from) k ≡ Some e → e.reached ≡ true
    → is_chosen (reached a body.blocks) e.to ≡ true
edge_chosen items params returns known body a from k e h is r =
    let reaches : IsReachedEdge a from k e.to = is ∙ ap Some (edge_is e e.to refl r) in
    let one = edge_of body.blocks a from k e.to h.of reaches in
    let within = formed_goes (places_of items (length params) body) one.block.term (formed_block items params returns known body a from one.block h one.here).term k e.to one.goes in
    reached_flag a body.blocks e.to within ∙ reached_when a from k e.to reaches

-- ---- phis

count_past : (xs : List (Operand × ℕ)) (m from : ℕ) → Every (λ (x : Operand × ℕ). x.1 < m) xs → m ≤ from → count_by (for_block from) xs ≡ 0
count_past [] m from h past = refl
count_past (x ∷ xs) m from h past =
    let less : x.1 < m = h.0 in
    count_no (for_block from) x xs (apart x.1 from (λ e. omega (arith, e, less, past))) ∙ count_past xs m from h.1 past

past_end : {A : Type 0} (xs : List A) (k : ℕ) → slice_get xs k ≡ None → length xs ≤ k
past_end [] k none = omega arith
past_end (x ∷ xs) zero none = absurd (none-some x (sym none))
past_end (x ∷ xs) (suc k) none = omega (arith, past_end xs k none)

-- the entries name just the edges of what is left
left_edges : (items : List Item) (params : List Scalar) (returns : Option Scalar) (known : List Known) (body : Body) (a : Assigned) (at k : ℕ) (block : Block) (phi : Phi) → PhiAt items params returns known body a at k block phi → AskedIn known body a
    → (from' : ℕ) → count_by (for_block from') (left_entries (leaving known body.blocks a) at [] phi.entries) ≡ edges (left_of known body a) from' (rank (reached a body.blocks) at)
left_edges items params returns known body a at k block phi p asked from' = by (slice_get (left_of known body a) from') refl
  where
    w : Leaving
    w = leaving known body.blocks a

    mask : List Bool
    mask = reached a body.blocks

    by : (o : Option Block) → slice_get (left_of known body a) from' ≡ o → count_by (for_block from') (left_entries w at [] phi.entries) ≡ count_by (λ place. place == rank mask at) (successors_of (slice_get (left_of known body a) from'))
    by None e =
        count_past (left_entries w at [] phi.entries) (length (left_of known body a)) from'
        (every_to (λ (x : Operand × ℕ). FitsIn items params (left_body known body a) phi.ty x.0 × (x.1 < length (left_of known body a))) (λ (x : Operand × ℕ). x.1 < length (left_of known body a)) (left_entries w at [] phi.entries) (λ x f. f.1)
        (entries_fit items params returns known body a at k block phi p)) (past_end (left_of known body a) from' e)
        ∙ sym (ap (λ (o : Option Block). count_by (λ place. place == rank mask at) (successors_of o)) e)
    by (Some b) e =
        let l = left_is known body a from' b e in
        let goes = term_goes w l.block.term (term_has_facts items params returns known body a l.at l.block p.holds l.here l.set) in
        let tos = edges_are body.blocks a l.at l.block p.holds.of l.here in
        ap (λ n. count_by (for_block n) (left_entries w at [] phi.entries)) (sym l.stands)
        ∙ entries_for items params returns known body a at k l.at block phi p l.set
        ∙ sym (asked_count mask (term_edges w.setting w.facts l.block.term) 0 at (edges_from a l.at) p.set
        (edge_asked items params returns known body a l.at l.block p.holds asked l.here l.set) (λ i d is r. edge_chosen items params returns known body a l.at i d p.holds is r))
        ∙ ap (λ (ts : List ℕ). count_by (λ place. place == rank mask at) (map (rank mask) (asked_from (term_edges w.setting w.facts l.block.term) 0 ts))) tos
        ∙ ap (count_by (λ place. place == rank mask at)) (sym goes)
        ∙ ap (λ (c : Block). count_by (λ place. place == rank mask at) (successors c.term)) (sym l.is)
        ∙ sym (ap (λ (o : Option Block). count_by (λ place. place == rank mask at) (successors_of o)) e)

abbrev Agree : List (Operand × ℕ) → Type 0
Agree entries = AllPairs (λ (x y : Operand × ℕ). x.1 ≡ y.1 → x.0 ≡ y.0) entries

agree_before : (entries : List (Operand × ℕ)) (i j : ℕ) (x y : Operand × ℕ) → Agree entries → i < j → slice_get entries i ≡ Some x → slice_get entries j ≡ Some y → x.1 ≡ y.1 → x.0 ≡ y.0
agree_before entries i j x y agree less one other same =
    let was_one : get_or entries i x ≡ x = get_or_from_slice_get entries i x x one in
    let was_other : get_or entries j x ≡ y = get_or_from_slice_get entries j y x other in
    sym (ap (λ (z : Operand × ℕ). z.0) was_one) ∙ agree i j x less (slice_get-within entries j y other) (ap (λ (z : Operand × ℕ). z.1) was_one ∙ same ∙ sym (ap (λ (z : Operand × ℕ). z.1) was_other)) ∙ ap (λ (z : Operand × ℕ). z.0) was_other

agree_any : (entries : List (Operand × ℕ)) (i j : ℕ) (x y : Operand × ℕ) → Agree entries → slice_get entries i ≡ Some x → slice_get entries j ≡ Some y → x.1 ≡ y.1 → x.0 ≡ y.0
agree_any entries i j x y agree one other same = elim (less_or i j) [
  | inl less ↦ agree_before entries i j x y agree less one other same
  | inr past ↦ elim (less_or j i) [
    | inl less ↦ sym (agree_before entries j i y x agree less other one (sym same))
    | inr within ↦
        let equal : i ≡ j = omega (arith, past, within) in
        ap (λ (z : Operand × ℕ). z.0) (some_is (sym one ∙ ap (slice_get entries) equal ∙ other))
  ]
]

left_agree : (w : Leaving) (entries xs : List (Operand × ℕ)) → Agree entries → Every (IsEntryOf w entries) xs → Agree xs
left_agree w entries xs agree h i j d less within same =
    let one = there xs i (omega (arith, less, within)) in
    let other = there xs j within in
    let was_one : get_or xs i d ≡ one.0 = get_or_from_slice_get xs i one.0 d one.1 in
    let was_other : get_or xs j d ≡ other.0 = get_or_from_slice_get xs j other.0 d other.1 in
    let e = every_at (IsEntryOf w entries) xs i one.0 h one.1 in
    let f = every_at (IsEntryOf w entries) xs j other.0 h other.1 in
    let ranks : rank w.reached e.entry.1 ≡ rank w.reached f.entry.1 =
    sym (ap (λ (z : Operand × ℕ). z.1) (was_one ∙ e.is)) ∙ same ∙ ap (λ (z : Operand × ℕ). z.1) (was_other ∙ f.is) in
    let equal = agree_any entries e.at f.at e.entry f.entry agree e.here f.here (rank_one w.reached e.entry.1 f.entry.1 e.set f.set ranks) in
    ap (λ (z : Operand × ℕ). z.0) (was_one ∙ e.is) ∙ ap (left_operand w) equal ∙ sym (ap (λ (z : Operand × ℕ). z.0) (was_other ∙ f.is))

phi_typed : (items : List Item) (params : List Scalar) (returns : Option Scalar) (known : List Known) (body : Body) (a : Assigned) (at k : ℕ) (block : Block) (phi : Phi) → PhiAt items params returns known body a at k block phi → AskedIn known body a
    → TypedPhi (types_of items params (left_body known body a)) (left_of known body a) (rank (reached a body.blocks) at) (made_phi (leaving known body.blocks a) at phi)
phi_typed items params returns known body a at k block phi p asked =
    let w = leaving known body.blocks a in
    record {
      edges = left_edges items params returns known body a at k block phi p asked;
      agree = left_agree w phi.entries (left_entries w at [] phi.entries) (was_typed items params returns known body a at k block phi p).agree (entries_left items params returns known body a at k block phi p);
      has_types = all_of_every (λ (x : Operand × ℕ). HasType (types_of items params (left_body known body a)) phi.ty x.0) (left_entries w at [] phi.entries)
          (every_to (λ (x : Operand × ℕ). FitsIn items params (left_body known body a) phi.ty x.0 × (x.1 < length (left_of known body a))) (λ (x : Operand × ℕ). HasType (types_of items params (left_body known body a)) phi.ty x.0) (left_entries w at [] phi.entries)
          (λ x f. f.0.typed) (entries_fit items params returns known body a at k block phi p));
    }

-- ---- blocks

block_typed : (items : List Item) (params : List Scalar) (returns : Option Scalar) (known : List Known) (body : Body) (a : Assigned) (at : ℕ) (block : Block) → Held items params returns known body a → AskedIn known body a → slice_get body.blocks at ≡ Some block
    → is_chosen (reached a body.blocks) at ≡ true
    → TypedBlock (types_of items params (left_body known body a)) returns (left_of known body a) (rank (reached a body.blocks) at) (made (leaving known body.blocks a) at (first_result body.blocks at) block)
block_typed items params returns known body a at block h asked here set =
    let w = leaving known body.blocks a in
    let first = first_result body.blocks at in
    let types = types_of items params (left_body known body a) in
    let P = TypedPhi types (left_of known body a) (rank (reached a body.blocks) at) in
    record {
      phis = all_of_every P (left_phis w at first block.phis) (phis_each P w at first block.phis
          (every_by (λ phi. P (made_phi w at phi)) block.phis (λ k phi is. phi_typed items params returns known body a at k block phi (record { holds = h; here = here; set = set; is = is }) asked)));
      insts = all_of_every (TypedInst types) (left_insts w (first + length block.phis) block.insts) (insts_each (TypedInst types) w (first + length block.phis) block.insts
          (every_to (λ inst. InstFits items params (left_body known body a) (map_operands (left_operand w) inst)) (λ inst. TypedInst types (map_operands (left_operand w) inst)) block.insts (λ inst f. f.typed) (insts_fit items params returns known body a at block h here set)));
      term = (term_fits items params returns known body a at block h here set).typed;
    }

-- ---- bodies

-- No edge goes to the first block.
not_entered : (items : List Item) (params : List Scalar) (returns : Option Scalar) (known : List Known) (body : Body) (a : Assigned) → Held items params returns known body a → (from' : ℕ) → edges (left_of known body a) from' 0 ≡ 0
not_entered items params returns known body a h from' = by (slice_get (left_of known body a) from') refl
  where
    never : (b : Block) → slice_get (left_of known body a) from' ≡ Some b → 0 < count_by (λ place. place == 0) (successors b.term) → ⊥
    never b e some =
        let l = left_is known body a from' b e in
        let found = counts (λ place. place == 0) (successors b.term) some in
        let gone = gone_to items params returns known body a l.at l.block found.0 found.1 h l.here l.set (sym (ap (λ (c : Block). slice_get (successors c.term) found.0) l.is) ∙ found.2) in
        let first : is_chosen (reached a body.blocks) 0 ≡ true = reached_flag a body.blocks 0 h.formed.has_block in
        let equal : gone.to ≡ 0 = rank_one (reached a body.blocks) gone.to 0 gone.set first (gone.stands ∙ eqb-true found.1 0 found.3 ∙ sym (rank_zero (reached a body.blocks))) in
        let one = place_in (successors_of (slice_get body.blocks l.at)) gone.to gone.leads in
        let some_edge : 0 < edges body.blocks l.at 0 = counted (λ (p : ℕ). p == 0) (successors_of (slice_get body.blocks l.at)) one.0 gone.to one.1 (eq-eqb gone.to 0 equal) in
        let none : edges body.blocks l.at 0 ≡ 0 = h.typed.not_entered l.at in
        absurd (omega (arith, some_edge, none))

    by : (o : Option Block) → slice_get (left_of known body a) from' ≡ o → edges (left_of known body a) from' 0 ≡ 0
    by None e = ap (λ (o : Option Block). count_by (λ place. place == 0) (successors_of o)) e
    by (Some b) e = ap (λ (o : Option Block). count_by (λ place. place == 0) (successors_of o)) e ∙ elim (less_or 0 (count_by (λ place. place == 0) (successors b.term))) [
      | inl some ↦ absurd (never b e some)
      | inr none ↦ omega (arith, none)
    ]

body_typed : (items : List Item) (params : List Scalar) (returns : Option Scalar) (known : List Known) (body : Body) (a : Assigned) → Held items params returns known body a → AskedIn known body a
    → TypedBody (types_of items params (left_body known body a)) returns (left_of known body a)
body_typed items params returns known body a h asked = record { not_entered = not_entered items params returns known body a h; each = λ place. by place (slice_get (left_of known body a) place) refl }
  where
    types : Types
    types = types_of items params (left_body known body a)

    by : (place : ℕ) (o : Option Block) → slice_get (left_of known body a) place ≡ o → IfSome o (TypedBlock types returns (left_of known body a) place)
    by place None e = tt
    by place (Some b) e =
        let l = left_is known body a place b e in
        subst (λ n. TypedBlock types returns (left_of known body a) n b) l.stands
        (subst (TypedBlock types returns (left_of known body a) (rank (reached a body.blocks) l.at)) (sym l.is) (block_typed items params returns known body a l.at l.block h asked l.here l.set))

-- What is left of a function is typed.
pub left_typed : (items : List Item) (known : List Known) (func : Func) (a : Assigned) → IsLeft items known func a → AreAsked known func a
    → TypedBody (record { items = items; params = map (λ param. param.ty) func.params; results = results (residual known func a) }) func.returns (residual known func a).blocks
left_typed items known func a h asked = by func.body refl h.defined
  where
    by : (o : Option Body) → func.body ≡ o → IsSome func.body → TypedBody (record { items = items; params = map (λ param. param.ty) func.params; results = results (residual known func a) }) func.returns (residual known func a).blocks
    by None e some = absurd (none (subst IsSome e some))
      where
        none : IsSome {T = Body} None → ⊥
        none s = cc
    by (Some body) e some =
        let asked_in : AskedIn known body a = subst (λ (o : Option Body). (from k to : ℕ) (block : Block) → slice_get (blocks_in o) from ≡ Some block → IsReachedEdge a from k to → asks (term_edges (record { known = known }) a.facts block.term) k ≡ true) e asked in
        subst (λ (o : Option Body). TypedBody (record { items = items; params = map (λ param. param.ty) func.params; results = results (record { blocks = left_blocks (leaving known (blocks_in o) a) 0 0 (blocks_in o) }) }) func.returns (left_blocks (leaving known (blocks_in o) a) 0 0 (blocks_in o))) (sym e)
        (body_typed items (map (λ param. param.ty) func.params) func.returns known body a (held items known func a body h e) asked_in)
