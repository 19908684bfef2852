-- What is left of a definite body is definite.
use Rattle.std.proofs.Common.{◌≡◌, ◌∙◌, ◌⊎◌, inl, inr, ℕ, suc, ◌+◌, ◌<◌, Bool, true, false, List, [], ◌∷◌, ◌++◌, Option, None, Some, Contains, length, map, refl, ap, sym, subst, arith}
use Rattle.std.specs.Prelude.{◌==◌, flat_map, count_by, if◌then◌else◌}
use Rattle.ir_types.specs.declared.scalar.Known.{Known}
use Rattle.ir_types.specs.declared.scalar.Known.TheVariants.{Unknown, Num, Null}
use Rattle.ir_types.specs.declared.scalar.Scalar.{Scalar}
use Rattle.ir_syntax.specs.declared.constant.Operand.{Operand}
use Rattle.ir_syntax.specs.declared.constant.Operand.TheVariants as operand
use Rattle.ir_syntax.specs.declared.body.Inst.{Inst}
use Rattle.ir_syntax.specs.declared.body.Term.{Term}
use Rattle.ir_syntax.specs.declared.body.Term.TheVariants as term
use Rattle.ir_syntax.specs.declared.body.Phi.{Phi}
use Rattle.ir_syntax.specs.declared.body.Body.{Body}
use Rattle.ir_syntax.specs.declared.item.Item.{Item}
use Rattle.ir_syntax.specs.Mapped.{map_operands}
use Rattle.ir_syntax.specs.Operands.{operands, term_operands}
use Rattle.ir_syntax.specs.Results.{result_type}
use Rattle.ir_syntax.specs.Definite.{first_result, has_result, Defines, Use, operand_uses, phi_uses, insts_uses, IsPath, IsSurelyDefined}
use Rattle.ir_syntax.proofs.MappedLemmas.{operands-map, result-map}
use Rattle.fold_facts.specs.Assigned.{Assigned, fact_of}
use Rattle.fold_facts.proofs.Arriving.{place_in, in_place}
use Rattle.fold_facts.proofs.Lists.{get_map}
use Rattle.demands.specs.Names.{is_unknown}
use Rattle.interface.specs.Masks.{rank, is_chosen}
use Rattle.interface.specs.Summaries.{reached, known_of, value_of}
use Rattle.specialise.specs.Leaving.{Leaving, leaving, is_open, kept}
use Rattle.specialise.specs.Residual.{value_or, left_operand, left_entries, left_phis, left_insts, left_term, left_branch, left_switch, number_in, stays}
use Rattle.residual_laws.proofs.Every.{Every, every_at, every_first, every_rest, every_append, every_flat}
use Rattle.residual_laws.proofs.Flags.{reached_flag}
use Rattle.residual_laws.proofs.Held.{Held, start_reached}
use Rattle.residual_laws.proofs.Left.{left_of, chosen_within, first_at, path_of, edge_set}
use Rattle.residual_laws.proofs.Ranks.{rank_set, rank_unset, rank_most, rank_less, rank_one}
use Rattle.residual_laws.proofs.Staying.{OperandStays}
use Rattle.residual_laws.proofs.Sure.{Sure}

-- ---- one use

-- a use, as it stands in what is left
abbrev pub moved_use : List Known → Body → Assigned → Use → Use
moved_use known body a u = record { register = rank (kept a body.blocks) u.register; place = rank (reached a body.blocks) u.place; until = rank (kept a body.blocks) u.until }

abbrev pub IsLeftSure : List Known → Body → Assigned → Use → Type 0
IsLeftSure known body a u = IsSurelyDefined (left_of known body a) u

moved_in : (mask : List Bool) (visited : List ℕ) (q : ℕ) → Contains visited q → Contains (map (rank mask) visited) (rank mask q)
moved_in mask visited q c = let at = place_in visited q c in in_place (map (rank mask) visited) at.0 (rank mask q) (get_map (rank mask) visited at.0 q at.1)

-- where a block defines a result that stays, what is left of it does
moved_defines : (items : List Item) (params : List Scalar) (returns : Option Scalar) (known : List Known) (body : Body) (a : Assigned) (q r : ℕ) → Held items params returns known body a → is_chosen (reached a body.blocks) q ≡ true
    → is_chosen (kept a body.blocks) r ≡ true → Defines body.blocks q r → Defines (left_of known body a) (rank (reached a body.blocks) q) (rank (kept a body.blocks) r)
moved_defines items params returns known body a q r h set stays d =
    let within = chosen_within a body.blocks q set in
    let low : first_result (left_of known body a) (rank (reached a body.blocks) q) ≡ rank (kept a body.blocks) (first_result body.blocks q) = first_at known body a items params returns q h (omega (arith, within)) in
    let next : first_result (left_of known body a) (rank (reached a body.blocks) (suc q)) ≡ rank (kept a body.blocks) (first_result body.blocks (suc q)) = first_at known body a items params returns (suc q) h (omega (arith, within)) in
    let high : first_result (left_of known body a) (suc (rank (reached a body.blocks) q)) ≡ rank (kept a body.blocks) (first_result body.blocks (suc q)) = ap (first_result (left_of known body a)) (sym (rank_set (reached a body.blocks) q set)) ∙ next in
    (omega (arith, low, rank_most (kept a body.blocks) (first_result body.blocks q) r d.0), omega (arith, high, rank_less (kept a body.blocks) r (first_result body.blocks (suc q)) stays d.1))

pub use_moves : (items : List Item) (params : List Scalar) (returns : Option Scalar) (known : List Known) (body : Body) (a : Assigned) (u : Use) → Held items params returns known body a → Sure body.blocks u
    → is_chosen (reached a body.blocks) u.place ≡ true → is_chosen (kept a body.blocks) u.register ≡ true → IsLeftSure known body a (moved_use known body a u)
use_moves items params returns known body a u h sure set stays visited' path' =
    let p = path_of items params returns known body a (rank (reached a body.blocks) u.place) visited' h path' in
    let same : p.place ≡ u.place = rank_one (reached a body.blocks) p.place u.place p.set set p.stands in
    elim (sure.0 p.visited (subst (λ n. IsPath body.blocks (n ∷ p.visited)) same p.path)) [
      | inl (q, c, d) ↦
          let at = place_in p.visited q c in
          let q_set : is_chosen (reached a body.blocks) q ≡ true = every_at (λ n. is_chosen (reached a body.blocks) n ≡ true) p.visited at.0 q p.all at.1 in
          inl (
            rank (reached a body.blocks) q,
            subst (λ l. Contains l (rank (reached a body.blocks) q)) p.same (moved_in (reached a body.blocks) p.visited q c),
            moved_defines items params returns known body a q u.register h q_set stays d,
          )
      | inr d ↦
          let within = chosen_within a body.blocks u.place set in
          let low : first_result (left_of known body a) (rank (reached a body.blocks) u.place) ≡ rank (kept a body.blocks) (first_result body.blocks u.place) = first_at known body a items params returns u.place h (omega (arith, within)) in
          inr (omega (arith, low, rank_most (kept a body.blocks) (first_result body.blocks u.place) u.register d.0), rank_less (kept a body.blocks) u.register u.until stays d.1)
    ]

-- ---- operands

-- the uses of an operand, in what is left
pub operand_moves : (items : List Item) (params : List Scalar) (returns : Option Scalar) (known : List Known) (body : Body) (a : Assigned) (place until : ℕ) (o : Operand) → Held items params returns known body a
    → is_chosen (reached a body.blocks) place ≡ true → Every (Sure body.blocks) (operand_uses place until o) → OperandStays body.blocks a o
    → Every (IsLeftSure known body a) (operand_uses (rank (reached a body.blocks) place) (rank (kept a body.blocks) until) (left_operand (leaving known body.blocks a) o))
operand_moves items params returns known body a place until (operand.Param k) h set sure stays = by (known_of (record { known = known }) a.facts (operand.Param k))
  where
    by : (v : Known) → Every (IsLeftSure known body a) (operand_uses (rank (reached a body.blocks) place) (rank (kept a body.blocks) until) (value_or (operand.Param k) v))
    by Unknown = tt
    by (Num n) = tt
    by Null = tt
operand_moves items params returns known body a place until (operand.Reg k) h set sure stays = by (value_of (fact_of a.facts k)) refl
  where
    is_unknown_one : value_of (fact_of a.facts k) ≡ Unknown → is_open (fact_of a.facts k) ≡ true
    is_unknown_one e = ap is_unknown e

    by : (v : Known) → value_of (fact_of a.facts k) ≡ v → Every (IsLeftSure known body a) (operand_uses (rank (reached a body.blocks) place) (rank (kept a body.blocks) until) (value_or (operand.Reg (rank (kept a body.blocks) k)) v))
    by Unknown e = (use_moves items params returns known body a (record { register = k; place = place; until = until }) h sure.0 set ((stays k refl).stays (is_unknown_one e)), tt)
    by (Num n) e = tt
    by Null e = tt
operand_moves items params returns known body a place until (operand.Const c) h set sure stays = tt

operands_move : (items : List Item) (params : List Scalar) (returns : Option Scalar) (known : List Known) (body : Body) (a : Assigned) (place until : ℕ) (os : List Operand) → Held items params returns known body a
    → is_chosen (reached a body.blocks) place ≡ true → Every (Sure body.blocks) (flat_map (operand_uses place until) os) → Every (OperandStays body.blocks a) os
    → Every (IsLeftSure known body a) (flat_map (operand_uses (rank (reached a body.blocks) place) (rank (kept a body.blocks) until)) (map (left_operand (leaving known body.blocks a)) os))
operands_move items params returns known body a place until [] h set sure stays = tt
operands_move items params returns known body a place until (o ∷ os) h set sure stays =
    every_append (IsLeftSure known body a) (operand_uses (rank (reached a body.blocks) place) (rank (kept a body.blocks) until) (left_operand (leaving known body.blocks a) o))
    (flat_map (operand_uses (rank (reached a body.blocks) place) (rank (kept a body.blocks) until)) (map (left_operand (leaving known body.blocks a)) os))
    (operand_moves items params returns known body a place until o h set (every_first (Sure body.blocks) (operand_uses place until o) (flat_map (operand_uses place until) os) sure) stays.0)
    (operands_move items params returns known body a place until os h set (every_rest (Sure body.blocks) (operand_uses place until o) (flat_map (operand_uses place until) os) sure) stays.1)

-- ---- terminators

-- what is left of a terminator has its operands, or none
abbrev pub HasOperands : Leaving → Term → List Operand → Type 0
HasOperands w t os = (os ≡ []) ⊎ (os ≡ map (left_operand w) (term_operands t))

pub left_operands : (w : Leaving) (t : Term) → HasOperands w t (term_operands (left_term w t))
left_operands w term.RetVoid = inl refl
left_operands w (term.Ret ty value) = inr refl
left_operands w (term.Br to) = inl refl
left_operands w (term.CondBr o one other) = by (number_in (known_of w.setting w.facts o))
  where
    by : (n : Option ℕ) → HasOperands w (term.CondBr o one other) (term_operands (left_branch w n o one other))
    by None = inr refl
    by (Some n) = inl refl
left_operands w (term.Switch ty o default cases) = by (number_in (known_of w.setting w.facts o))
  where
    by : (n : Option ℕ) → HasOperands w (term.Switch ty o default cases) (term_operands (left_switch w n ty o default cases))
    by None = inr refl
    by (Some n) = inl refl
left_operands w term.Unreachable = inl refl

-- ---- other instructions

pub insts_move : (items : List Item) (params : List Scalar) (returns : Option Scalar) (known : List Known) (body : Body) (a : Assigned) (place until : ℕ) (insts : List Inst) (t : Term) → Held items params returns known body a
    → is_chosen (reached a body.blocks) place ≡ true → Every (Sure body.blocks) (insts_uses place until insts t) → Every (λ inst. Every (OperandStays body.blocks a) (operands inst)) insts → Every (OperandStays body.blocks a) (term_operands t)
    → Every (IsLeftSure known body a)
    (insts_uses (rank (reached a body.blocks) place) (rank (kept a body.blocks) until) (left_insts (leaving known body.blocks a) until insts) (left_term (leaving known body.blocks a) t))
insts_move items params returns known body a place until [] t h set sure stays last = by (left_operands w t)
  where
    w : Leaving
    w = leaving known body.blocks a

    moved : Every (IsLeftSure known body a) (flat_map (operand_uses (rank (reached a body.blocks) place) (rank (kept a body.blocks) until)) (map (left_operand w) (term_operands t)))
    moved = operands_move items params returns known body a place until (term_operands t) h set sure last

    by : HasOperands w t (term_operands (left_term w t)) → Every (IsLeftSure known body a) (flat_map (operand_uses (rank (reached a body.blocks) place) (rank (kept a body.blocks) until)) (term_operands (left_term w t)))
    by (inl none) = subst (λ os. Every (IsLeftSure known body a) (flat_map (operand_uses (rank (reached a body.blocks) place) (rank (kept a body.blocks) until)) os)) (sym none) tt
    by (inr all) = subst (λ os. Every (IsLeftSure known body a) (flat_map (operand_uses (rank (reached a body.blocks) place) (rank (kept a body.blocks) until)) os)) (sym all) moved
insts_move items params returns known body a place until (i ∷ more) t h set sure stays_all last =
    by (result_type i) refl (insts_move items params returns known body a place (until + has_result (result_type i)) more t h set
    (every_rest (Sure body.blocks) (flat_map (operand_uses place until) (operands i)) (insts_uses place (until + has_result (result_type i)) more t) sure) stays_all.1 last)
  where
    w : Leaving
    w = leaving known body.blocks a

    mask : List Bool
    mask = kept a body.blocks

    place' : ℕ
    place' = rank (reached a body.blocks) place

    made_inst : Inst
    made_inst = map_operands (left_operand w) i

    own : Every (IsLeftSure known body a) (flat_map (operand_uses place' (rank mask until)) (operands made_inst))
    own = subst (λ os. Every (IsLeftSure known body a) (flat_map (operand_uses place' (rank mask until)) os)) (sym (operands-map (left_operand w) i))
        (operands_move items params returns known body a place until (operands i) h set (every_first (Sure body.blocks) (flat_map (operand_uses place until) (operands i)) (insts_uses place (until + has_result (result_type i)) more t) sure) stays_all.0)

    -- it stays, and its result with it
    stayed : (o : Option Scalar) → result_type i ≡ o → rank mask until + has_result o ≡ rank mask (until + has_result o)
        → Every (IsLeftSure known body a) (insts_uses place' (rank mask (until + has_result o)) (left_insts w (until + has_result o) more) (left_term w t))
        → Every (IsLeftSure known body a) (insts_uses place' (rank mask until) (made_inst ∷ left_insts w (until + has_result o) more) (left_term w t))
    stayed o e count rest =
        let next : rank mask (until + has_result o) ≡ rank mask until + has_result (result_type made_inst) = sym count ∙ ap (λ x. rank mask until + has_result x) (sym (result-map (left_operand w) i ∙ e)) in
        every_append (IsLeftSure known body a) (flat_map (operand_uses place' (rank mask until)) (operands made_inst))
        (insts_uses place' (rank mask until + has_result (result_type made_inst)) (left_insts w (until + has_result o) more) (left_term w t)) own
        (subst (λ n. Every (IsLeftSure known body a) (insts_uses place' n (left_insts w (until + has_result o) more) (left_term w t))) next rest)

    of_result : (ty : Scalar) → result_type i ≡ Some ty → (b : Bool) → is_chosen mask until ≡ b
        → Every (IsLeftSure known body a) (insts_uses place' (rank mask (until + 1)) (left_insts w (until + 1) more) (left_term w t))
        → Every (IsLeftSure known body a) (insts_uses place' (rank mask until) ((if b then made_inst ∷ [] else []) ++ left_insts w (until + 1) more) (left_term w t))
    of_result ty e true here rest =
        let one_on : rank mask (until + 1) ≡ rank mask (suc until) = ap (rank mask) (one until) in
        stayed (Some ty) e (omega (arith, rank_set mask until here, one_on)) rest
      where
        one : (m : ℕ) → m + 1 ≡ suc m
        one m = omega arith
    of_result ty e false here rest =
        let one_on : rank mask (until + 1) ≡ rank mask until = ap (rank mask) (one until) ∙ rank_unset mask until here in
        subst (λ n. Every (IsLeftSure known body a) (insts_uses place' n (left_insts w (until + 1) more) (left_term w t))) one_on rest
      where
        one : (m : ℕ) → m + 1 ≡ suc m
        one m = omega arith

    by : (o : Option Scalar) → result_type i ≡ o
        → Every (IsLeftSure known body a) (insts_uses place' (rank mask (until + has_result (result_type i))) (left_insts w (until + has_result (result_type i)) more) (left_term w t))
        → Every (IsLeftSure known body a) (insts_uses place' (rank mask until) ((if stays w until o then made_inst ∷ [] else []) ++ left_insts w (until + has_result o) more) (left_term w t))
    by None e rest =
        let count : rank mask until + 0 ≡ rank mask (until + 0) = add_none (rank mask until) ∙ ap (rank mask) (sym (add_none until)) in
        stayed None e count (subst (λ o. Every (IsLeftSure known body a) (insts_uses place' (rank mask (until + has_result o)) (left_insts w (until + has_result o) more) (left_term w t))) e rest)
      where
        add_none : (m : ℕ) → m + 0 ≡ m
        add_none m = omega arith
    by (Some ty) e rest = of_result ty e (is_chosen mask until) refl (subst (λ o. Every (IsLeftSure known body a) (insts_uses place' (rank mask (until + has_result o)) (left_insts w (until + has_result o) more) (left_term w t))) e rest)

-- ---- phis

entries_move : (items : List Item) (params : List Scalar) (returns : Option Scalar) (known : List Known) (body : Body) (a : Assigned) (place : ℕ) (before : List ℕ) (entries : List (Operand × ℕ)) → Held items params returns known body a
    → Every (λ entry. Every (Sure body.blocks) (operand_uses entry.1 (first_result body.blocks (suc entry.1)) entry.0)) entries → Every (λ entry. is_chosen (reached a body.blocks) entry.1 ≡ true → OperandStays body.blocks a entry.0) entries
    → Every (λ entry. entry.1 < length body.blocks) entries
    → Every (IsLeftSure known body a) (flat_map (λ entry. operand_uses entry.1 (first_result (left_of known body a) (suc entry.1)) entry.0) (left_entries (leaving known body.blocks a) place before entries))
entries_move items params returns known body a place before [] h sure stays within = tt
entries_move items params returns known body a place before (entry ∷ more) h sure stays within =
    by (w.edge entry.1 place (count_by (λ other. other == entry.1) before)) refl (entries_move items params returns known body a place (entry.1 ∷ before) more h sure.1 stays.1 within.1)
  where
    w : Leaving
    w = leaving known body.blocks a

    own : List (Operand × ℕ) → List Use
    own es = flat_map (λ (e : Operand × ℕ). operand_uses e.1 (first_result (left_of known body a) (suc e.1)) e.0) es

    by : (b : Bool) → w.edge entry.1 place (count_by (λ other. other == entry.1) before) ≡ b → Every (IsLeftSure known body a) (own (left_entries w place (entry.1 ∷ before) more))
        → Every (IsLeftSure known body a) (own ((if b then (left_operand w entry.0, rank w.reached entry.1) ∷ [] else []) ++ left_entries w place (entry.1 ∷ before) more))
    by true e rest =
        let edge = edge_set a entry.1 place (count_by (λ other. other == entry.1) before) e in
        let set : is_chosen (reached a body.blocks) entry.1 ≡ true = reached_flag a body.blocks entry.1 within.0 ∙ start_reached a h.led entry.1 edge.0 place edge.1 in
        let next : first_result (left_of known body a) (suc (rank (reached a body.blocks) entry.1)) ≡ rank (kept a body.blocks) (first_result body.blocks (suc entry.1)) =
        ap (first_result (left_of known body a)) (sym (rank_set (reached a body.blocks) entry.1 set)) ∙ first_at known body a items params returns (suc entry.1) h (omega (arith, within.0)) in
        every_append (IsLeftSure known body a) (operand_uses (rank w.reached entry.1) (first_result (left_of known body a) (suc (rank w.reached entry.1))) (left_operand w entry.0)) (own (left_entries w place (entry.1 ∷ before) more))
        (subst (λ n. Every (IsLeftSure known body a) (operand_uses (rank w.reached entry.1) n (left_operand w entry.0))) (sym next)
        (operand_moves items params returns known body a entry.1 (first_result body.blocks (suc entry.1)) entry.0 h set sure.0 (stays.0 set)))
        rest
    by false e rest = rest

pub phis_move : (items : List Item) (params : List Scalar) (returns : Option Scalar) (known : List Known) (body : Body) (a : Assigned) (place n : ℕ) (phis : List Phi) → Held items params returns known body a
    → Every (λ phi. Every (Sure body.blocks) (phi_uses body.blocks phi)) phis → Every (λ phi. Every (λ entry. is_chosen (reached a body.blocks) entry.1 ≡ true → OperandStays body.blocks a entry.0) phi.entries) phis
    → Every (λ phi. Every (λ entry. entry.1 < length body.blocks) phi.entries) phis
    → Every (IsLeftSure known body a) (flat_map (phi_uses (left_of known body a)) (left_phis (leaving known body.blocks a) place n phis))
phis_move items params returns known body a place n [] h sure stays within = tt
phis_move items params returns known body a place n (phi ∷ more) h sure stays within = by (is_chosen (kept a body.blocks) n) (phis_move items params returns known body a place (suc n) more h sure.1 stays.1 within.1)
  where
    w : Leaving
    w = leaving known body.blocks a

    by : (b : Bool) → Every (IsLeftSure known body a) (flat_map (phi_uses (left_of known body a)) (left_phis w place (suc n) more))
        → Every (IsLeftSure known body a) (flat_map (phi_uses (left_of known body a)) ((if b then record { ty = phi.ty; entries = left_entries w place [] phi.entries } ∷ [] else []) ++ left_phis w place (suc n) more))
    by true rest =
        every_append (IsLeftSure known body a) (phi_uses (left_of known body a) (record { ty = phi.ty; entries = left_entries w place [] phi.entries })) (flat_map (phi_uses (left_of known body a)) (left_phis w place (suc n) more))
        (entries_move items params returns known body a place [] phi.entries h (every_flat (Sure body.blocks) (λ entry. operand_uses entry.1 (first_result body.blocks (suc entry.1)) entry.0) phi.entries sure.0) stays.0 within.0)
        rest
    by false rest = rest
