-- Instructions as they are written are formed and typed.
use Rattle.std.proofs.Common.{◌≡◌, ◌∙◌, ℕ, pos, Bool, true, false, List, [], ◌∷◌, Option, None, Some, length, map, refl, ap, sym, subst}
use Rattle.std.specs.Prelude.{slice_get}
use Rattle.std.proofs.lemmas.Bool.{false≢true}
use Rattle.ir_types.specs.declared.scalar.Scalar.{Scalar}
use Rattle.ir_types.specs.declared.scalar.Scalar.TheVariants.{Ptr}
use Rattle.ir_types.specs.declared.scalar.FnType.{FnType}
use Rattle.ir_types.specs.declared.scalar.Ext.{Ext}
use Rattle.ir_syntax.specs.declared.constant.Const.TheVariants as const
use Rattle.ir_syntax.specs.declared.constant.Operand.{Operand}
use Rattle.ir_syntax.specs.declared.constant.Operand.TheVariants as operand
use Rattle.ir_syntax.specs.declared.body.Arg.{Arg}
use Rattle.ir_syntax.specs.declared.body.Inst.{Inst}
use Rattle.ir_syntax.specs.declared.body.Inst.TheVariants.{Bin, Icmp, Select, Cast, Alloca, Load, Store, Gep, Call}
use Rattle.ir_syntax.specs.declared.body.Phi.{Phi}
use Rattle.ir_syntax.specs.declared.body.Term.{Term}
use Rattle.ir_syntax.specs.declared.body.Term.TheVariants as term
use Rattle.ir_syntax.specs.declared.body.Body.{Body}
use Rattle.ir_syntax.specs.declared.item.Param.{Param}
use Rattle.ir_syntax.specs.declared.item.Item.{Item}
use Rattle.ir_syntax.specs.Callees.{written_callee}
use Rattle.ir_syntax.specs.FormedBody.{Places, is_intrinsic_item, FormedCall, FormedInst, places_of}
use Rattle.ir_syntax.specs.FunctionTypes.{function_type}
use Rattle.ir_syntax.specs.Mapped.{map_arg, map_operands, map_phi, map_term}
use Rattle.ir_syntax.specs.Operands.{operands, term_operands, phi_operands}
use Rattle.ir_syntax.specs.Typed.{Types, CalleeSuits, TypedCall, TypedInst}
use Rattle.demands.specs.Names.{is_unknown}
use Rattle.demands.specs.Order.{pattern_of}
use Rattle.interface.specs.Masks.{chosen}
use Rattle.residual_laws.specs.Mapping.{IsNoCall}
use Rattle.residual_laws.proofs.Calls.{all_mapped, some_mapped}
use Rattle.residual_laws.proofs.Every.{Every}
use Rattle.residual_laws.proofs.Mapping.{inst_mapped}
use Rattle.winnowed_form.specs.declared.named.Named.{Named}
use Rattle.winnowed_form.specs.declared.named.Named.TheVariants.{Own, CopyOf}
use Rattle.winnowed_form.specs.Names.{call_name}
use Rattle.winnowed_form.specs.Bodies.{Writing, written_operand, call_to, known_args, written_call, written_inst, written_body}
use Rattle.linking_again.proofs.Kept.{Has, HasOwn, Suit, kept_operand, IsKept, kept_is, int_kept, callee_kept, none_intrinsic, some_intrinsic, types_in, keeps, address_formed, address_callee}

-- ---- what is mapped alike

-- two functions agree on these operands
abbrev pub Agree : (Operand → Operand) → (Operand → Operand) → List Operand → Type 0
Agree f g os = Every (λ o. f o ≡ g o) os

indices_alike : (f g : Operand → Operand) (indices : List (Scalar × Operand)) → Agree f g (map (λ (index : Scalar × Operand). index.1) indices)
    → map {B = Scalar × Operand} (λ (index : Scalar × Operand). (index.0, f index.1)) indices ≡ map (λ (index : Scalar × Operand). (index.0, g index.1)) indices
indices_alike f g [] h = refl
indices_alike f g (index ∷ more) h = λ i. (index.0, h.0 i) ∷ indices_alike f g more h.1 i

pub args_alike : (f g : Operand → Operand) (args : List Arg) → Agree f g (map (λ (arg : Arg). arg.value) args) → map (map_arg f) args ≡ map (map_arg g) args
args_alike f g [] h = refl
args_alike f g (arg ∷ more) h = λ i. record arg { value = h.0 i } ∷ args_alike f g more h.1 i

pub inst_alike : (f g : Operand → Operand) (inst : Inst) → Agree f g (operands inst) → map_operands f inst ≡ map_operands g inst
inst_alike f g (Bin op flags ty a b) h = λ i. Bin op flags ty (h.0 i) (h.1.0 i)
inst_alike f g (Icmp pred ty a b) h = λ i. Icmp pred ty (h.0 i) (h.1.0 i)
inst_alike f g (Select ty c a b) h = λ i. Select ty (h.0 i) (h.1.0 i) (h.1.1.0 i)
inst_alike f g (Cast op nneg from to a) h = λ i. Cast op nneg from to (h.0 i)
inst_alike f g (Alloca ty count align) h = refl
inst_alike f g (Load ty at align) h = λ i. Load ty (h.0 i) align
inst_alike f g (Store ty value at align) h = λ i. Store ty (h.0 i) (h.1.0 i) align
inst_alike f g (Gep inbounds ty base indices) h = λ i. Gep inbounds ty (h.0 i) (indices_alike f g indices h.1 i)
inst_alike f g (Call fn_ty ret_ext callee args) h = λ i. Call fn_ty ret_ext (h.0 i) (args_alike f g args h.1 i)

entries_alike : (f g : Operand → Operand) (entries : List (Operand × ℕ)) → Agree f g (map (λ (entry : Operand × ℕ). entry.0) entries)
    → map {B = Operand × ℕ} (λ (entry : Operand × ℕ). (f entry.0, entry.1)) entries ≡ map (λ (entry : Operand × ℕ). (g entry.0, entry.1)) entries
entries_alike f g [] h = refl
entries_alike f g (entry ∷ more) h = λ i. (h.0 i, entry.1) ∷ entries_alike f g more h.1 i

pub phi_alike : (f g : Operand → Operand) (phi : Phi) → Agree f g (phi_operands phi) → map_phi f phi ≡ map_phi g phi
phi_alike f g phi h = λ i. record phi { entries = entries_alike f g phi.entries h i }

pub term_alike : (f g : Operand → Operand) (t : Term) → Agree f g (term_operands t) → map_term f t ≡ map_term g t
term_alike f g term.RetVoid h = refl
term_alike f g (term.Ret ty value) h = λ i. term.Ret ty (h.0 i)
term_alike f g (term.Br to) h = refl
term_alike f g (term.CondBr c one other) h = λ i. term.CondBr (h.0 i) one other
term_alike f g (term.Switch ty value default cases) h = λ i. term.Switch ty (h.0 i) default cases
term_alike f g term.Unreachable h = refl

pub all_kept : (w : Writing) (named : List Named) (os : List Operand) → Every (IsKept w named) os → Agree (kept_operand w named) (written_operand w) os
all_kept w named [] h = tt
all_kept w named (o ∷ os) h = (kept_is w named o h.0, all_kept w named os h.1)

-- ---- which instructions are kept

abbrev pub values : List Arg → List Operand
values args = map (λ (arg : Arg). arg.value) args

-- A call of the item at a place, of this type, may be written as a call of the name: of the item itself, or of a copy that has the
-- type without the known parameters.
abbrev pub MayCall : List Item → List Item → (Named → ℕ) → List Named → ℕ → FnType → Named → Type 0
MayCall items others place named k fn_ty (Own j) = (j ≡ k) × HasOwn named j
MayCall items others place named k fn_ty (CopyOf d) = Has named (CopyOf d) × (function_type (slice_get items k) ≡ Some fn_ty
    → (fn_ty.variadic ≡ false) × (function_type (slice_get others (place (CopyOf d))) ≡ Some (record fn_ty { params = chosen (map is_unknown (pattern_of d)) fn_ty.params })))

abbrev pub CallKept : List Item → List Item → Writing → List Named → FnType → Operand → List Arg → Option ℕ → Type 0
CallKept items others w named fn_ty callee args None = Every (IsKept w named) (callee ∷ values args)
CallKept items others w named fn_ty callee args (Some k) = Every (IsKept w named) (values args) × MayCall items others w.place named k fn_ty (call_name w.basis w.home (k, known_args args))

abbrev pub InstKept : List Item → List Item → Writing → List Named → Inst → Type 0
InstKept items others w named (Bin op flags ty a b) = Every (IsKept w named) (operands (Bin op flags ty a b))
InstKept items others w named (Icmp pred ty a b) = Every (IsKept w named) (operands (Icmp pred ty a b))
InstKept items others w named (Select ty c a b) = Every (IsKept w named) (operands (Select ty c a b))
InstKept items others w named (Cast op nneg from to a) = Every (IsKept w named) (operands (Cast op nneg from to a))
InstKept items others w named (Alloca ty count align) = Unit {0}
InstKept items others w named (Load ty at align) = Every (IsKept w named) (operands (Load ty at align))
InstKept items others w named (Store ty value at align) = Every (IsKept w named) (operands (Store ty value at align))
InstKept items others w named (Gep inbounds ty base indices) = Every (IsKept w named) (operands (Gep inbounds ty base indices))
InstKept items others w named (Call fn_ty ret_ext callee args) = CallKept items others w named fn_ty callee args (written_callee callee)

module _ (items others : List Item) (params : List Param) (w : Writing) (named : List Named) (body : Body) (suit : Suit items others w.place named) (long : length w.stays ≡ length params) where
  abbrev pub places : Places
  places = places_of items (length params) body

  abbrev pub later : Places
  later = places_of others (length (chosen w.stays params)) (written_body w body)

  abbrev pub types : Types
  types = types_in items params body

  abbrev pub typed : Types
  typed = types_in others (chosen w.stays params) (written_body w body)

  abbrev pub Fit : Inst → Type 0
  Fit inst = FormedInst later inst × TypedInst typed inst

  -- ---- calls

  module _ (fn_ty : FnType) (ret_ext : Ext) (callee : Operand) (args : List Arg) (formed : FormedCall places fn_ty callee args) (is_typed : TypedCall types fn_ty callee args) where
    abbrev f : Operand → Operand
    f = kept_operand w named

    args_same : Every (IsKept w named) (values args) → map (map_arg f) args ≡ map (map_arg (written_operand w)) args
    args_same h = args_alike f (written_operand w) args (all_kept w named (values args) h)

    other_call : written_callee callee ≡ None → Every (IsKept w named) (callee ∷ values args) → Fit (map_operands (written_operand w) (Call fn_ty ret_ext callee args))
    other_call none h =
        let k = keeps items others params w named body suit long in
        let was : CalleeSuits types fn_ty callee None = subst (CalleeSuits types fn_ty callee) none is_typed.has_callee in
        let one = k.operands Ptr callee formed.has_callee was in
        let none_then : written_callee (f callee) ≡ None = callee_kept w named callee none in
        let fits = all_mapped places later types typed f fn_ty callee (f callee) args k (int_kept w named 0) one.0 (subst (CalleeSuits typed fn_ty (f callee)) (sym none_then) one.1)
        (λ t. absurd (false≢true (sym (none_intrinsic later.items (f callee) none_then) ∙ t))) formed is_typed in
        let same : map_operands f (Call fn_ty ret_ext callee args) ≡ map_operands (written_operand w) (Call fn_ty ret_ext callee args) = inst_alike f (written_operand w) (Call fn_ty ret_ext callee args) (all_kept w named (callee ∷ values args) h) in
        subst Fit same fits

    named_call : (k : ℕ) (name : Named) → written_callee callee ≡ Some k → Every (IsKept w named) (values args) → MayCall items others w.place named k fn_ty name → Fit (call_to w fn_ty ret_ext args name)
    named_call k (Own j) is h may =
        let ks = keeps items others params w named body suit long in
        let at = w.place (Own j) in
        let other = operand.Const (const.Addr at (pos 0)) in
        let of_k : function_type (slice_get items k) ≡ Some fn_ty = subst (CalleeSuits types fn_ty callee) is is_typed.has_callee in
        let of_at : function_type (slice_get others at) ≡ Some fn_ty = suit.own_type j may.1 ∙ ap (λ n. function_type (slice_get items n)) may.0 ∙ of_k in
        let fits = all_mapped places later types typed f fn_ty callee other args ks (int_kept w named 0) (address_formed later at (suit.own_there j may.1)) (subst (CalleeSuits typed fn_ty other) (sym (address_callee at)) of_at)
        (λ t. some_intrinsic items callee k is ∙ ap (λ n. is_intrinsic_item (slice_get items n)) (sym may.0) ∙ sym (suit.own_intrinsic j may.1) ∙ sym (some_intrinsic others other at (address_callee at)) ∙ t) formed is_typed in
        subst (λ (l : List Arg). Fit (Call fn_ty ret_ext other l)) (args_same h) fits
    named_call k (CopyOf d) is h may =
        let ks = keeps items others params w named body suit long in
        let at = w.place (CopyOf d) in
        let other = operand.Const (const.Addr at (pos 0)) in
        let mask = map is_unknown (pattern_of d) in
        let of_k : function_type (slice_get items k) ≡ Some fn_ty = subst (CalleeSuits types fn_ty callee) is is_typed.has_callee in
        let copy = may.1 of_k in
        let fits = some_mapped places later types typed f fn_ty callee other args mask ks copy.0 (address_formed later at (suit.copy_there d may.0))
        (subst (CalleeSuits typed (record fn_ty { params = chosen mask fn_ty.params }) other) (sym (address_callee at)) copy.1) (some_intrinsic others other at (address_callee at) ∙ suit.copy_plain d may.0) formed is_typed in
        subst (λ (l : List Arg). Fit (Call (record fn_ty { params = chosen mask fn_ty.params }) ret_ext other l)) (chosen_same mask) fits
      where
        chosen_kept : (m : List Bool) (l : List Arg) → Every (IsKept w named) (values l) → Every (IsKept w named) (values (chosen m l))
        chosen_kept [] l g = tt
        chosen_kept (flag ∷ m) [] g = tt
        chosen_kept (true ∷ m) (x ∷ l) g = (g.0, chosen_kept m l g.1)
        chosen_kept (false ∷ m) (x ∷ l) g = chosen_kept m l g.1

        chosen_same : (m : List Bool) → map (map_arg f) (chosen m args) ≡ map (map_arg (written_operand w)) (chosen m args)
        chosen_same m = args_alike f (written_operand w) (chosen m args) (all_kept w named (values (chosen m args)) (chosen_kept m args h))

    call_fits : (o : Option ℕ) → written_callee callee ≡ o → CallKept items others w named fn_ty callee args o → Fit (written_call w fn_ty ret_ext callee args o)
    call_fits None e h = other_call e h
    call_fits (Some k) e h = named_call k (call_name w.basis w.home (k, known_args args)) e h.0 h.1

  -- ---- instructions

  other_fits : (inst : Inst) → IsNoCall inst → Every (IsKept w named) (operands inst) → FormedInst places inst → TypedInst types inst → Fit (map_operands (written_operand w) inst)
  other_fits inst no_call h formed is_typed =
      subst Fit (inst_alike (kept_operand w named) (written_operand w) inst (all_kept w named (operands inst) h)) (inst_mapped places types later typed (kept_operand w named) inst (keeps items others params w named body suit long) no_call formed is_typed)

  -- An instruction of the body, as it is written, is one of the written body.
  pub inst_fits : (inst : Inst) → InstKept items others w named inst → FormedInst places inst → TypedInst types inst → Fit (written_inst w inst)
  inst_fits (Bin op flags ty a b) h formed is_typed = other_fits (Bin op flags ty a b) tt h formed is_typed
  inst_fits (Icmp pred ty a b) h formed is_typed = other_fits (Icmp pred ty a b) tt h formed is_typed
  inst_fits (Select ty c a b) h formed is_typed = other_fits (Select ty c a b) tt h formed is_typed
  inst_fits (Cast op nneg from to a) h formed is_typed = other_fits (Cast op nneg from to a) tt h formed is_typed
  inst_fits (Alloca ty count align) h formed is_typed = (formed, is_typed)
  inst_fits (Load ty at align) h formed is_typed = other_fits (Load ty at align) tt h formed is_typed
  inst_fits (Store ty value at align) h formed is_typed = other_fits (Store ty value at align) tt h formed is_typed
  inst_fits (Gep inbounds ty base indices) h formed is_typed = other_fits (Gep inbounds ty base indices) tt h formed is_typed
  inst_fits (Call fn_ty ret_ext callee args) h formed is_typed = call_fits fn_ty ret_ext callee args formed is_typed (written_callee callee) refl h
