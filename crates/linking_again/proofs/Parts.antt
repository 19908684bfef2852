-- The parts of a body have their places where its uses have theirs and it uses no parameter that is left out.
use Rattle.std.proofs.Common.{◌≡◌, ◌≢◌, ℕ, Bool, true, false, List, [], ◌∷◌, ◌++◌, Option, None, Some, map, refl, sym, subst}
use Rattle.std.specs.Prelude.{slice_get, flat_map, option_map, IfSome, if◌then◌else◌}
use Rattle.std.specs.List.{filter_map}
use Rattle.ir_types.specs.declared.scalar.Known.{Known}
use Rattle.ir_types.specs.declared.scalar.FnType.{FnType}
use Rattle.ir_syntax.specs.declared.constant.Operand.{Operand}
use Rattle.ir_syntax.specs.declared.constant.Operand.TheVariants as operand
use Rattle.ir_syntax.specs.declared.body.Arg.{Arg}
use Rattle.ir_syntax.specs.declared.body.Inst.{Inst}
use Rattle.ir_syntax.specs.declared.body.Inst.TheVariants.{Bin, Icmp, Select, Cast, Alloca, Load, Store, Gep, Call}
use Rattle.ir_syntax.specs.declared.body.Block.{Block}
use Rattle.ir_syntax.specs.declared.body.Body.{Body}
use Rattle.ir_syntax.specs.declared.item.Item.{Item}
use Rattle.ir_syntax.specs.Callees.{written_callee}
use Rattle.ir_syntax.specs.FunctionTypes.{function_type}
use Rattle.ir_syntax.specs.Named.{operand_names, phi_names, term_names}
use Rattle.ir_syntax.specs.Operands.{operands, term_operands, phi_operands}
use Rattle.demands.specs.declared.demand.Demand.{Demand}
use Rattle.demands.specs.Names.{is_unknown}
use Rattle.demands.specs.Order.{pattern_of}
use Rattle.interface.specs.Asked.{called}
use Rattle.interface.specs.Masks.{chosen}
use Rattle.interface.specs.Names.{uses_beside, inst_others, block_others}
use Rattle.interface.specs.Summaries.{known_of}
use Rattle.residual_laws.specs.Used.{block_operands, body_operands}
use Rattle.residual_laws.proofs.Every.{Every, every_first, every_rest, every_flat, map_every}
use Rattle.winnowed_form.specs.declared.named.Named.{Named}
use Rattle.winnowed_form.specs.declared.named.Named.TheVariants.{Own, CopyOf}
use Rattle.winnowed_form.specs.Basis.{Basis}
use Rattle.winnowed_form.specs.Copies.{is_copy}
use Rattle.winnowed_form.specs.Names.{written_as, call_name, inst_name, block_uses}
use Rattle.winnowed_form.specs.Bodies.{Writing, known_args}
use Rattle.linking_again.proofs.Bodies.{BlockKept}
use Rattle.linking_again.proofs.Insts.{values, MayCall, CallKept, InstKept}
use Rattle.linking_again.proofs.Kept.{Has, HasOwn, IsKept}

-- ---- names

pub both : {X : Type 0} (P Q R : X → Type 0) (xs : List X) → ((x : X) → P x → Q x → R x) → Every P xs → Every Q xs → Every R xs
both P Q R [] f h g = tt
both P Q R (x ∷ xs) f h g = (f x h.0 g.0, both P Q R xs f h.1 g.1)

pub every_some : {A B : Type 0} (P : B → Type 0) (g : A → Option B) (xs : List A) → Every P (filter_map g xs) → Every (λ x. IfSome (g x) P) xs
every_some P g [] h = tt
every_some {A} {B} P g (x ∷ xs) h = by (g x) refl (every_some P g xs)
  where
    none : g x ≡ None → filter_map g (x ∷ xs) ≡ filter_map g xs
    none is = rw is

    some : (y : B) → g x ≡ Some y → filter_map g (x ∷ xs) ≡ y ∷ filter_map g xs
    some y is = rw is

    by : (o : Option B) → g x ≡ o → (Every P (filter_map g xs) → Every (λ y. IfSome (g y) P) xs) → IfSome (g x) P × Every (λ y. IfSome (g y) P) xs
    by None e rest = (subst (λ (o : Option B). IfSome o P) (sym e) tt, rest (subst (Every P) (none e) h))
    by (Some y) e rest = (subst (λ (o : Option B). IfSome o P) (sym e) (subst (Every P) (some y e) h).0, rest (subst (Every P) (some y e) h).1)

-- a call by a name is of the item itself or of a copy
own_name : (b : Basis) (k j : ℕ) (o : Option Demand) → written_as b k o ≡ Own j → j ≡ k
own_name b k j None e = sym (own_is e)
  where
    own_is : Own k ≡ Own j → k ≡ j
    own_is h = cc
own_name b k j (Some d) e = by (is_copy b d) e
  where
    by : (c : Bool) → (if c then CopyOf d else Own k) ≡ Own j → j ≡ k
    by true h = cc
    by false h = sym (own_is h)
      where
        own_is : Own k ≡ Own j → k ≡ j
        own_is g = cc

-- ---- parts

-- what the names and operands of a block must be
module _ (items others : List Item) (w : Writing) (named : List Named) where
  -- The parameter isn't left out.
  abbrev pub IsThere : Operand → Type 0
  IsThere o = (k : ℕ) → o ≡ operand.Param k → slice_get w.stays k ≢ Some false

  -- the copies that are called have the types that calls of them are written with
  abbrev pub CopiesSuit : Type 0
  CopiesSuit = (k : ℕ) (known : List Known) (d : Demand) → call_name w.basis w.home (k, known) ≡ CopyOf d → Has named (CopyOf d) → (fn_ty : FnType) → function_type (slice_get items k) ≡ Some fn_ty
      → (fn_ty.variadic ≡ false) × (function_type (slice_get others (w.place (CopyOf d))) ≡ Some (record fn_ty { params = chosen (map is_unknown (pattern_of d)) fn_ty.params }))

  one_kept : (o : Operand) → IsThere o → Every (HasOwn named) (operand_names o) → IsKept w named o
  one_kept (operand.Param k) there names = there k refl
  one_kept (operand.Reg k) there names = tt
  one_kept (operand.Const c) there names = names

  os_kept : (os : List Operand) → Every IsThere os → Every (HasOwn named) (flat_map operand_names os) → Every (IsKept w named) os
  os_kept os there names = both IsThere (λ o. Every (HasOwn named) (operand_names o)) (IsKept w named) os one_kept there (every_flat (HasOwn named) operand_names os names)

  may_call : CopiesSuit → (k : ℕ) (known : List Known) (fn_ty : FnType) (name : Named) → call_name w.basis w.home (k, known) ≡ name → Has named name → MayCall items others w.place named k fn_ty name
  may_call suit k known fn_ty (Own j) e has = (own_name w.basis k j (called w.basis.program w.basis.cycles w.home (k, known)) e, has)
  may_call suit k known fn_ty (CopyOf d) e has = (has, λ is. suit k known d e has fn_ty is)

  call_kept : CopiesSuit → (fn_ty : FnType) (callee : Operand) (args : List Arg) (o : Option ℕ) → Every IsThere (callee ∷ values args) → Every (HasOwn named) (flat_map operand_names (uses_beside o (callee ∷ values args)))
      → IfSome (option_map (call_name w.basis w.home) (option_map (λ place. (place, map (known_of (record { known = [] }) []) (uses_beside o (callee ∷ values args)))) o)) (Has named) → CallKept items others w named fn_ty callee args o
  call_kept suit fn_ty callee args None there names has = os_kept (callee ∷ values args) there names
  call_kept suit fn_ty callee args (Some k) there names has = (os_kept (values args) there.1 names, may_call suit k (known_args args) fn_ty (call_name w.basis w.home (k, known_args args)) refl has)

  inst_kept : CopiesSuit → (inst : Inst) → Every IsThere (operands inst) → Every (HasOwn named) (inst_others inst) → IfSome (inst_name w.basis w.home inst) (Has named) → InstKept items others w named inst
  inst_kept suit (Bin op flags ty a b) there names has = os_kept (operands (Bin op flags ty a b)) there names
  inst_kept suit (Icmp pred ty a b) there names has = os_kept (operands (Icmp pred ty a b)) there names
  inst_kept suit (Select ty c a b) there names has = os_kept (operands (Select ty c a b)) there names
  inst_kept suit (Cast op nneg from to a) there names has = os_kept (operands (Cast op nneg from to a)) there names
  inst_kept suit (Alloca ty count align) there names has = tt
  inst_kept suit (Load ty at align) there names has = os_kept (operands (Load ty at align)) there names
  inst_kept suit (Store ty value at align) there names has = os_kept (operands (Store ty value at align)) there names
  inst_kept suit (Gep inbounds ty base indices) there names has = os_kept (operands (Gep inbounds ty base indices)) there names
  inst_kept suit (Call fn_ty ret_ext callee args) there names has = call_kept suit fn_ty callee args (written_callee callee) there names has

  block_kept : CopiesSuit → (block : Block) → Every IsThere (block_operands block) → Every (Has named) (block_uses w.basis w.home block) → BlockKept items others w named block
  block_kept suit block there has =
      let calls = every_first (Has named) (filter_map (inst_name w.basis w.home) block.insts) (map Own (block_others block)) has in
      let own = map_every (Has named) Own (block_others block) (every_rest (Has named) (filter_map (inst_name w.basis w.home) block.insts) (map Own (block_others block)) has) in
      let front = every_first (HasOwn named) (flat_map phi_names block.phis ++ flat_map inst_others block.insts) (term_names block.term) own in
      let before = every_first IsThere (flat_map phi_operands block.phis ++ flat_map operands block.insts) (term_operands block.term) there in
      record {
        phis = both (λ phi. Every IsThere (phi_operands phi)) (λ phi. Every (HasOwn named) (phi_names phi)) (λ phi. Every (IsKept w named) (phi_operands phi)) block.phis (λ phi t n. os_kept (phi_operands phi) t n)
            (every_flat IsThere phi_operands block.phis (every_first IsThere (flat_map phi_operands block.phis) (flat_map operands block.insts) before))
            (every_flat (HasOwn named) phi_names block.phis (every_first (HasOwn named) (flat_map phi_names block.phis) (flat_map inst_others block.insts) front));
        insts = both (λ inst. Every IsThere (operands inst)) (λ inst. Every (HasOwn named) (inst_others inst) × IfSome (inst_name w.basis w.home inst) (Has named)) (InstKept items others w named) block.insts (λ inst t n. inst_kept suit inst t n.0 n.1)
            (every_flat IsThere operands block.insts (every_rest IsThere (flat_map phi_operands block.phis) (flat_map operands block.insts) before))
            (both (λ inst. Every (HasOwn named) (inst_others inst)) (λ inst. IfSome (inst_name w.basis w.home inst) (Has named)) (λ inst. Every (HasOwn named) (inst_others inst) × IfSome (inst_name w.basis w.home inst) (Has named)) block.insts (λ inst a c. (a, c))
            (every_flat (HasOwn named) inst_others block.insts (every_rest (HasOwn named) (flat_map phi_names block.phis) (flat_map inst_others block.insts) front))
            (every_some (Has named) (inst_name w.basis w.home) block.insts calls));
        term = os_kept (term_operands block.term) (every_rest IsThere (flat_map phi_operands block.phis ++ flat_map operands block.insts) (term_operands block.term) there)
            (every_rest (HasOwn named) (flat_map phi_names block.phis ++ flat_map inst_others block.insts) (term_names block.term) own);
      }

  -- the blocks of a body
  pub blocks_kept : CopiesSuit → (body : Body) → Every IsThere (body_operands body) → Every (Has named) (flat_map (block_uses w.basis w.home) body.blocks) → Every (BlockKept items others w named) body.blocks
  blocks_kept suit body there has =
      both (λ block. Every IsThere (block_operands block)) (λ block. Every (Has named) (block_uses w.basis w.home block)) (BlockKept items others w named) body.blocks (λ block t n. block_kept suit block t n)
      (every_flat IsThere block_operands body.blocks there) (every_flat (Has named) (block_uses w.basis w.home) body.blocks has)
