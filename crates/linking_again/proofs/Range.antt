-- What a formed item names is in range.
use Rattle.std.proofs.Common.{◌≡◌, ◌∙◌, ℕ, ◌<◌, nat_lt, Bool, true, ◌==◌, List, [], ◌∷◌, ◌++◌, Option, None, Some, length, map, sym, subst}
use Rattle.std.specs.Prelude.{flat_map, IfSome}
use Rattle.std.specs.List.{list_all}
use Rattle.std.proofs.lemmas.Bool.{false≢true, and_parts, ltb-true}
use Rattle.ir_types.specs.declared.scalar.Scalar.{Scalar}
use Rattle.ir_types.specs.declared.shape.Ty.{Ty, out-Ty}
use Rattle.ir_types.specs.declared.shape.Ty.TheOpen.{Ty-F}
use Rattle.ir_types.specs.declared.shape.Ty.TheBlock.{One}
use Rattle.ir_syntax.specs.declared.constant.Const.{Const, roll-Const}
use Rattle.ir_syntax.specs.declared.constant.Const.TheOpen.{Const-F}
use Rattle.ir_syntax.specs.declared.constant.Const.TheFolds.{map-Const, ind-Const}
use Rattle.ir_syntax.specs.declared.constant.Operand.{Operand}
use Rattle.ir_syntax.specs.declared.constant.Operand.TheVariants as operand
use Rattle.ir_syntax.specs.declared.body.Arg.{Arg}
use Rattle.ir_syntax.specs.declared.body.Inst.{Inst}
use Rattle.ir_syntax.specs.declared.body.Inst.TheVariants.{Bin, Icmp, Select, Cast, Alloca, Load, Store, Gep, Call}
use Rattle.ir_syntax.specs.declared.body.Term.{Term}
use Rattle.ir_syntax.specs.declared.body.Term.TheVariants as term
use Rattle.ir_syntax.specs.declared.body.Block.{Block}
use Rattle.ir_syntax.specs.declared.body.Body.{Body}
use Rattle.ir_syntax.specs.declared.item.Item.{Item}
use Rattle.ir_syntax.specs.declared.item.Item.TheVariants as item
use Rattle.ir_syntax.specs.FormedBody.{Places, IsOperand, IsIndex, FormedInst, FormedPhi, FormedTerm, FormedBlock, FormedBody, places_of}
use Rattle.ir_syntax.specs.FormedItem.{FormedItem}
use Rattle.ir_syntax.specs.Named.{names, names_step, operand_names, inst_names, phi_names, term_names, block_names, body_names, init_names, definition_names, item_names}
use Rattle.ir_syntax.specs.Operands.{operands, term_operands, phi_operands}
use Rattle.ir_syntax.specs.Suits.{suits, suits_step, Suits, takes_address, takes_parts, each_takes}
use Rattle.linking_again.proofs.Moved.{names_roll, suits_roll}
use Rattle.residual_laws.proofs.Every.{Every, every_of_all, every_to, every_append, flat_every}

-- ---- constants

module _ (items : ℕ) where
  abbrev Within : ℕ → Type 0
  Within place = place < items

  abbrev NamesWithin : Const → Type 0
  NamesWithin c = (ty : Ty) → suits items c ty ≡ true → Every Within (names c)

  abbrev Known : Type 0
  Known = (c : Const) × NamesWithin c

  abbrev bare : List Known → List Const
  bare cs = map (λ (c : Known). c.0) cs

  elements_within : (element : Ty) (cs : List Known) → list_all (λ part. part element) (map (suits items) (bare cs)) ≡ true → Every Within (flat_map (λ part. part) (map names (bare cs)))
  elements_within element [] fit = tt
  elements_within element (c ∷ cs) fit =
      let two = and_parts (suits items c.0 element) (list_all (λ part. part element) (map (suits items) (bare cs))) fit in
      every_append Within (names c.0) (flat_map (λ part. part) (map names (bare cs))) (c.1 element two.0) (elements_within element cs two.1)

  fields_within : (fields : List Ty) (cs : List Known) → each_takes (map (suits items) (bare cs)) fields ≡ true → Every Within (flat_map (λ part. part) (map names (bare cs)))
  fields_within fields [] fit = tt
  fields_within [] (c ∷ cs) fit = absurd (false≢true fit)
  fields_within (ty ∷ tys) (c ∷ cs) fit =
      let two = and_parts (suits items c.0 ty) (each_takes (map (suits items) (bare cs)) tys) fit in
      every_append Within (names c.0) (flat_map (λ part. part) (map names (bare cs))) (c.1 ty two.0) (fields_within tys cs two.1)

  parts_within : (x : Ty-F Ty) (cs : List Known) → takes_parts x (map (suits items) (bare cs)) ≡ true → Every Within (flat_map (λ part. part) (map names (bare cs)))
  parts_within (Ty-F.One scalar) cs fit = absurd (false≢true fit)
  parts_within (Ty-F.Array count element) cs fit = elements_within element cs (and_parts (length (map (suits items) (bare cs)) == count) (list_all (λ part. part element) (map (suits items) (bare cs))) fit).1
  parts_within (Ty-F.Struct fields) cs fit = fields_within fields cs fit

  layer_within : (y : Const-F Known) (ty : Ty) → suits_step items (map-Const Const (Ty → Bool) (suits items) (map-Const Known Const (λ c. c.0) y)) ty ≡ true
      → Every Within (names_step (map-Const Const (List ℕ) names (map-Const Known Const (λ c. c.0) y)))
  layer_within (Const-F.Int n) ty fit = tt
  layer_within Const-F.Null ty fit = tt
  layer_within (Const-F.Addr place offset) ty fit = (ltb-true place items (and_parts (takes_address (out-Ty ty)) (nat_lt place items) fit).1, tt)
  layer_within Const-F.Undef ty fit = tt
  layer_within Const-F.Poison ty fit = tt
  layer_within Const-F.Zero ty fit = tt
  layer_within (Const-F.Text bytes) ty fit = tt
  layer_within (Const-F.Many cs) ty fit = parts_within (out-Ty ty) cs fit

  names_within : (c : Const) → NamesWithin c
  names_within = ind-Const NamesWithin (λ x y made. subst (λ z. NamesWithin (roll-Const z)) made (λ ty fit.
      let rolled = map-Const Known Const (λ c. c.0) y in
      subst (Every Within) (sym (names_roll rolled)) (layer_within y ty (sym (suits_roll items rolled ty) ∙ fit))))

-- ---- bodies

module _ (places : Places) where
  abbrev In : ℕ → Type 0
  In place = place < length places.items

  abbrev OfIn : Operand → Type 0
  OfIn o = Every In (operand_names o)

  one_in : (ty : Scalar) (o : Operand) → IsOperand places ty o → OfIn o
  one_in ty (operand.Param k) h = tt
  one_in ty (operand.Reg k) h = tt
  one_in ty (operand.Const c) h = names_within (length places.items) c (One ty) h

  indices_in : (indices : List (Scalar × Operand)) → Every (IsIndex places) indices → Every OfIn (map (λ (index : Scalar × Operand). index.1) indices)
  indices_in [] h = tt
  indices_in (index ∷ more) h = (one_in index.0 index.1 h.0.1, indices_in more h.1)

  args_in : (args : List Arg) → Every (λ (arg : Arg). IsOperand places arg.ty arg.value) args → Every OfIn (map (λ (arg : Arg). arg.value) args)
  args_in [] h = tt
  args_in (arg ∷ more) h = (one_in arg.ty arg.value h.0, args_in more h.1)

  inst_in : (inst : Inst) → FormedInst places inst → Every OfIn (operands inst)
  inst_in (Bin op flags ty a b) h = (one_in ty a h.1, (one_in ty b h.2, tt))
  inst_in (Icmp pred ty a b) h = (one_in ty a h.0, (one_in ty b h.1, tt))
  inst_in (Select ty c a b) h = (one_in _ c h.0, (one_in ty a h.1, (one_in ty b h.2, tt)))
  inst_in (Cast op nneg from to a) h = (one_in from a h.1, tt)
  inst_in (Alloca ty count align) h = tt
  inst_in (Load ty at align) h = (one_in _ at h.0, tt)
  inst_in (Store ty value at align) h = (one_in ty value h.0, (one_in _ at h.1, tt))
  inst_in (Gep inbounds ty base indices) h = (one_in _ base h.1, indices_in indices (every_of_all (IsIndex places) indices h.2))
  inst_in (Call fn_ty ret_ext callee args) h = (one_in _ callee h.has_callee, args_in args (every_of_all (λ (arg : Arg). IsOperand places arg.ty arg.value) args h.has_args))

  entries_in : (ty : Scalar) (entries : List (Operand × ℕ)) → Every (λ (entry : Operand × ℕ). IsOperand places ty entry.0) entries → Every OfIn (map (λ (entry : Operand × ℕ). entry.0) entries)
  entries_in ty [] h = tt
  entries_in ty (entry ∷ more) h = (one_in ty entry.0 h.0, entries_in ty more h.1)

  term_in : (t : Term) → FormedTerm places t → Every OfIn (term_operands t)
  term_in term.RetVoid h = tt
  term_in (term.Ret ty value) h = (one_in ty value h, tt)
  term_in (term.Br to) h = tt
  term_in (term.CondBr c one other) h = (one_in _ c h.0, tt)
  term_in (term.Switch ty value default cases) h = (one_in ty value h.0, tt)
  term_in term.Unreachable h = tt

  block_in : (block : Block) → FormedBlock places block → Every In (block_names block)
  block_in block h =
      every_append In (flat_map phi_names block.phis ++ flat_map inst_names block.insts) (term_names block.term)
      (every_append In (flat_map phi_names block.phis) (flat_map inst_names block.insts)
      (flat_every In phi_names block.phis (every_to (FormedPhi places) (λ phi. Every In (phi_names phi)) block.phis (λ phi g. flat_every In operand_names (phi_operands phi) (entries_in phi.ty phi.entries (every_of_all (λ (entry : Operand × ℕ). IsOperand places phi.ty entry.0) phi.entries g.has_operands)))
      (every_of_all (FormedPhi places) block.phis h.phis)))
      (flat_every In inst_names block.insts (every_to (FormedInst places) (λ inst. Every In (inst_names inst)) block.insts (λ inst g. flat_every In operand_names (operands inst) (inst_in inst g)) (every_of_all (FormedInst places) block.insts h.insts))))
      (flat_every In operand_names (term_operands block.term) (term_in block.term h.term))

body_in : (items : List Item) (params : ℕ) (body : Body) → FormedBody items params body → Every (λ k. k < length items) (body_names body)
body_in items params body h =
    flat_every (λ k. k < length items) block_names body.blocks (every_to (FormedBlock (places_of items params body)) (λ block. Every (λ k. k < length items) (block_names block)) body.blocks (λ block g. block_in (places_of items params body) block g)
    (every_of_all (FormedBlock (places_of items params body)) body.blocks h.has_blocks))

-- What a formed item names is among the items.
pub item_in : (items : List Item) (found : Item) → FormedItem items found → Every (λ k. k < length items) (item_names found)
item_in items (item.Var var) h = by var.init h.suits
  where
    by : (o : Option Const) → IfSome o (λ init. Suits (length items) var.ty init) → Every (λ k. k < length items) (init_names o)
    by None g = tt
    by (Some c) g = names_within (length items) c var.ty g
item_in items (item.Func func) h = by func.body h.has_body
  where
    by : (o : Option Body) → IfSome o (FormedBody items (length func.params)) → Every (λ k. k < length items) (definition_names o)
    by None g = tt
    by (Some body) g = body_in items (length func.params) body g
