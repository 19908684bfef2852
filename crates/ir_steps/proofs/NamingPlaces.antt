-- Each name that a formed item writes is of an item of its module.
use Rattle.std.proofs.Common.{◌≡◌, ℕ, ◌<◌, List, [], ◌∷◌, ◌++◌, length, map, Option, None, Some, IfSome, slice_get, subst, All}
use Rattle.std.specs.List.{flat_map}
use Rattle.std.proofs.lemmas.List.Elements.{All-nil, All-cons, All-head, All-tail, All-append, All-map, All-weaker, All-contains}
use Rattle.ir_types.specs.declared.scalar.Scalar.{Scalar}
use Rattle.ir_types.specs.declared.scalar.Scalar.TheVariants.{I1, Ptr}
use Rattle.ir_types.specs.declared.shape.Ty.TheBlock.{One}
use Rattle.ir_types.proofs.ListSteps.{All-at}
use Rattle.ir_syntax.specs.declared.constant.Const.{Const}
use Rattle.ir_syntax.specs.declared.constant.Operand.{Operand}
use Rattle.ir_syntax.specs.declared.constant.Operand.TheVariants as operand
use Rattle.ir_syntax.specs.declared.body.Arg.{Arg}
use Rattle.ir_syntax.specs.declared.body.Inst.{Inst}
use Rattle.ir_syntax.specs.declared.body.Inst.TheVariants.{Bin, Icmp, Select, Cast, Alloca, Load, Store, Gep, Call}
use Rattle.ir_syntax.specs.declared.body.Term.{Term}
use Rattle.ir_syntax.specs.declared.body.Term.TheVariants.{RetVoid, Ret, Br, CondBr, Switch, Unreachable}
use Rattle.ir_syntax.specs.declared.body.Phi.{Phi}
use Rattle.ir_syntax.specs.declared.body.Block.{Block}
use Rattle.ir_syntax.specs.declared.body.Body.{Body}
use Rattle.ir_syntax.specs.declared.item.Item.{Item}
use Rattle.ir_syntax.specs.declared.item.Item.TheVariants as item
use Rattle.ir_syntax.specs.FormedBody.{Places, IsOperand, IsIndex, FormedInst, FormedPhi, FormedTerm, FormedBlock, FormedBody, places_of}
use Rattle.ir_syntax.specs.FormedItem.{FormedItem}
use Rattle.ir_syntax.specs.Operands.{operands, term_operands, phi_operands}
use Rattle.ir_syntax.specs.Named.{operand_names, inst_names, phi_names, term_names, block_names, init_names, definition_names, item_names}
use Rattle.ir_syntax.specs.Programs.{ProgramData, IsProgram, IsSoundModule}
use Rattle.ir_syntax.specs.Suits.{Suits}
use Rattle.ir_syntax.specs.Symbols.{item_at}
use Rattle.block_memory.specs.Starts.{name_of}
use Rattle.ir_steps.proofs.Fits.{Has, IsThere}
use Rattle.ir_steps.proofs.NamingConstants.{names_within}
use Rattle.ir_steps.proofs.Naming.{IsNamedAt, there_is, item_in, found_is_there}

-- ---- lists

All-flat : {X Y : Type 0} (P : Y → Type 0) (f : X → List Y) (xs : List X) → All (λ x. All P (f x)) xs → All P (flat_map f xs)
All-flat P f [] h = All-nil P
All-flat P f (x ∷ xs) h = All-append P (f x) (flat_map f xs) (All-head (λ y. All P (f y)) x xs h) (All-flat P f xs (All-tail (λ y. All P (f y)) x xs h))

-- ---- a body

module _ (places : Places) where
  abbrev Within : ℕ → Type 0
  Within place = place < length places.items

  -- an operand that names items of the module
  abbrev IsWithin : Operand → Type 0
  IsWithin o = All Within (operand_names o)

  operand_fits : (ty : Scalar) (o : Operand) → IsOperand places ty o → IsWithin o
  operand_fits ty (operand.Param k) h = All-nil Within
  operand_fits ty (operand.Reg k) h = All-nil Within
  operand_fits ty (operand.Const constant) h = names_within (length places.items) constant (One ty) h

  one : (ty : Scalar) (a : Operand) → IsOperand places ty a → All IsWithin (a ∷ [])
  one ty a h = All-cons IsWithin a [] (operand_fits ty a h) (All-nil IsWithin)

  two : (ty other : Scalar) (a b : Operand) → IsOperand places ty a → IsOperand places other b → All IsWithin (a ∷ b ∷ [])
  two ty other a b h k = All-cons IsWithin a (b ∷ []) (operand_fits ty a h) (one other b k)

  operands_fit : (i : Inst) → FormedInst places i → All IsWithin (operands i)
  operands_fit (Bin op flags ty a b) h = two ty ty a b h.1 h.2
  operands_fit (Icmp pred ty a b) h = two ty ty a b h.0 h.1
  operands_fit (Select ty cond a b) h = All-cons IsWithin cond (a ∷ b ∷ []) (operand_fits I1 cond h.0) (two ty ty a b h.1 h.2)
  operands_fit (Cast op nneg from to a) h = one from a h.1
  operands_fit (Alloca ty count align) h = All-nil IsWithin
  operands_fit (Load ty at align) h = one Ptr at h.0
  operands_fit (Store ty value at align) h = two ty Ptr value at h.0 h.1
  operands_fit (Gep inbounds ty base indices) h =
      All-cons IsWithin base (map (λ index. index.1) indices) (operand_fits Ptr base h.1)
      (All-map IsWithin (λ (index : Scalar × Operand). index.1) indices (All-weaker (IsIndex places) (λ index. IsWithin index.1) (λ index k. operand_fits index.0 index.1 k.1) indices h.2))
  operands_fit (Call fn_ty ret_ext callee args) h =
      All-cons IsWithin callee (map (λ arg. arg.value) args) (operand_fits Ptr callee h.has_callee)
      (All-map IsWithin (λ (arg : Arg). arg.value) args (All-weaker (λ arg. IsOperand places arg.ty arg.value) (λ arg. IsWithin arg.value) (λ arg k. operand_fits arg.ty arg.value k) args h.has_args))

  term_fits : (t : Term) → FormedTerm places t → All IsWithin (term_operands t)
  term_fits RetVoid h = All-nil IsWithin
  term_fits (Ret ty value) h = one ty value h
  term_fits (Br to) h = All-nil IsWithin
  term_fits (CondBr cond first other) h = one I1 cond h.0
  term_fits (Switch ty value default cases) h = one ty value h.0
  term_fits Unreachable h = All-nil IsWithin

  phi_fits : (phi : Phi) → FormedPhi places phi → All IsWithin (phi_operands phi)
  phi_fits phi h =
      All-map IsWithin (λ (entry : Operand × ℕ). entry.0) phi.entries (All-weaker (λ entry. IsOperand places phi.ty entry.0) (λ entry. IsWithin entry.0) (λ entry k. operand_fits phi.ty entry.0 k) phi.entries h.has_operands)

  block_fits : (block : Block) → FormedBlock places block → All Within (block_names block)
  block_fits block h =
      All-append Within (flat_map phi_names block.phis ++ flat_map inst_names block.insts) (term_names block.term)
      (All-append Within (flat_map phi_names block.phis) (flat_map inst_names block.insts)
      (All-flat Within phi_names block.phis (All-weaker (FormedPhi places) (λ phi. All Within (phi_names phi)) (λ phi k. All-flat Within operand_names (phi_operands phi) (phi_fits phi k)) block.phis h.phis))
      (All-flat Within inst_names block.insts (All-weaker (FormedInst places) (λ i. All Within (inst_names i)) (λ i k. All-flat Within operand_names (operands i) (operands_fit i k)) block.insts h.insts)))
      (All-flat Within operand_names (term_operands block.term) (term_fits block.term h.term))

-- ---- an item

item_fits : (items : List Item) (found : Item) → FormedItem items found → All (λ place. place < length items) (item_names found)
item_fits items (item.Var var) formed = of var.init formed.suits
  where
    of : (o : Option Const) → IfSome o (λ init. Suits (length items) var.ty init) → All (λ place. place < length items) (init_names o)
    of None h = All-nil (λ place. place < length items)
    of (Some init) h = names_within (length items) init var.ty h
item_fits items (item.Func func) formed = of func.body formed.has_body
  where
    of : (o : Option Body) → IfSome o (FormedBody items (length func.params)) → All (λ place. place < length items) (definition_names o)
    of None h = All-nil (λ place. place < length items)
    of (Some body) h =
        let places = places_of items (length func.params) body in
        All-flat (λ place. place < length items) block_names body.blocks (All-weaker (FormedBlock places) (λ block. All (λ place. place < length items) (block_names block)) (block_fits places) body.blocks h.has_blocks)

-- ---- what is named

-- A place that is named is that of an item.
pub named_found : (p : ProgramData) → IsProgram p → (home place : ℕ) → IsNamedAt p home place → (found : Item) × (item_at p.modules (record { «module» = home; item = place }) ≡ Some found)
named_found p is home place named =
    let there = there_is p.modules named.by named.user named.stands in
    let sound = All-at IsSoundModule p.modules named.by.module there.0 is.sound.sound there.1 in
    let formed = All-at (FormedItem there.0.items) there.0.items named.by.item named.user sound.formed.has_items there.2 in
    let within = All-contains (λ k. k < length there.0.items) (item_names named.user) place (item_fits there.0.items named.user formed) named.names in
    item_in p.modules home place there.0 (subst (λ m. slice_get p.modules m ≡ Some there.0) named.at_home there.1) within

-- What is named is the name of a block that is there.
pub named_is_there : (p : ProgramData) → IsProgram p → (home place : ℕ) → IsNamedAt p home place → (made : ℕ) → Has (IsThere p made) (name_of p (record { «module» = home; item = place }))
named_is_there p is home place named made =
    let found = named_found p is home place named in
    found_is_there p is home place named found.0 found.1 made
