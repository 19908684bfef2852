-- What residual bodies and initialisers name is in range.
use Rattle.std.proofs.Common.{◌≡◌, ◌∙◌, ℕ, zero, suc, ◌+◌, ◌<◌, nat_lt, Bool, true, false, ◌==◌, List, [], ◌∷◌, ◌++◌, Option, None, Some, IsTrue, ℤ, pos, negsuc, All, length, map, drop, refl, sym, ap, subst, arith}
use Rattle.std.specs.Prelude.{flat_map, option_map, if◌then◌else◌}
use Rattle.std.specs.List.{list_all, count_by}
use Rattle.std.specs.Option.{IfSome}
use Rattle.std.proofs.lemmas.Bool.{false≢true, and_parts, ltb-true}
use Rattle.std.proofs.lemmas.List.Elements.{All-nil, All-cons, All-head, All-tail, All-append, All-drop, All-map, All-weaker}
use Rattle.ir_types.specs.declared.scalar.Scalar.{Scalar}
use Rattle.ir_types.specs.declared.scalar.Scalar.TheVariants.{I1, Ptr}
use Rattle.ir_types.specs.declared.scalar.Known.{Known}
use Rattle.ir_types.specs.declared.scalar.Known.TheVariants.{Unknown, Num, Null}
use Rattle.ir_types.specs.declared.shape.Ty.{Ty, out-Ty}
use Rattle.ir_types.specs.declared.shape.Ty.TheBlock.{One}
use Rattle.ir_types.specs.declared.shape.Ty.TheOpen.{Ty-F}
use Rattle.ir_syntax.specs.declared.constant.Const.{Const, roll-Const, out-Const}
use Rattle.ir_syntax.specs.declared.constant.Const.TheOpen.{Const-F}
use Rattle.ir_syntax.specs.declared.constant.Const.TheFolds.{map-Const, fold-roll-Const, fold_out-Const, ind-Const}
use Rattle.ir_syntax.specs.declared.constant.Operand.{Operand}
use Rattle.ir_syntax.specs.declared.constant.Operand.TheVariants as operand
use Rattle.ir_syntax.specs.declared.body.Arg.{Arg}
use Rattle.ir_syntax.specs.declared.body.Inst.{Inst}
use Rattle.ir_syntax.specs.declared.body.Inst.TheVariants as inst
use Rattle.ir_syntax.specs.declared.body.Phi.{Phi}
use Rattle.ir_syntax.specs.declared.body.Term.{Term}
use Rattle.ir_syntax.specs.declared.body.Term.TheVariants as term
use Rattle.ir_syntax.specs.declared.body.Block.{Block}
use Rattle.ir_syntax.specs.declared.body.Body.{Body}
use Rattle.ir_syntax.specs.declared.item.Func.{Func}
use Rattle.ir_syntax.specs.declared.item.Item.{Item}
use Rattle.ir_syntax.specs.Callees.{place_in, written_callee, inst_callee}
use Rattle.ir_syntax.specs.FormedBody.{Places, IsOperand, IsIndex, FormedInst, FormedPhi, FormedTerm, FormedBlock, FormedBody, places_of}
use Rattle.ir_syntax.specs.FormedItem.{FormedFunc}
use Rattle.ir_syntax.specs.Mapped.{map_operands, map_arg}
use Rattle.ir_syntax.specs.Named.{names, names_step, operand_names, phi_names, term_names}
use Rattle.ir_syntax.specs.Operands.{operands, term_operands, phi_operands}
use Rattle.ir_syntax.specs.Suits.{Suits, suits, suits_step, takes_address, takes_parts, each_takes}
use Rattle.ir_syntax.proofs.NameLemmas.{names-Int, names-Null}
use Rattle.ir_syntax.specs.Definite.{has_result}
use Rattle.ir_syntax.specs.Results.{result_type, block_results}
use Rattle.fold_facts.specs.Assigned.{Assigned}
use Rattle.fold_facts.specs.Places.{blocks_in, blocks_of}
use Rattle.interface.specs.Masks.{rank, is_chosen}
use Rattle.interface.specs.Names.{uses_beside, inst_uses, inst_others, block_others}
use Rattle.interface.specs.Summaries.{known_of}
use Rattle.specialise.specs.Leaving.{Leaving, leaving}
use Rattle.specialise.specs.Residual.{value_or, left_operand, left_entry, left_entries, left_phi, left_phis, left_inst, left_insts, left_block, left_blocks, left_branch, left_switch, left_term, number_in, stays, residual}

-- ---- constants

suits_roll : (items : ℕ) (x : Const-F Const) (ty : Ty) → suits items (roll-Const x) ty ≡ suits_step items (map-Const Const (Ty → Bool) (suits items) x) ty
unfolding suits
suits_roll items x ty = ap (λ f. f ty) (fold-roll-Const (Ty → Bool) (suits_step items) x)

names_roll : (x : Const-F Const) → names (roll-Const x) ≡ names_step (map-Const Const (List ℕ) names x)
unfolding names
names_roll x = fold-roll-Const (List ℕ) names_step x

names_out : (constant : Const) (x : Const-F Const) → out-Const constant ≡ x → names constant ≡ names_step (map-Const Const (List ℕ) names x)
unfolding names
names_out constant x is = fold_out-Const (List ℕ) names_step constant ∙ ap (λ y. names_step (map-Const Const (List ℕ) names y)) is

module _ (items : ℕ) where
  abbrev pub Within : ℕ → Type 0
  Within place = place < items

  abbrev NamesWithin : Const → Type 0
  NamesWithin c = (ty : Ty) → suits items c ty ≡ true → All Within (names c)

  abbrev Named : Type 0
  Named = (c : Const) × NamesWithin c

  elements_within : (element : Ty) (cs : List Named) → list_all (λ part. part element) (map (suits items) (map (λ (c : Named). c.0) cs)) ≡ true → All Within (flat_map (λ part. part) (map names (map (λ (c : Named). c.0) cs)))
  elements_within element [] fit = All-nil Within
  elements_within element (c ∷ cs) fit =
      let both = and_parts (suits items c.0 element) (list_all (λ part. part element) (map (suits items) (map (λ (x : Named). x.0) cs))) fit in
      All-append Within (names c.0) (flat_map (λ part. part) (map names (map (λ (x : Named). x.0) cs))) (c.1 element both.0) (elements_within element cs both.1)

  fields_within : (fields : List Ty) (cs : List Named) → each_takes (map (suits items) (map (λ (c : Named). c.0) cs)) fields ≡ true → All Within (flat_map (λ part. part) (map names (map (λ (c : Named). c.0) cs)))
  fields_within fields [] fit = All-nil Within
  fields_within [] (c ∷ cs) fit = absurd (false≢true fit)
  fields_within (ty ∷ tys) (c ∷ cs) fit =
      let both = and_parts (suits items c.0 ty) (each_takes (map (suits items) (map (λ (x : Named). x.0) cs)) tys) fit in
      All-append Within (names c.0) (flat_map (λ part. part) (map names (map (λ (x : Named). x.0) cs))) (c.1 ty both.0) (fields_within tys cs both.1)

  parts_within : (x : Ty-F Ty) (cs : List Named) → takes_parts x (map (suits items) (map (λ (c : Named). c.0) cs)) ≡ true → All Within (flat_map (λ part. part) (map names (map (λ (c : Named). c.0) cs)))
  parts_within (Ty-F.One scalar) cs fit = absurd (false≢true fit)
  parts_within (Ty-F.Array count element) cs fit =
      elements_within element cs (and_parts (length (map (suits items) (map (λ (c : Named). c.0) cs)) == count) (list_all (λ part. part element) (map (suits items) (map (λ (c : Named). c.0) cs))) fit).1
  parts_within (Ty-F.Struct fields) cs fit = fields_within fields cs fit

  layer_within : (y : Const-F Named) (ty : Ty) → suits_step items (map-Const Const (Ty → Bool) (suits items) (map-Const Named Const (λ c. c.0) y)) ty ≡ true
      → All Within (names_step (map-Const Const (List ℕ) names (map-Const Named Const (λ c. c.0) y)))
  layer_within (Const-F.Int n) ty fit = All-nil Within
  layer_within Const-F.Null ty fit = All-nil Within
  layer_within (Const-F.Addr place offset) ty fit = All-cons Within place [] (ltb-true place items (and_parts (takes_address (out-Ty ty)) (nat_lt place items) fit).1) (All-nil Within)
  layer_within Const-F.Undef ty fit = All-nil Within
  layer_within Const-F.Poison ty fit = All-nil Within
  layer_within Const-F.Zero ty fit = All-nil Within
  layer_within (Const-F.Text bytes) ty fit = All-nil Within
  layer_within (Const-F.Many cs) ty fit = parts_within (out-Ty ty) cs fit

  -- What a constant names is in range, where a type takes it.
  pub names_within : (c : Const) → NamesWithin c
  names_within = ind-Const NamesWithin (λ x y made. subst (λ z. NamesWithin (roll-Const z)) made (λ ty fit.
      let rolled = map-Const Named Const (λ c. c.0) y in
      subst (All Within) (sym (names_roll rolled)) (layer_within y ty (sym (suits_roll items rolled ty) ∙ fit))))

-- ---- operands

pub is_true : (b : Bool) → IsTrue b → b ≡ true
is_true b t = t

abbrev pub OperandWithin : ℕ → Operand → Type 0
OperandWithin items o = All (Within items) (operand_names o)

pub operand_within : (places : Places) (ty : Scalar) (o : Operand) → IsOperand places ty o → OperandWithin (length places.items) o
operand_within places ty (operand.Param k) is = All-nil (Within (length places.items))
operand_within places ty (operand.Reg k) is = All-nil (Within (length places.items))
operand_within places ty (operand.Const constant) is = names_within (length places.items) constant (One ty) (is_true (suits (length places.items) constant (One ty)) is)

value_within : (items : ℕ) (other : Operand) (known : Known) → OperandWithin items other → OperandWithin items (value_or other known)
value_within items other Unknown within = within
value_within items other (Num n) within = subst (All (Within items)) (sym (names-Int n)) (All-nil (Within items))
value_within items other Null within = subst (All (Within items)) (sym names-Null) (All-nil (Within items))

pub left_within : (items : ℕ) (w : Leaving) (o : Operand) → OperandWithin items o → OperandWithin items (left_operand w o)
left_within items w (operand.Param k) within = value_within items (operand.Param k) (known_of w.setting w.facts (operand.Param k)) within
left_within items w (operand.Reg k) within = value_within items (operand.Reg (rank w.kept k)) (known_of w.setting w.facts (operand.Reg k)) (All-nil (Within items))
left_within items w (operand.Const constant) within = within

-- what operands name
pub all_within : (items : ℕ) (os : List Operand) → All (OperandWithin items) os → All (Within items) (flat_map operand_names os)
all_within items [] all = All-nil (Within items)
all_within items (o ∷ os) all = All-append (Within items) (operand_names o) (flat_map operand_names os) (All-head (OperandWithin items) o os all) (all_within items os (All-tail (OperandWithin items) o os all))

-- ---- instructions

abbrev pub InstWithin : ℕ → Inst → Type 0
InstWithin items i = All (OperandWithin items) (operands i)

one : (items : ℕ) (a : Operand) → OperandWithin items a → All (OperandWithin items) (a ∷ [])
one items a at = All-cons (OperandWithin items) a [] at (All-nil (OperandWithin items))

two : (items : ℕ) (a b : Operand) → OperandWithin items a → OperandWithin items b → All (OperandWithin items) (a ∷ b ∷ [])
two items a b at bt = All-cons (OperandWithin items) a (b ∷ []) at (one items b bt)

indices_within : (places : Places) (indices : List (Scalar × Operand)) → All (IsIndex places) indices → All (OperandWithin (length places.items)) (map (λ (index : Scalar × Operand). index.1) indices)
indices_within places [] all = All-nil (OperandWithin (length places.items))
indices_within places (index ∷ more) all =
    All-cons (OperandWithin (length places.items)) index.1 (map (λ (x : Scalar × Operand). x.1) more) (operand_within places index.0 index.1 (All-head (IsIndex places) index more all).1)
    (indices_within places more (All-tail (IsIndex places) index more all))

args_within : (places : Places) (args : List Arg) → All (λ arg. IsOperand places arg.ty arg.value) args → All (OperandWithin (length places.items)) (map (λ (arg : Arg). arg.value) args)
args_within places [] all = All-nil (OperandWithin (length places.items))
args_within places (arg ∷ more) all =
    All-cons (OperandWithin (length places.items)) arg.value (map (λ (x : Arg). x.value) more) (operand_within places arg.ty arg.value (All-head (λ (x : Arg). IsOperand places x.ty x.value) arg more all))
    (args_within places more (All-tail (λ (x : Arg). IsOperand places x.ty x.value) arg more all))

formed_within : (places : Places) (i : Inst) → FormedInst places i → InstWithin (length places.items) i
formed_within places (inst.Bin op flags ty a b) formed = two (length places.items) a b (operand_within places ty a formed.1) (operand_within places ty b formed.2)
formed_within places (inst.Icmp pred ty a b) formed = two (length places.items) a b (operand_within places ty a formed.0) (operand_within places ty b formed.1)
formed_within places (inst.Select ty cond a b) formed =
    All-cons (OperandWithin (length places.items)) cond (a ∷ b ∷ []) (operand_within places I1 cond formed.0) (two (length places.items) a b (operand_within places ty a formed.1) (operand_within places ty b formed.2))
formed_within places (inst.Cast op nneg from to a) formed = one (length places.items) a (operand_within places from a formed.1)
formed_within places (inst.Alloca ty n align) formed = All-nil (OperandWithin (length places.items))
formed_within places (inst.Load ty at align) formed = one (length places.items) at (operand_within places Ptr at formed.0)
formed_within places (inst.Store ty value at align) formed = two (length places.items) value at (operand_within places ty value formed.0) (operand_within places Ptr at formed.1)
formed_within places (inst.Gep inbounds ty base indices) formed =
    All-cons (OperandWithin (length places.items)) base (map (λ (index : Scalar × Operand). index.1) indices) (operand_within places Ptr base formed.1) (indices_within places indices formed.2)
formed_within places (inst.Call fn_ty ret_ext callee args) formed =
    All-cons (OperandWithin (length places.items)) callee (map (λ (arg : Arg). arg.value) args) (operand_within places Ptr callee formed.has_callee) (args_within places args formed.has_args)

-- the operands of an instruction whose operands were mapped
mapped_indices : (f : Operand → Operand) (indices : List (Scalar × Operand)) → map (λ (index : Scalar × Operand). index.1) (map (λ (index : Scalar × Operand). (index.0, f index.1)) indices) ≡ map f (map (λ (index : Scalar × Operand). index.1) indices)
mapped_indices f [] = refl
mapped_indices f (index ∷ more) = ap (λ l. f index.1 ∷ l) (mapped_indices f more)

mapped_args : (f : Operand → Operand) (args : List Arg) → map (λ (arg : Arg). arg.value) (map (map_arg f) args) ≡ map f (map (λ (arg : Arg). arg.value) args)
mapped_args f [] = refl
mapped_args f (arg ∷ more) = ap (λ l. f arg.value ∷ l) (mapped_args f more)

mapped_operands : (f : Operand → Operand) (i : Inst) → operands (map_operands f i) ≡ map f (operands i)
mapped_operands f (inst.Bin op flags ty a b) = refl
mapped_operands f (inst.Icmp pred ty a b) = refl
mapped_operands f (inst.Select ty cond a b) = refl
mapped_operands f (inst.Cast op nneg from to a) = refl
mapped_operands f (inst.Alloca ty n align) = refl
mapped_operands f (inst.Load ty at align) = refl
mapped_operands f (inst.Store ty value at align) = refl
mapped_operands f (inst.Gep inbounds ty base indices) = ap (λ l. f base ∷ l) (mapped_indices f indices)
mapped_operands f (inst.Call fn_ty ret_ext callee args) = ap (λ l. f callee ∷ l) (mapped_args f args)

map_within : (items : ℕ) (w : Leaving) (os : List Operand) → All (OperandWithin items) os → All (OperandWithin items) (map (left_operand w) os)
map_within items w os all = All-map (OperandWithin items) (left_operand w) os (All-weaker (OperandWithin items) (λ o. OperandWithin items (left_operand w o)) (left_within items w) os all)

left_inst_within : (places : Places) (w : Leaving) (i : Inst) → FormedInst places i → InstWithin (length places.items) (map_operands (left_operand w) i)
left_inst_within places w i formed =
    subst (All (OperandWithin (length places.items))) (sym (mapped_operands (left_operand w) i)) (map_within (length places.items) w (operands i) (formed_within places i formed))

-- ---- what is called and named

callee_named : (o : Operand) (k : ℕ) → written_callee o ≡ Some k → operand_names o ≡ k ∷ []
callee_named (operand.Param n) k e = cc
callee_named (operand.Reg n) k e = cc
callee_named (operand.Const constant) k e = by (out-Const constant) refl e
  where
    by : (x : Const-F Const) → out-Const constant ≡ x → place_in x ≡ Some k → names constant ≡ k ∷ []
    by (Const-F.Int n) is h = cc
    by Const-F.Null is h = cc
    by (Const-F.Addr place (pos zero)) is h = names_out constant (Const-F.Addr place (pos zero)) is ∙ ap (λ n. n ∷ []) (same h)
      where
        same : {a b : ℕ} → Some a ≡ Some b → a ≡ b
        same e = cc
    by (Const-F.Addr place (pos (suc n))) is h = cc
    by (Const-F.Addr place (negsuc n)) is h = cc
    by Const-F.Undef is h = cc
    by Const-F.Poison is h = cc
    by Const-F.Zero is h = cc
    by (Const-F.Text bytes) is h = cc
    by (Const-F.Many parts) is h = cc

-- what an instruction calls by its name
pub called_within : (items : ℕ) (i : Inst) (k : ℕ) → InstWithin items i → inst_callee i ≡ Some k → k < items
called_within items (inst.Bin op flags ty a b) k within e = cc
called_within items (inst.Icmp pred ty a b) k within e = cc
called_within items (inst.Select ty cond a b) k within e = cc
called_within items (inst.Cast op nneg from to a) k within e = cc
called_within items (inst.Alloca ty n align) k within e = cc
called_within items (inst.Load ty at align) k within e = cc
called_within items (inst.Store ty value at align) k within e = cc
called_within items (inst.Gep inbounds ty base indices) k within e = cc
called_within items (inst.Call fn_ty ret_ext callee args) k within e =
    All-head (Within items) k [] (subst (All (Within items)) (callee_named callee k e) (All-head (OperandWithin items) callee (map (λ (arg : Arg). arg.value) args) within))

-- and what it names otherwise
beside_within : (items : ℕ) (callee : Option ℕ) (os : List Operand) → All (OperandWithin items) os → All (OperandWithin items) (uses_beside callee os)
beside_within items None os all = all
beside_within items (Some k) os all = All-drop (OperandWithin items) 1 os all

others_within : (items : ℕ) (i : Inst) → InstWithin items i → All (Within items) (inst_others i)
others_within items i within = all_within items (inst_uses i) (beside_within items (inst_callee i) (operands i) within)

-- ---- blocks

pub record BlockWithin (items : ℕ) (block : Block) : Type 0 where
  pub phis : All (λ phi. All (OperandWithin items) (phi_operands phi)) block.phis
  pub insts : All (InstWithin items) block.insts
  pub term : All (OperandWithin items) (term_operands block.term)

flat_within : {X : Type 0} (items : ℕ) (f : X → List ℕ) (P : X → Type 0) (step : (x : X) → P x → All (Within items) (f x)) (xs : List X) → All P xs → All (Within items) (flat_map f xs)
flat_within items f P step [] all = All-nil (Within items)
flat_within items f P step (x ∷ xs) all = All-append (Within items) (f x) (flat_map f xs) (step x (All-head P x xs all)) (flat_within items f P step xs (All-tail P x xs all))

pub block_within : (items : ℕ) (block : Block) → BlockWithin items block → All (Within items) (block_others block)
block_within items block within =
    All-append (Within items) (flat_map phi_names block.phis ++ flat_map inst_others block.insts) (term_names block.term)
    (
    All-append (Within items) (flat_map phi_names block.phis) (flat_map inst_others block.insts)
    (flat_within items phi_names (λ phi. All (OperandWithin items) (phi_operands phi)) (λ phi all. all_within items (phi_operands phi) all) block.phis within.phis)
    (flat_within items inst_others (InstWithin items) (others_within items) block.insts within.insts)
    )
    (all_within items (term_operands block.term) within.term)

-- ---- what is left

entries_within : (items : ℕ) (w : Leaving) (place : ℕ) (before : List ℕ) (entries : List (Operand × ℕ)) → All (λ (entry : Operand × ℕ). OperandWithin items entry.0) entries → All (OperandWithin items) (map (λ (entry : Operand × ℕ). entry.0) (left_entries w place before entries))
entries_within items w place before [] all = All-nil (OperandWithin items)
entries_within items w place before (entry ∷ more) all =
    by (w.edge entry.1 place (count_by (λ other. other == entry.1) before)) (entries_within items w place (entry.1 ∷ before) more (All-tail (λ (x : Operand × ℕ). OperandWithin items x.0) entry more all))
  where
    by : (b : Bool) → All (OperandWithin items) (map (λ (x : Operand × ℕ). x.0) (left_entries w place (entry.1 ∷ before) more)) → All (OperandWithin items) (map (λ (x : Operand × ℕ). x.0) ((if b then (left_operand w entry.0, rank w.reached entry.1) ∷ [] else []) ++ left_entries w place (entry.1 ∷ before) more))
    by true rest =
        All-cons (OperandWithin items) (left_operand w entry.0) (map (λ (x : Operand × ℕ). x.0) (left_entries w place (entry.1 ∷ before) more))
        (left_within items w entry.0 (All-head (λ (x : Operand × ℕ). OperandWithin items x.0) entry more all)) rest
    by false rest = rest

phis_within : (places : Places) (w : Leaving) (place n : ℕ) (phis : List Phi) → All (FormedPhi places) phis → All (λ phi. All (OperandWithin (length places.items)) (phi_operands phi)) (left_phis w place n phis)
phis_within places w place n [] formed = All-nil (λ phi. All (OperandWithin (length places.items)) (phi_operands phi))
phis_within places w place n (phi ∷ more) formed =
    All-append (λ x. All (OperandWithin (length places.items)) (phi_operands x)) (left_phi w place n phi) (left_phis w place (suc n) more) (by (is_chosen w.kept n))
    (phis_within places w place (suc n) more (All-tail (FormedPhi places) phi more formed))
  where
    left : Phi
    left = record { ty = phi.ty; entries = left_entries w place [] phi.entries }

    by : (b : Bool) → All (λ x. All (OperandWithin (length places.items)) (phi_operands x)) (if b then left ∷ [] else [])
    by true =
        All-cons (λ x. All (OperandWithin (length places.items)) (phi_operands x)) left []
        (
        entries_within (length places.items) w place [] phi.entries
        (All-weaker (λ (entry : Operand × ℕ). IsOperand places phi.ty entry.0) (λ entry. OperandWithin (length places.items) entry.0) (λ entry is. operand_within places phi.ty entry.0 is) phi.entries (All-head (FormedPhi places) phi more formed).has_operands)
        )
        (All-nil (λ x. All (OperandWithin (length places.items)) (phi_operands x)))
    by false = All-nil (λ x. All (OperandWithin (length places.items)) (phi_operands x))

insts_within : (places : Places) (w : Leaving) (n : ℕ) (insts : List Inst) → All (FormedInst places) insts → All (InstWithin (length places.items)) (left_insts w n insts)
insts_within places w n [] formed = All-nil (InstWithin (length places.items))
insts_within places w n (i ∷ more) formed =
    All-append (InstWithin (length places.items)) (left_inst w n i) (left_insts w (n + has_result (result_type i)) more) (by (stays w n (result_type i)))
    (insts_within places w (n + has_result (result_type i)) more (All-tail (FormedInst places) i more formed))
  where
    by : (b : Bool) → All (InstWithin (length places.items)) (if b then map_operands (left_operand w) i ∷ [] else [])
    by true = All-cons (InstWithin (length places.items)) (map_operands (left_operand w) i) [] (left_inst_within places w i (All-head (FormedInst places) i more formed)) (All-nil (InstWithin (length places.items)))
    by false = All-nil (InstWithin (length places.items))

term_within : (places : Places) (w : Leaving) (t : Term) → FormedTerm places t → All (OperandWithin (length places.items)) (term_operands (left_term w t))
term_within places w term.RetVoid formed = All-nil (OperandWithin (length places.items))
term_within places w (term.Ret ty value) formed = one (length places.items) (left_operand w value) (left_within (length places.items) w value (operand_within places ty value formed))
term_within places w (term.Br to) formed = All-nil (OperandWithin (length places.items))
term_within places w (term.CondBr cond first other) formed = by (number_in (known_of w.setting w.facts cond))
  where
    by : (o : Option ℕ) → All (OperandWithin (length places.items)) (term_operands (left_branch w o cond first other))
    by None = one (length places.items) (left_operand w cond) (left_within (length places.items) w cond (operand_within places I1 cond formed.0))
    by (Some n) = All-nil (OperandWithin (length places.items))
term_within places w (term.Switch ty value default cases) formed = by (number_in (known_of w.setting w.facts value))
  where
    by : (o : Option ℕ) → All (OperandWithin (length places.items)) (term_operands (left_switch w o ty value default cases))
    by None = one (length places.items) (left_operand w value) (left_within (length places.items) w value (operand_within places ty value formed.0))
    by (Some n) = All-nil (OperandWithin (length places.items))
term_within places w term.Unreachable formed = All-nil (OperandWithin (length places.items))

blocks_within : (places : Places) (w : Leaving) (place first : ℕ) (blocks : List Block) → All (FormedBlock places) blocks → All (BlockWithin (length places.items)) (left_blocks w place first blocks)
blocks_within places w place first [] formed = All-nil (BlockWithin (length places.items))
blocks_within places w place first (b ∷ more) formed =
    All-append (BlockWithin (length places.items)) (left_block w place first b) (left_blocks w (suc place) (first + length (block_results b)) more) (by (is_chosen w.reached place))
    (blocks_within places w (suc place) (first + length (block_results b)) more (All-tail (FormedBlock places) b more formed))
  where
    left : Block
    left = record { phis = left_phis w place first b.phis; insts = left_insts w (first + length b.phis) b.insts; term = left_term w b.term }

    here : FormedBlock places b
    here = All-head (FormedBlock places) b more formed

    by : (r : Bool) → All (BlockWithin (length places.items)) (if r then left ∷ [] else [])
    by true =
        All-cons (BlockWithin (length places.items)) left []
        (record { phis = phis_within places w place first b.phis here.phis; insts = insts_within places w (first + length b.phis) b.insts here.insts; term = term_within places w b.term here.term })
        (All-nil (BlockWithin (length places.items)))
    by false = All-nil (BlockWithin (length places.items))

-- ---- of a function

pub residual_within : (items : List Item) (known : List Known) (func : Func) (a : Assigned) → FormedFunc items func → All (BlockWithin (length items)) (residual known func a).blocks
residual_within items known func a formed = by func.body formed.has_body
  where
    by : (o : Option Body) → IfSome o (FormedBody items (length func.params)) → All (BlockWithin (length items)) (left_blocks (leaving known (blocks_in o) a) 0 0 (blocks_in o))
    by None formed = All-nil (BlockWithin (length items))
    by (Some body) formed = blocks_within (places_of items (length func.params) body) (leaving known body.blocks a) 0 0 body.blocks formed.has_blocks
