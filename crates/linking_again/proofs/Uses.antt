-- A written body has the results and the ways of the body that it is written from, and no other uses.
use Rattle.std.proofs.Common.{◌≡◌, ◌∙◌, ℕ, zero, suc, ◌+◌, Bool, true, false, List, [], ◌∷◌, ◌++◌, Option, None, Some, Contains, length, map, refl, ap, sym, subst, arith}
use Rattle.std.specs.Prelude.{flat_map}
use Rattle.std.proofs.lemmas.List.{length-map}
use Rattle.ir_types.specs.declared.scalar.Scalar.{Scalar}
use Rattle.ir_types.specs.declared.scalar.FnType.{FnType}
use Rattle.ir_types.specs.declared.scalar.Ext.{Ext}
use Rattle.ir_syntax.specs.declared.constant.Operand.{Operand}
use Rattle.ir_syntax.specs.declared.constant.Operand.TheVariants as operand
use Rattle.ir_syntax.specs.declared.body.Arg.{Arg}
use Rattle.ir_syntax.specs.declared.body.Inst.{Inst}
use Rattle.ir_syntax.specs.declared.body.Inst.TheVariants.{Bin, Icmp, Select, Cast, Alloca, Load, Store, Gep, Call}
use Rattle.ir_syntax.specs.declared.body.Phi.{Phi}
use Rattle.ir_syntax.specs.declared.body.Term.{Term}
use Rattle.ir_syntax.specs.declared.body.Block.{Block}
use Rattle.ir_syntax.specs.declared.body.Body.{Body}
use Rattle.ir_syntax.specs.Callees.{written_callee}
use Rattle.ir_syntax.specs.Definite.{first_result, has_result, Use, operand_uses, phi_uses, insts_uses, block_uses, uses_from, uses}
use Rattle.ir_syntax.specs.Edges.{successors}
use Rattle.ir_syntax.specs.Mapped.{map_arg, map_operands, map_phi, map_term}
use Rattle.ir_syntax.specs.Operands.{operands, term_operands}
use Rattle.ir_syntax.specs.Results.{result_type, block_results, results}
use Rattle.ir_syntax.proofs.MappedLemmas.{operands-map, term_operands-map, successors-map}
use Rattle.fold_facts.proofs.Arriving.{place_in, in_place}
use Rattle.fold_facts.proofs.Numbers.{first_zero, first_cons, types, types_some, types_none}
use Rattle.demands.specs.Names.{is_unknown}
use Rattle.demands.specs.Order.{pattern_of}
use Rattle.interface.specs.Masks.{chosen}
use Rattle.residual_laws.specs.Mapping.{IsLikeIn}
use Rattle.residual_laws.proofs.Every.{Every, every_at, every_by, every_first, every_rest, every_append}
use Rattle.winnowed_form.specs.declared.named.Named.{Named}
use Rattle.winnowed_form.specs.declared.named.Named.TheVariants.{Own, CopyOf}
use Rattle.winnowed_form.specs.Names.{call_name}
use Rattle.winnowed_form.specs.Bodies.{Writing, written_operand, kept, call_to, known_args, written_call, written_inst, written_block, written_body}

-- ---- results

pub call_result : (w : Writing) (fn_ty : FnType) (ret_ext : Ext) (callee : Operand) (args : List Arg) (o : Option ℕ) → result_type (written_call w fn_ty ret_ext callee args o) ≡ fn_ty.returns
call_result w fn_ty ret_ext callee args None = refl
call_result w fn_ty ret_ext callee args (Some k) = refl

pub inst_result : (w : Writing) (inst : Inst) → result_type (written_inst w inst) ≡ result_type inst
inst_result w (Bin op flags ty a b) = refl
inst_result w (Icmp pred ty a b) = refl
inst_result w (Select ty cond a b) = refl
inst_result w (Cast op nneg from to a) = refl
inst_result w (Alloca ty count align) = refl
inst_result w (Load ty at align) = refl
inst_result w (Store ty value at align) = refl
inst_result w (Gep inbounds ty base indices) = refl
inst_result w (Call fn_ty ret_ext callee args) = call_result w fn_ty ret_ext callee args (written_callee callee)

types_same : (w : Writing) (insts : List Inst) → types (map (written_inst w) insts) ≡ types insts
types_same w [] = refl
types_same w (inst ∷ more) = by (result_type inst) refl (types_same w more)
  where
    by : (o : Option Scalar) → result_type inst ≡ o → types (map (written_inst w) more) ≡ types more → types (map (written_inst w) (inst ∷ more)) ≡ types (inst ∷ more)
    by None e rest = types_none (written_inst w inst) (map (written_inst w) more) (inst_result w inst ∙ e) ∙ rest ∙ sym (types_none inst more e)
    by (Some ty) e rest = types_some (written_inst w inst) ty (map (written_inst w) more) (inst_result w inst ∙ e) ∙ ap (λ l. ty ∷ l) rest ∙ sym (types_some inst ty more e)

phi_types : (f : Operand → Operand) (phis : List Phi) → map (λ (phi : Phi). phi.ty) (map (map_phi f) phis) ≡ map (λ (phi : Phi). phi.ty) phis
phi_types f [] = refl
phi_types f (phi ∷ more) = ap (λ l. phi.ty ∷ l) (phi_types f more)

pub block_same : (w : Writing) (block : Block) → block_results (written_block w block) ≡ block_results block
block_same w block =
    ap (λ l. l ++ types (map (written_inst w) block.insts)) (phi_types (written_operand w) block.phis)
    ∙ ap (λ l. map (λ (phi : Phi). phi.ty) block.phis ++ l) (types_same w block.insts)

blocks_same : (w : Writing) (blocks : List Block) → map block_results (map (written_block w) blocks) ≡ map block_results blocks
blocks_same w [] = refl
blocks_same w (block ∷ more) = ap (λ l. l ∷ map block_results (map (written_block w) more)) (block_same w block) ∙ ap (λ l. block_results block ∷ l) (blocks_same w more)

pub results_same : (w : Writing) (body : Body) → results (written_body w body) ≡ results body
results_same w body = by body.blocks
  where
    by : (blocks : List Block) → flat_map block_results (map (written_block w) blocks) ≡ flat_map block_results blocks
    by [] = refl
    by (block ∷ more) = ap (λ l. l ++ flat_map block_results (map (written_block w) more)) (block_same w block) ∙ ap (λ l. block_results block ++ l) (by more)

ways_same : (w : Writing) (blocks : List Block) → map (λ (block : Block). successors block.term) (map (written_block w) blocks) ≡ map (λ (block : Block). successors block.term) blocks
ways_same w [] = refl
ways_same w (block ∷ more) =
    ap (λ l. l ∷ map (λ (b : Block). successors b.term) (map (written_block w) more)) (successors-map (written_operand w) block.term)
    ∙ ap (λ l. successors block.term ∷ l) (ways_same w more)

firsts_same : (w : Writing) (blocks : List Block) (k : ℕ) → first_result (map (written_block w) blocks) k ≡ first_result blocks k
firsts_same w [] k = refl
firsts_same w (block ∷ more) zero = first_zero (map (written_block w) (block ∷ more)) ∙ sym (first_zero (block ∷ more))
firsts_same w (block ∷ more) (suc k) =
    let long : length (block_results (written_block w block)) ≡ length (block_results block) = ap length (block_same w block) in
    omega (arith, first_cons (written_block w block) (map (written_block w) more) k, first_cons block more k, long, firsts_same w more k)

-- ---- uses

operand_same : (w : Writing) (place until : ℕ) (o : Operand) → operand_uses place until (written_operand w o) ≡ operand_uses place until o
operand_same w place until (operand.Param k) = refl
operand_same w place until (operand.Reg k) = refl
operand_same w place until (operand.Const constant) = refl

os_same : (w : Writing) (place until : ℕ) (os : List Operand) → flat_map (operand_uses place until) (map (written_operand w) os) ≡ flat_map (operand_uses place until) os
os_same w place until [] = refl
os_same w place until (o ∷ os) = ap (λ l. l ++ flat_map (operand_uses place until) (map (written_operand w) os)) (operand_same w place until o) ∙ ap (λ l. operand_uses place until o ++ l) (os_same w place until os)

abbrev arg_uses : ℕ → ℕ → List Arg → List Use
arg_uses place until args = flat_map (operand_uses place until) (map (λ (arg : Arg). arg.value) args)

args_same : (w : Writing) (place until : ℕ) (args : List Arg) → arg_uses place until (map (map_arg (written_operand w)) args) ≡ arg_uses place until args
args_same w place until [] = refl
args_same w place until (arg ∷ more) = ap (λ l. l ++ arg_uses place until (map (map_arg (written_operand w)) more)) (operand_same w place until arg.value) ∙ ap (λ l. operand_uses place until arg.value ++ l) (args_same w place until more)

chosen_uses : (P : Use → Type 0) (place until : ℕ) (mask : List Bool) (args : List Arg) → Every P (arg_uses place until args) → Every P (arg_uses place until (chosen mask args))
chosen_uses P place until [] args h = tt
chosen_uses P place until (flag ∷ mask) [] h = tt
chosen_uses P place until (true ∷ mask) (arg ∷ more) h =
    every_append P (operand_uses place until arg.value) (arg_uses place until (chosen mask more)) (every_first P (operand_uses place until arg.value) (arg_uses place until more) h)
    (chosen_uses P place until mask more (every_rest P (operand_uses place until arg.value) (arg_uses place until more) h))
chosen_uses P place until (false ∷ mask) (arg ∷ more) h = chosen_uses P place until mask more (every_rest P (operand_uses place until arg.value) (arg_uses place until more) h)

kept_uses : (P : Use → Type 0) (place until : ℕ) (named : Named) (args : List Arg) → Every P (arg_uses place until args) → Every P (arg_uses place until (kept named args))
kept_uses P place until (Own k) args h = h
kept_uses P place until (CopyOf d) args h = chosen_uses P place until (map is_unknown (pattern_of d)) args h

mapped_uses : (P : Use → Type 0) (w : Writing) (place until : ℕ) (inst : Inst) → Every P (flat_map (operand_uses place until) (operands inst)) → Every P (flat_map (operand_uses place until) (operands (map_operands (written_operand w) inst)))
mapped_uses P w place until inst h = subst (Every P) (sym (ap (flat_map (operand_uses place until)) (operands-map (written_operand w) inst) ∙ os_same w place until (operands inst))) h

call_uses : (P : Use → Type 0) (w : Writing) (place until : ℕ) (fn_ty : FnType) (ret_ext : Ext) (callee : Operand) (args : List Arg) (o : Option ℕ)
    → Every P (flat_map (operand_uses place until) (operands (Call fn_ty ret_ext callee args))) → Every P (flat_map (operand_uses place until) (operands (written_call w fn_ty ret_ext callee args o)))
call_uses P w place until fn_ty ret_ext callee args None h = mapped_uses P w place until (Call fn_ty ret_ext callee args) h
call_uses P w place until fn_ty ret_ext callee args (Some k) h = to (kept_name k)
  where
    kept_name : ℕ → Named
    kept_name n = call_name w.basis w.home (n, known_args args)

    to : (named : Named) → Every P (flat_map (operand_uses place until) (operands (call_to w fn_ty ret_ext args named)))
    to named = subst (Every P) (sym (args_same w place until (kept named args))) (kept_uses P place until named args (every_rest P (operand_uses place until callee) (arg_uses place until args) h))

inst_uses : (P : Use → Type 0) (w : Writing) (place until : ℕ) (inst : Inst) → Every P (flat_map (operand_uses place until) (operands inst)) → Every P (flat_map (operand_uses place until) (operands (written_inst w inst)))
inst_uses P w place until (Bin op flags ty a b) h = mapped_uses P w place until (Bin op flags ty a b) h
inst_uses P w place until (Icmp pred ty a b) h = mapped_uses P w place until (Icmp pred ty a b) h
inst_uses P w place until (Select ty cond a b) h = mapped_uses P w place until (Select ty cond a b) h
inst_uses P w place until (Cast op nneg from to a) h = mapped_uses P w place until (Cast op nneg from to a) h
inst_uses P w place until (Alloca ty count align) h = h
inst_uses P w place until (Load ty at align) h = mapped_uses P w place until (Load ty at align) h
inst_uses P w place until (Store ty value at align) h = mapped_uses P w place until (Store ty value at align) h
inst_uses P w place until (Gep inbounds ty base indices) h = mapped_uses P w place until (Gep inbounds ty base indices) h
inst_uses P w place until (Call fn_ty ret_ext callee args) h = call_uses P w place until fn_ty ret_ext callee args (written_callee callee) h

insts_carry : (P : Use → Type 0) (w : Writing) (place until : ℕ) (insts : List Inst) (term : Term) → Every P (insts_uses place until insts term) → Every P (insts_uses place until (map (written_inst w) insts) (map_term (written_operand w) term))
insts_carry P w place until [] term h = subst (Every P) (sym (ap (flat_map (operand_uses place until)) (term_operands-map (written_operand w) term) ∙ os_same w place until (term_operands term))) h
insts_carry P w place until (inst ∷ more) term h =
    let own = flat_map (operand_uses place until) (operands inst) in
    let next = until + has_result (result_type inst) in
    every_append P (flat_map (operand_uses place until) (operands (written_inst w inst))) (insts_uses place (until + has_result (result_type (written_inst w inst))) (map (written_inst w) more) (map_term (written_operand w) term))
    (inst_uses P w place until inst (every_first P own (insts_uses place next more term) h))
    (subst (λ o. Every P (insts_uses place (until + has_result o) (map (written_inst w) more) (map_term (written_operand w) term))) (sym (inst_result w inst))
    (insts_carry P w place next more term (every_rest P own (insts_uses place next more term) h)))

entry_same : (w : Writing) (blocks : List Block) (entries : List (Operand × ℕ))
    → flat_map (λ (entry : Operand × ℕ). operand_uses entry.1 (first_result (map (written_block w) blocks) (suc entry.1)) entry.0) (map (λ (entry : Operand × ℕ). (written_operand w entry.0, entry.1)) entries)
    ≡ flat_map (λ (entry : Operand × ℕ). operand_uses entry.1 (first_result blocks (suc entry.1)) entry.0) entries
entry_same w blocks [] = refl
entry_same w blocks (entry ∷ more) =
    ap (λ l. l ++ flat_map (λ (e : Operand × ℕ). operand_uses e.1 (first_result (map (written_block w) blocks) (suc e.1)) e.0) (map (λ (e : Operand × ℕ). (written_operand w e.0, e.1)) more))
    (operand_same w entry.1 (first_result (map (written_block w) blocks) (suc entry.1)) entry.0 ∙ ap (λ n. operand_uses entry.1 n entry.0) (firsts_same w blocks (suc entry.1)))
    ∙ ap (λ l. operand_uses entry.1 (first_result blocks (suc entry.1)) entry.0 ++ l) (entry_same w blocks more)

phis_same : (w : Writing) (blocks : List Block) (phis : List Phi) → flat_map (phi_uses (map (written_block w) blocks)) (map (map_phi (written_operand w)) phis) ≡ flat_map (phi_uses blocks) phis
phis_same w blocks [] = refl
phis_same w blocks (phi ∷ more) = ap (λ l. l ++ flat_map (phi_uses (map (written_block w) blocks)) (map (map_phi (written_operand w)) more)) (entry_same w blocks phi.entries) ∙ ap (λ l. phi_uses blocks phi ++ l) (phis_same w blocks more)

block_carries : (P : Use → Type 0) (w : Writing) (blocks : List Block) (place : ℕ) (block : Block) → Every P (block_uses blocks place block) → Every P (block_uses (map (written_block w) blocks) place (written_block w block))
block_carries P w blocks place block h =
    let phis = flat_map (phi_uses blocks) block.phis in
    let until = first_result blocks place + length block.phis in
    let others = map (written_block w) blocks in
    let count : first_result others place + length (map (map_phi (written_operand w)) block.phis) ≡ until = omega (arith, firsts_same w blocks place, length-map block.phis (map_phi (written_operand w))) in
    every_append P (flat_map (phi_uses others) (map (map_phi (written_operand w)) block.phis)) (insts_uses place (first_result others place + length (map (map_phi (written_operand w)) block.phis)) (map (written_inst w) block.insts) (map_term (written_operand w) block.term))
    (subst (Every P) (sym (phis_same w blocks block.phis)) (every_first P phis (insts_uses place until block.insts block.term) h))
    (subst (λ n. Every P (insts_uses place n (map (written_inst w) block.insts) (map_term (written_operand w) block.term))) (sym count) (insts_carry P w place until block.insts block.term (every_rest P phis (insts_uses place until block.insts block.term) h)))

blocks_carry : (P : Use → Type 0) (w : Writing) (blocks : List Block) (place : ℕ) (rest : List Block) → Every P (uses_from blocks place rest) → Every P (uses_from (map (written_block w) blocks) place (map (written_block w) rest))
blocks_carry P w blocks place [] h = tt
blocks_carry P w blocks place (block ∷ more) h =
    every_append P (block_uses (map (written_block w) blocks) place (written_block w block)) (uses_from (map (written_block w) blocks) (suc place) (map (written_block w) more))
    (block_carries P w blocks place block (every_first P (block_uses blocks place block) (uses_from blocks (suc place) more) h))
    (blocks_carry P w blocks (suc place) more (every_rest P (block_uses blocks place block) (uses_from blocks (suc place) more) h))

all_in : {A : Type 0} (xs : List A) → Every (Contains xs) xs
all_in xs = every_by (Contains xs) xs (λ k x is. in_place xs k x is)

-- What is written of a body is like it.
pub like_in : (w : Writing) (body : Body) → IsLikeIn body (written_body w body)
like_in w body = record {
  results = blocks_same w body.blocks;
  ways = ways_same w body.blocks;
  uses = λ u c.
      let at = place_in (uses (map (written_block w) body.blocks)) u c in
      every_at (Contains (uses body.blocks)) (uses (map (written_block w) body.blocks)) at.0 u (blocks_carry (Contains (uses body.blocks)) w body.blocks 0 body.blocks (all_in (uses body.blocks))) at.1;
}
