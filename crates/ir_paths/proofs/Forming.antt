-- In a body that a text can write the registers and blocks that are named are there.
use Rattle.std.proofs.Common.{ℕ, List, [], ◌∷◌, length, map, All, subst}
use Rattle.std.proofs.lemmas.List.Elements.{All-nil, All-cons, All-map}
use Rattle.ir_types.specs.declared.scalar.Scalar.{Scalar}
use Rattle.ir_types.specs.declared.scalar.Scalar.TheVariants.{I1, Ptr}
use Rattle.ir_syntax.specs.declared.constant.Operand.{Operand}
use Rattle.ir_syntax.specs.declared.constant.Operand.TheVariants as operand
use Rattle.ir_syntax.specs.declared.body.Inst.{Inst}
use Rattle.ir_syntax.specs.declared.body.Inst.TheVariants.{Bin, Icmp, Select, Cast, Alloca, Load, Store, Gep, Call}
use Rattle.ir_syntax.specs.declared.body.Term.{Term}
use Rattle.ir_syntax.specs.declared.body.Term.TheVariants.{RetVoid, Ret, Br, CondBr, Switch, Unreachable}
use Rattle.ir_syntax.specs.declared.body.Phi.{Phi}
use Rattle.ir_syntax.specs.declared.body.Block.{Block}
use Rattle.ir_syntax.specs.declared.body.Body.{Body}
use Rattle.ir_syntax.specs.declared.item.Item.{Item}
use Rattle.ir_syntax.specs.FormedBody.{Places, places_of, IsOperand, FormedInst, FormedPhi, FormedTerm, FormedBlock, FormedBody}
use Rattle.ir_syntax.specs.Definite.{first_result, term_operands}
use Rattle.ir_paths.proofs.Defining.{all_results}
use Rattle.ir_paths.proofs.Using.{IsRegister, IsPhi, IsInst, IsBlock}

register_of : (places : Places) (ty : Scalar) (o : Operand) → IsOperand places ty o → IsRegister places.results o
register_of places ty (operand.Param k) h = tt
register_of places ty (operand.Reg k) h = h
register_of places ty (operand.Const constant) h = tt

abbrev AreRegisters : Places → List Operand → Type 0
AreRegisters places os = All (IsRegister places.results) os

one : (places : Places) (ty : Scalar) (o : Operand) → IsOperand places ty o → AreRegisters places (o ∷ [])
one places ty o h = All-cons (IsRegister places.results) o [] (register_of places ty o h) (All-nil (IsRegister places.results))

more : (places : Places) (ty : Scalar) (o : Operand) (os : List Operand) → IsOperand places ty o → AreRegisters places os → AreRegisters places (o ∷ os)
more places ty o os h rest = All-cons (IsRegister places.results) o os (register_of places ty o h) rest

inst_of : (places : Places) (i : Inst) → FormedInst places i → IsInst places.results i
inst_of places (Bin op flags ty a b) h = more places ty a (b ∷ []) h.1 (one places ty b h.2)
inst_of places (Icmp pred ty a b) h = more places ty a (b ∷ []) h.0 (one places ty b h.1)
inst_of places (Select ty cond a b) h = more places I1 cond (a ∷ b ∷ []) h.0 (more places ty a (b ∷ []) h.1 (one places ty b h.2))
inst_of places (Cast op nneg from to a) h = one places from a h.1
inst_of places (Alloca ty count align) h = All-nil (IsRegister places.results)
inst_of places (Load ty at align) h = one places Ptr at h.0
inst_of places (Store ty value at align) h = more places ty value (at ∷ []) h.0 (one places Ptr at h.1)
inst_of places (Gep inbounds ty base indices) h =
    more places Ptr base (map (λ index. index.1) indices) h.1 (All-map (IsRegister places.results) (λ index. index.1) indices (λ k d l. register_of places _ _ (h.2 k d l).1))
inst_of places (Call fn_ty ret_ext callee args) h =
    more places Ptr callee (map (λ arg. arg.value) args) h.has_callee (All-map (IsRegister places.results) (λ arg. arg.value) args (λ k d l. register_of places _ _ (h.has_args k d l)))

term_of : (places : Places) (term : Term) → FormedTerm places term → AreRegisters places (term_operands term)
term_of places RetVoid h = All-nil (IsRegister places.results)
term_of places (Ret ty value) h = one places ty value h
term_of places (Br to) h = All-nil (IsRegister places.results)
term_of places (CondBr cond one_way other) h = one places I1 cond h.0
term_of places (Switch ty value default cases) h = one places ty value h.0
term_of places Unreachable h = All-nil (IsRegister places.results)

phi_of : (places : Places) (phi : Phi) → FormedPhi places phi → IsPhi places.results places.blocks phi
phi_of places phi h = λ k d l. (register_of places phi.ty _ (h.has_operands k d l), h.has_blocks k d l)

block_of : (places : Places) (block : Block) → FormedBlock places block → IsBlock places.results places.blocks block
block_of places block h = record {
  phis = λ k d l. phi_of places _ (h.phis k d l);
  insts = λ k d l. inst_of places _ (h.insts k d l);
  term = term_of places block.term h.term;
}

pub blocks_of : (items : List Item) (params : ℕ) (body : Body) → FormedBody items params body → All (IsBlock (first_result body.blocks (length body.blocks)) (length body.blocks)) body.blocks
blocks_of items params body h = subst (λ (n : ℕ). All (IsBlock n (length body.blocks)) body.blocks) (all_results body.blocks) (λ k d l. block_of (places_of items params body) _ (h.has_blocks k d l))
