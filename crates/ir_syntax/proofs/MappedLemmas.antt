-- Operands of what was made by mapping each operand.
use Rattle.std.proofs.Common.{◌≡◌, List, [], ◌∷◌, map, refl, ap}
use Rattle.ir_types.specs.declared.scalar.Scalar.{Scalar}
use Rattle.ir_syntax.specs.declared.constant.Operand.{Operand}
use Rattle.ir_syntax.specs.declared.body.Inst.{Inst}
use Rattle.ir_syntax.specs.declared.body.Inst.TheVariants.{Bin, Icmp, Select, Cast, Alloca, Load, Store, Gep, Call}
use Rattle.ir_syntax.specs.declared.body.Term.{Term}
use Rattle.ir_syntax.specs.declared.body.Term.TheVariants.{RetVoid, Ret, Br, CondBr, Switch, Unreachable}
use Rattle.ir_syntax.specs.declared.body.Phi.{Phi}
use Rattle.ir_syntax.specs.Edges.{successors}
use Rattle.ir_syntax.specs.Mapped.{map_operands, map_term, map_phi}
use Rattle.ir_syntax.specs.Operands.{operands, term_operands, phi_operands}
use Rattle.ir_syntax.specs.Results.{result_type}

-- The parts of mapped things are the parts, mapped.
parts-map : {X Y : Type 0} (part : X → Y) (g : X → X) (f : Y → Y) → ((x : X) → part (g x) ≡ f (part x)) → (xs : List X) → map part (map g xs) ≡ map f (map part xs)
parts-map part g f each [] = refl
parts-map part g f each (x ∷ xs) = let here = each x in let rest = parts-map part g f each xs in cc

pub operands-map : (f : Operand → Operand) (i : Inst) → operands (map_operands f i) ≡ map f (operands i)
operands-map f (Bin op flags ty a b) = refl
operands-map f (Icmp pred ty a b) = refl
operands-map f (Select ty cond a b) = refl
operands-map f (Cast op nneg from to a) = refl
operands-map f (Alloca ty count align) = refl
operands-map f (Load ty at align) = refl
operands-map f (Store ty value at align) = refl
operands-map f (Gep inbounds ty base indices) = ap (λ more. f base ∷ more) (parts-map _ _ f (λ index. refl) indices)
operands-map f (Call fn_ty ret_ext callee args) = ap (λ more. f callee ∷ more) (parts-map _ _ f (λ arg. refl) args)

pub result-map : (f : Operand → Operand) (i : Inst) → result_type (map_operands f i) ≡ result_type i
result-map f (Bin op flags ty a b) = refl
result-map f (Icmp pred ty a b) = refl
result-map f (Select ty cond a b) = refl
result-map f (Cast op nneg from to a) = refl
result-map f (Alloca ty count align) = refl
result-map f (Load ty at align) = refl
result-map f (Store ty value at align) = refl
result-map f (Gep inbounds ty base indices) = refl
result-map f (Call fn_ty ret_ext callee args) = refl

pub term_operands-map : (f : Operand → Operand) (t : Term) → term_operands (map_term f t) ≡ map f (term_operands t)
term_operands-map f RetVoid = refl
term_operands-map f (Ret ty value) = refl
term_operands-map f (Br to) = refl
term_operands-map f (CondBr cond one other) = refl
term_operands-map f (Switch ty value default cases) = refl
term_operands-map f Unreachable = refl

pub successors-map : (f : Operand → Operand) (t : Term) → successors (map_term f t) ≡ successors t
successors-map f RetVoid = refl
successors-map f (Ret ty value) = refl
successors-map f (Br to) = refl
successors-map f (CondBr cond one other) = refl
successors-map f (Switch ty value default cases) = refl
successors-map f Unreachable = refl

pub phi_operands-map : (f : Operand → Operand) (phi : Phi) → phi_operands (map_phi f phi) ≡ map f (phi_operands phi)
phi_operands-map f phi = parts-map _ _ f (λ entry. refl) phi.entries
