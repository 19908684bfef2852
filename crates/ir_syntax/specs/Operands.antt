-- The operands of instructions, terminators and phis, in the order of the text.
use Rattle.std.specs.Prelude.{List, [], ◌∷◌, map}
use Rattle.ir_syntax.specs.declared.constant.Operand.{Operand}
use Rattle.ir_syntax.specs.declared.body.Inst.{Inst}
use Rattle.ir_syntax.specs.declared.body.Inst.TheVariants.{Bin, Icmp, Select, Cast, Alloca, Load, Store, Gep, Call}
use Rattle.ir_syntax.specs.declared.body.Term.{Term}
use Rattle.ir_syntax.specs.declared.body.Term.TheVariants.{RetVoid, Ret, Br, CondBr, Switch, Unreachable}
use Rattle.ir_syntax.specs.declared.body.Phi.{Phi}

-- the operands of an instruction
abbrev pub operands : Inst → List Operand
operands (Bin op flags ty a b) = a ∷ b ∷ []
operands (Icmp pred ty a b) = a ∷ b ∷ []
operands (Select ty cond a b) = cond ∷ a ∷ b ∷ []
operands (Cast op nneg from to a) = a ∷ []
operands (Alloca ty count align) = []
operands (Load ty at align) = at ∷ []
operands (Store ty value at align) = value ∷ at ∷ []
operands (Gep inbounds ty base indices) = base ∷ map (λ index. index.1) indices
operands (Call fn_ty ret_ext callee args) = callee ∷ map (λ arg. arg.value) args

-- and of a terminator
abbrev pub term_operands : Term → List Operand
term_operands RetVoid = []
term_operands (Ret ty value) = value ∷ []
term_operands (Br to) = []
term_operands (CondBr cond one other) = cond ∷ []
term_operands (Switch ty value default cases) = value ∷ []
term_operands Unreachable = []

-- and of a phi, one for each edge
abbrev pub phi_operands : Phi → List Operand
phi_operands phi = map (λ entry. entry.0) phi.entries
