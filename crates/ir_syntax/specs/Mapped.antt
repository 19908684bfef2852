-- Instructions, terminators and phis with each operand mapped. All else stays.
use Rattle.std.specs.Prelude.{map}
use Rattle.ir_syntax.specs.declared.constant.Operand.{Operand}
use Rattle.ir_syntax.specs.declared.body.Inst.{Inst}
use Rattle.ir_syntax.specs.declared.body.Inst.TheVariants.{Bin, Icmp, Select, Cast, Alloca, Load, Store, Gep, Call}
use Rattle.ir_syntax.specs.declared.body.Term.{Term}
use Rattle.ir_syntax.specs.declared.body.Term.TheVariants.{RetVoid, Ret, Br, CondBr, Switch, Unreachable}
use Rattle.ir_syntax.specs.declared.body.Phi.{Phi}
use Rattle.ir_syntax.specs.declared.body.Arg.{Arg}

abbrev pub map_arg : (Operand → Operand) → Arg → Arg
map_arg f arg = record arg { value = f arg.value }

abbrev pub map_operands : (Operand → Operand) → Inst → Inst
map_operands f (Bin op flags ty a b) = Bin op flags ty (f a) (f b)
map_operands f (Icmp pred ty a b) = Icmp pred ty (f a) (f b)
map_operands f (Select ty cond a b) = Select ty (f cond) (f a) (f b)
map_operands f (Cast op nneg from to a) = Cast op nneg from to (f a)
map_operands f (Alloca ty count align) = Alloca ty count align
map_operands f (Load ty at align) = Load ty (f at) align
map_operands f (Store ty value at align) = Store ty (f value) (f at) align
map_operands f (Gep inbounds ty base indices) = Gep inbounds ty (f base) (map (λ index. (index.0, f index.1)) indices)
map_operands f (Call fn_ty ret_ext callee args) = Call fn_ty ret_ext (f callee) (map (map_arg f) args)

abbrev pub map_term : (Operand → Operand) → Term → Term
map_term f RetVoid = RetVoid
map_term f (Ret ty value) = Ret ty (f value)
map_term f (Br to) = Br to
map_term f (CondBr cond one other) = CondBr (f cond) one other
map_term f (Switch ty value default cases) = Switch ty (f value) default cases
map_term f Unreachable = Unreachable

abbrev pub map_phi : (Operand → Operand) → Phi → Phi
map_phi f phi = record phi { entries = map (λ entry. (f entry.0, entry.1)) phi.entries }
