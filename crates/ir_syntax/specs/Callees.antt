-- Callees that are written as names.
use Rattle.std.specs.Prelude.{ℕ, zero, pos, Option, None, Some}
use Rattle.ir_syntax.specs.declared.constant.Const.{Const, out-Const}
use Rattle.ir_syntax.specs.declared.constant.Const.TheOpen.{Const-F}
use Rattle.ir_syntax.specs.declared.constant.Operand.{Operand}
use Rattle.ir_syntax.specs.declared.constant.Operand.TheVariants as operand
use Rattle.ir_syntax.specs.declared.body.Inst.{Inst}
use Rattle.ir_syntax.specs.declared.body.Inst.TheVariants.{Bin, Icmp, Select, Cast, Alloca, Load, Store, Gep, Call}

-- An address with offset 0 is the name of its item.
abbrev pub place_in : Const-F Const → Option ℕ
place_in (Const-F.Addr place (pos zero)) = Some place
place_in _ = None

-- the place of the item whose name the operand is
abbrev pub written_callee : Operand → Option ℕ
written_callee (operand.Param k) = None
written_callee (operand.Reg k) = None
written_callee (operand.Const constant) = place_in (out-Const constant)

-- and the same of the callee of a call
abbrev pub inst_callee : Inst → Option ℕ
inst_callee (Bin op flags ty a b) = None
inst_callee (Icmp pred ty a b) = None
inst_callee (Select ty cond a b) = None
inst_callee (Cast op nneg from to a) = None
inst_callee (Alloca ty count align) = None
inst_callee (Load ty at align) = None
inst_callee (Store ty value at align) = None
inst_callee (Gep inbounds ty base indices) = None
inst_callee (Call fn_ty ret_ext callee args) = written_callee callee
