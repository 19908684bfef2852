-- Operands whose parameters and results have changed places, and whose constants are forgotten.
use Rattle.ir_syntax.specs.declared.constant.Const.TheBlock.{Undef}
use Rattle.ir_syntax.specs.declared.constant.Operand.{Operand}
use Rattle.ir_syntax.specs.declared.constant.Operand.TheVariants.{Param, Reg, Const}

abbrev pub swapped : Operand → Operand
swapped (Param k) = Reg k
swapped (Reg k) = Param k
swapped (Const constant) = Const Undef
