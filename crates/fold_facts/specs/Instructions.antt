-- What an instruction says of its result.
use Rattle.std.specs.Prelude.{◌==◌, List, if◌then◌else◌}
use Rattle.ir_types.specs.declared.scalar.Known.{Known}
use Rattle.ir_types.specs.declared.scalar.Known.TheVariants.{Unknown, Num, Null}
use Rattle.ir_syntax.specs.declared.body.Inst.{Inst}
use Rattle.ir_syntax.specs.declared.body.Inst.TheVariants as inst
use Rattle.fold_facts.specs.declared.fact.Fact.{Fact}
use Rattle.fold_facts.specs.declared.fact.Fact.TheVariants.{Unreached, One, Varying}
use Rattle.fold_facts.specs.Operands.{Setting, operand_fact}
use Rattle.fold_facts.specs.Arithmetic.{bin_fact, icmp_fact, cast_fact}

-- The result varies where the operand does, and is unreached where the operand is.
abbrev pub of_one : (Known → Fact) → Fact → Fact
of_one value Unreached = Unreached
of_one value (One v) = value v
of_one value Varying = Varying

-- It varies where one of the operands does, and else is unreached where one of them is.
abbrev pub of_two : (Known → Known → Fact) → Fact → Fact → Fact
of_two value Varying other = Varying
of_two value Unreached Unreached = Unreached
of_two value Unreached (One w) = Unreached
of_two value Unreached Varying = Varying
of_two value (One v) Unreached = Unreached
of_two value (One v) (One w) = value v w
of_two value (One v) Varying = Varying

-- the arm that a known condition chooses
abbrev pub arm_fact : Known → Fact → Fact → Fact
arm_fact Unknown a b = Varying
arm_fact (Num n) a b = if n == 0 then b else a
arm_fact Null a b = Varying

-- The arm that isn't chosen doesn't matter.
abbrev pub select_fact : Fact → Fact → Fact → Fact
select_fact Unreached a b = Unreached
select_fact (One v) a b = arm_fact v a b
select_fact Varying a b = Varying

-- An instruction without a result says Varying.
abbrev pub inst_fact : Setting → List Fact → Inst → Fact
inst_fact setting facts (inst.Bin op flags ty a b) = of_two (bin_fact op flags ty) (operand_fact setting facts a) (operand_fact setting facts b)
inst_fact setting facts (inst.Icmp pred ty a b) = of_two (icmp_fact pred ty) (operand_fact setting facts a) (operand_fact setting facts b)
inst_fact setting facts (inst.Select ty cond a b) = select_fact (operand_fact setting facts cond) (operand_fact setting facts a) (operand_fact setting facts b)
inst_fact setting facts (inst.Cast op nneg from to a) = of_one (cast_fact op nneg from to) (operand_fact setting facts a)
inst_fact setting facts (inst.Alloca ty count align) = Varying
inst_fact setting facts (inst.Load ty at align) = Varying
inst_fact setting facts (inst.Store ty value at align) = Varying
inst_fact setting facts (inst.Gep inbounds ty base indices) = Varying
inst_fact setting facts (inst.Call fn_ty ret_ext callee args) = Varying
