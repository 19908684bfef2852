-- What is known of the results of a block, once something is known of the parameters.
use Rattle.std.specs.Prelude.{◌≡◌, ℕ, ◌+◌, ◌%◌, ◌^◌, ◌<◌, List, Option, None, Some, length, slice_get}
use Rattle.ir_types.specs.declared.scalar.Known.{Known}
use Rattle.ir_types.specs.declared.scalar.Known.TheVariants.{Unknown, Num, Null}
use Rattle.ir_types.specs.declared.scalar.BinOp.{BinOp}
use Rattle.ir_types.specs.declared.scalar.BinOp.TheVariants as op
use Rattle.ir_syntax.specs.declared.constant.Const.{Const}
use Rattle.ir_syntax.specs.declared.constant.Const.TheVariants as const
use Rattle.ir_syntax.specs.declared.constant.Operand.{Operand}
use Rattle.ir_syntax.specs.declared.constant.Operand.TheVariants as operand
use Rattle.ir_syntax.specs.declared.body.Inst.{Inst}
use Rattle.ir_syntax.specs.declared.body.Inst.TheVariants as inst
use Rattle.straight_plan.specs.declared.fact.Fact.{Fact}
use Rattle.straight_plan.specs.declared.fact.Fact.TheVariants.{Unreached, One, Varying}

-- Unreached is below one value, and one value is below Varying.
abbrev pub IsBelow : Fact → Fact → Type 0
IsBelow Unreached other = Unit {0}
IsBelow (One v) Unreached = ⊥
IsBelow (One v) (One w) = v ≡ w
IsBelow (One v) Varying = Unit {0}
IsBelow Varying Unreached = ⊥
IsBelow Varying (One w) = ⊥
IsBelow Varying Varying = Unit {0}

-- ---- operands

abbrev pub known_fact : Known → Fact
known_fact Unknown = Varying
known_fact (Num n) = One (Num n)
known_fact Null = One Null

-- A parameter has its known value, or varies.
abbrev pub param_fact : Option Known → Fact
param_fact None = Varying
param_fact (Some known) = known_fact known

abbrev pub fact_at : Option Fact → Fact
fact_at None = Varying
fact_at (Some fact) = fact

-- a number or null is itself; every other constant varies
abbrev pub const_fact : Const → Fact
const_fact (const.Int n) = One (Num n)
const_fact const.Null = One Null
const_fact (const.Addr place offset) = Varying
const_fact const.Undef = Varying
const_fact const.Poison = Varying
const_fact const.Zero = Varying
const_fact (const.Text bytes) = Varying
const_fact (const.Many' shape parts) = Varying

abbrev pub operand_fact : List Known → List Fact → Operand → Fact
operand_fact pattern facts (operand.Param k) = param_fact (slice_get pattern k)
operand_fact pattern facts (operand.Reg k) = fact_at (slice_get facts k)
operand_fact pattern facts (operand.Const c) = const_fact c

-- ---- what an instruction asks of its result

-- the sum of two known values of 32 bits, where it is a number
abbrev pub known_sum : Known → Known → Fact
known_sum (Num x) (Num y) = One (Num ((x + y) % 2 ^ 32))
known_sum (Num x) Unknown = Varying
known_sum (Num x) Null = Varying
known_sum Unknown y = Varying
known_sum Null y = Varying

-- It varies where an operand varies, and is unreached where one of the operands is.
abbrev pub fact_sum : Fact → Fact → Fact
fact_sum Varying other = Varying
fact_sum Unreached Varying = Varying
fact_sum Unreached (One w) = Unreached
fact_sum Unreached Unreached = Unreached
fact_sum (One v) Varying = Varying
fact_sum (One v) Unreached = Unreached
fact_sum (One v) (One w) = known_sum v w

-- an addition is the only operation that folds here
abbrev pub operation_fact : BinOp → Fact → Fact → Fact
operation_fact op.Add x y = fact_sum x y
operation_fact other x y = Varying

abbrev pub said : List Known → List Fact → Inst → Fact
said pattern facts (inst.Bin op flags ty a b) = operation_fact op (operand_fact pattern facts a) (operand_fact pattern facts b)
said pattern facts (inst.Icmp pred ty a b) = Varying
said pattern facts (inst.Select ty cond a b) = Varying
said pattern facts (inst.Cast op nneg from to a) = Varying
said pattern facts (inst.Alloca ty count align) = Varying
said pattern facts (inst.Load ty at align) = Varying
said pattern facts (inst.Store ty value at align) = Varying
said pattern facts (inst.Gep inbounds ty base indices) = Varying
said pattern facts (inst.Call fn_ty ret_ext callee args) = Varying

-- ---- assignments

-- One fact for each instruction, and each is at least what its instruction asks.
pub record IsClosed (pattern : List Known) (insts : List Inst) (facts : List Fact) : Type 0 where
  pub each : length facts ≡ length insts
  pub closed : (k : ℕ) (i : Inst) → slice_get insts k ≡ Some i → IsBelow (said pattern facts i) (fact_at (slice_get facts k))

-- the closed assignment that is below every closed one
pub record IsLeastClosed (pattern : List Known) (insts : List Inst) (facts : List Fact) : Type 0 where
  pub closed : IsClosed pattern insts facts
  pub least : (others : List Fact) → IsClosed pattern insts others → (k : ℕ) → k < length insts → IsBelow (fact_at (slice_get facts k)) (fact_at (slice_get others k))
