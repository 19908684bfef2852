-- The residual body: known values are put in, and additions with a known value are left out.
use Rattle.std.specs.Prelude.{ℕ, suc, ◌+◌, Bool, true, false, not, List, [], ◌∷◌, map, slice_get, if◌then◌else◌}
use Rattle.ir_types.specs.declared.scalar.Known.{Known}
use Rattle.ir_types.specs.declared.scalar.Known.TheVariants.{Unknown, Num, Null}
use Rattle.ir_syntax.specs.declared.constant.Const.TheVariants as const
use Rattle.ir_syntax.specs.declared.constant.Operand.{Operand}
use Rattle.ir_syntax.specs.declared.constant.Operand.TheVariants as operand
use Rattle.ir_syntax.specs.declared.body.Arg.{Arg}
use Rattle.ir_syntax.specs.declared.body.Inst.{Inst}
use Rattle.ir_syntax.specs.declared.body.Inst.TheVariants as inst
use Rattle.straight_plan.specs.declared.fact.Fact.{Fact}
use Rattle.straight_plan.specs.declared.fact.Fact.TheVariants.{Unreached, One, Varying}
use Rattle.straight_plan.specs.Folding.{operand_fact, fact_at}

-- ---- known values put in

abbrev pub put_known : Known → Operand → Operand
put_known Unknown x = x
put_known (Num n) x = operand.Const (const.Int n)
put_known Null x = operand.Const const.Null

abbrev pub put_fact : Fact → Operand → Operand
put_fact Unreached x = x
put_fact (One v) x = put_known v x
put_fact Varying x = x

-- the operand, or its value where that is known
abbrev pub put : List Known → List Fact → Operand → Operand
put pattern facts x = put_fact (operand_fact pattern facts x) x

abbrev pub put_arg : List Known → List Fact → Arg → Arg
put_arg pattern facts arg = record arg { value = put pattern facts arg.value }

-- only additions and calls stand in the blocks of this form
abbrev pub put_inst : List Known → List Fact → Inst → Inst
put_inst pattern facts (inst.Bin op flags ty a b) = inst.Bin op flags ty (put pattern facts a) (put pattern facts b)
put_inst pattern facts (inst.Icmp pred ty a b) = inst.Icmp pred ty a b
put_inst pattern facts (inst.Select ty cond a b) = inst.Select ty cond a b
put_inst pattern facts (inst.Cast op nneg from to a) = inst.Cast op nneg from to a
put_inst pattern facts (inst.Alloca ty count align) = inst.Alloca ty count align
put_inst pattern facts (inst.Load ty at align) = inst.Load ty at align
put_inst pattern facts (inst.Store ty value at align) = inst.Store ty value at align
put_inst pattern facts (inst.Gep inbounds ty base indices) = inst.Gep inbounds ty base indices
put_inst pattern facts (inst.Call fn_ty ret_ext callee args) = inst.Call fn_ty ret_ext (put pattern facts callee) (map (put_arg pattern facts) args)

-- ---- what stays

abbrev pub is_one : Fact → Bool
is_one Unreached = false
is_one (One v) = true
is_one Varying = false

-- Operations with a known value are left out; everything else stays.
abbrev pub stays : Fact → Inst → Bool
stays fact (inst.Bin op flags ty a b) = not (is_one fact)
stays fact (inst.Icmp pred ty a b) = true
stays fact (inst.Select ty cond a b) = true
stays fact (inst.Cast op nneg from to a) = true
stays fact (inst.Alloca ty count align) = true
stays fact (inst.Load ty at align) = true
stays fact (inst.Store ty value at align) = true
stays fact (inst.Gep inbounds ty base indices) = true
stays fact (inst.Call fn_ty ret_ext callee args) = true

-- The instructions that stay, of those from the k-th on, with known values put in. Registers keep their numbers.
abbrev pub residual_from : List Known → List Fact → ℕ → List Inst → List Inst
residual_from pattern facts k [] = []
residual_from pattern facts k (i ∷ is) =
    if stays (fact_at (slice_get facts k)) i then put_inst pattern facts i ∷ residual_from pattern facts (suc k) is
    else residual_from pattern facts (suc k) is

abbrev pub residual : List Known → List Fact → List Inst → List Inst
residual pattern facts insts = residual_from pattern facts 0 insts

-- how many of the first n instructions stay, of those from the k-th on: the new number of the result k + n
abbrev pub stay_count : List Fact → ℕ → ℕ → List Inst → ℕ
stay_count facts k ℕ.zero insts = 0
stay_count facts k (suc n) [] = 0
stay_count facts k (suc n) (i ∷ is) = (if stays (fact_at (slice_get facts k)) i then 1 else 0) + stay_count facts (suc k) n is
