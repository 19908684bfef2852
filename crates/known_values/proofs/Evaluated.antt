-- What instructions give suits what is said of their results.
use Rattle.std.proofs.Common.{◌≡◌, ◌∙◌, ℕ, ◌==◌, Bool, true, false, refl, sym, ap, if◌then◌else◌}
use Rattle.ir_types.specs.declared.scalar.Scalar.{Scalar}
use Rattle.ir_types.specs.declared.scalar.Scalar.TheVariants.{I1, I8, I16, I32, I64, Ptr}
use Rattle.ir_types.specs.declared.scalar.BinOp.{BinOp}
use Rattle.ir_types.specs.declared.scalar.Flags.{Flags}
use Rattle.ir_types.specs.declared.scalar.Pred.{Pred}
use Rattle.ir_types.specs.declared.scalar.Pred.TheVariants.{Eq, Ne, Ugt, Uge, Ult, Ule, Sgt, Sge, Slt, Sle}
use Rattle.ir_types.specs.declared.scalar.CastOp.{CastOp}
use Rattle.ir_types.specs.declared.scalar.Known.{Known}
use Rattle.ir_types.specs.declared.scalar.Known.TheVariants.{Unknown, Num, Null}
use Rattle.ir_syntax.specs.declared.symbol.Sym.{Sym}
use Rattle.ir_syntax.specs.declared.constant.Operand.{Operand}
use Rattle.ir_syntax.specs.declared.body.Inst.{Inst}
use Rattle.ir_syntax.specs.declared.body.Inst.TheVariants.{Bin, Icmp, Select, Cast, Alloca, Load, Store, Gep, Call}
use Rattle.ir_syntax.specs.Programs.{ProgramData}
use Rattle.int_ops.specs.declared.outcome.Outcome.{Outcome}
use Rattle.int_ops.specs.declared.outcome.Outcome.TheVariants as outcome
use Rattle.int_ops.specs.Binary.{bin_outcome}
use Rattle.int_ops.specs.Casts.{cast_outcome}
use Rattle.int_ops.specs.Comparisons.{icmp_holds}
use Rattle.block_memory.specs.declared.value.Val.{Val}
use Rattle.block_memory.specs.declared.value.Val.TheVariants as val
use Rattle.block_memory.specs.Answers.{Gives, and_then}
use Rattle.block_memory.specs.Blocks.{MemoryData}
use Rattle.ir_steps.specs.States.{Frame}
use Rattle.ir_steps.specs.Operands.{value_in, value}
use Rattle.ir_steps.specs.Reading.{of_outcome, bin, cast, icmp, select, evaluated}
use Rattle.fold_facts.specs.declared.fact.Fact.{Fact}
use Rattle.fold_facts.specs.declared.fact.Fact.TheVariants.{Unreached, One, Varying}
use Rattle.fold_facts.specs.Arithmetic.{outcome_fact, holds_of_equals, bin_fact, icmp_fact, cast_fact}
use Rattle.fold_facts.specs.Instructions.{of_one, of_two, arm_fact, select_fact, inst_fact}
use Rattle.fold_facts.specs.Operands.{operand_fact}
use Rattle.known_values.specs.Suits.{IsKnownAs, Suits}
use Rattle.known_values.specs.Readings.{Reading, setting_of}
use Rattle.known_values.specs.Frames.{IsFrameOf}
use Rattle.known_values.proofs.Giving.{same_given, then_read, read_is}
use Rattle.known_values.proofs.Facts.{operand_suits}

-- ---- of one fact, and of two

of_one_suits : (said : Known → Fact) (x : Fact) (a v : Val Sym) → Suits x a → ((k : Known) → IsKnownAs k a → Suits (said k) v) → Suits (of_one said x) v
of_one_suits said Unreached a v s h = absurd s
of_one_suits said (One k) a v s h = h k s
of_one_suits said Varying a v s h = tt

of_two_suits : (said : Known → Known → Fact) (x y : Fact) (a b v : Val Sym) → Suits x a → Suits y b → ((k l : Known) → IsKnownAs k a → IsKnownAs l b → Suits (said k l) v) → Suits (of_two said x y) v
of_two_suits said Varying y a b v s t h = tt
of_two_suits said Unreached y a b v s t h = absurd s
of_two_suits said (One k) Unreached a b v s t h = absurd t
of_two_suits said (One k) (One l) a b v s t h = h k l s t
of_two_suits said (One k) Varying a b v s t h = tt

-- ---- operations

outcome_suits : (o : Outcome) (v : Val Sym) → of_outcome o ≡ Gives v → Suits (outcome_fact o) v
outcome_suits (outcome.Num n) v e = sym (same_given (val.Num n) v e)
outcome_suits outcome.Poison v e = tt
outcome_suits (outcome.Undefined why) v e = tt

bin_suits : (op : BinOp) (flags : Flags) (ty : Scalar) (a b v : Val Sym) → bin op flags ty a b ≡ Gives v → (k l : Known) → IsKnownAs k a → IsKnownAs l b → Suits (bin_fact op flags ty k l) v
bin_suits op flags ty a b v e (Num m) (Num n) s t =
    outcome_suits (bin_outcome op flags ty m n) v (sym (ap (λ x. bin op flags ty x b) s ∙ ap (bin op flags ty (val.Num m)) t) ∙ e)
bin_suits op flags ty a b v e (Num m) Unknown s t = tt
bin_suits op flags ty a b v e (Num m) Null s t = tt
bin_suits op flags ty a b v e Unknown l s t = tt
bin_suits op flags ty a b v e Null l s t = tt

cast_suits : (op : CastOp) (nneg : Bool) (from to : Scalar) (a v : Val Sym) → cast op nneg from to a ≡ Gives v → (k : Known) → IsKnownAs k a → Suits (cast_fact op nneg from to k) v
cast_suits op nneg from to a v e (Num m) s = outcome_suits (cast_outcome op nneg from to m) v (sym (ap (cast op nneg from to) s) ∙ e)
cast_suits op nneg from to a v e Unknown s = tt
cast_suits op nneg from to a v e Null s = tt

-- Null is compared with null as equal numbers are.
nulls_as : (pred : Pred) → icmp_holds pred I64 0 0 ≡ holds_of_equals pred
unfolding icmp_holds
nulls_as Eq = refl
nulls_as Ne = refl
nulls_as Ugt = refl
nulls_as Uge = refl
nulls_as Ult = refl
nulls_as Ule = refl
nulls_as Sgt = refl
nulls_as Sge = refl
nulls_as Slt = refl
nulls_as Sle = refl

numbers_suit : (mem : MemoryData) (pred : Pred) (ty : Scalar) (m n : ℕ) (v : Val Sym) → icmp mem pred ty (val.Num m) (val.Num n) ≡ Gives v → Suits (icmp_fact pred ty (Num m) (Num n)) v
numbers_suit mem pred I1 m n v e = sym (same_given (val.Num (if icmp_holds pred I1 m n then 1 else 0)) v e)
numbers_suit mem pred I8 m n v e = sym (same_given (val.Num (if icmp_holds pred I8 m n then 1 else 0)) v e)
numbers_suit mem pred I16 m n v e = sym (same_given (val.Num (if icmp_holds pred I16 m n then 1 else 0)) v e)
numbers_suit mem pred I32 m n v e = sym (same_given (val.Num (if icmp_holds pred I32 m n then 1 else 0)) v e)
numbers_suit mem pred I64 m n v e = sym (same_given (val.Num (if icmp_holds pred I64 m n then 1 else 0)) v e)
numbers_suit mem pred Ptr m n v e = cc

nulls_suit : (mem : MemoryData) (pred : Pred) (ty : Scalar) (v : Val Sym) → icmp mem pred ty val.Null val.Null ≡ Gives v → Suits (icmp_fact pred ty Null Null) v
nulls_suit mem pred I1 v e = cc
nulls_suit mem pred I8 v e = cc
nulls_suit mem pred I16 v e = cc
nulls_suit mem pred I32 v e = cc
nulls_suit mem pred I64 v e = cc
nulls_suit mem pred Ptr v e = sym (same_given (val.Num (if icmp_holds pred I64 0 0 then 1 else 0)) v e) ∙ ap (λ b. val.Num (if b then 1 else 0)) (nulls_as pred)

icmp_suits : (mem : MemoryData) (pred : Pred) (ty : Scalar) (a b v : Val Sym) → icmp mem pred ty a b ≡ Gives v → (k l : Known) → IsKnownAs k a → IsKnownAs l b → Suits (icmp_fact pred ty k l) v
icmp_suits mem pred ty a b v e (Num m) (Num n) s t = numbers_suit mem pred ty m n v (sym (ap (λ x. icmp mem pred ty x b) s ∙ ap (icmp mem pred ty (val.Num m)) t) ∙ e)
icmp_suits mem pred ty a b v e (Num m) Unknown s t = tt
icmp_suits mem pred ty a b v e (Num m) Null s t = tt
icmp_suits mem pred ty a b v e Null Null s t = nulls_suit mem pred ty v (sym (ap (λ x. icmp mem pred ty x b) s ∙ ap (icmp mem pred ty val.Null) t) ∙ e)
icmp_suits mem pred ty a b v e Null Unknown s t = tt
icmp_suits mem pred ty a b v e Null (Num n) s t = tt
icmp_suits mem pred ty a b v e Unknown l s t = tt

-- ---- the arm that is chosen

arm_suits : (p : ProgramData) (r : Reading) (f : Frame) (a b : Operand) (c v : Val Sym) → IsFrameOf r f → select p f a b c ≡ Gives v → (k : Known) → IsKnownAs k c
    → Suits (arm_fact k (operand_fact (setting_of r) r.assigned.facts a) (operand_fact (setting_of r) r.assigned.facts b)) v
arm_suits p r f a b c v h e Unknown s = tt
arm_suits p r f a b c v h e (Num n) s = of (n == 0) (sym (ap (select p f a b) s) ∙ e)
  where
    of : (zero_is : Bool) → value p f (if zero_is then b else a) ≡ Gives v
        → Suits (if zero_is then operand_fact (setting_of r) r.assigned.facts b else operand_fact (setting_of r) r.assigned.facts a) v
    of true g = operand_suits p r f b v h (read_is (value_in p f b) v g)
    of false g = operand_suits p r f a v h (read_is (value_in p f a) v g)
arm_suits p r f a b c v h e Null s = tt

select_suits : (p : ProgramData) (r : Reading) (f : Frame) (a b : Operand) (x : Fact) (c v : Val Sym) → IsFrameOf r f → select p f a b c ≡ Gives v → Suits x c
    → Suits (select_fact x (operand_fact (setting_of r) r.assigned.facts a) (operand_fact (setting_of r) r.assigned.facts b)) v
select_suits p r f a b Unreached c v h e s = absurd s
select_suits p r f a b (One k) c v h e s = arm_suits p r f a b c v h e k s
select_suits p r f a b Varying c v h e s = tt

-- ---- instructions

pub evaluated_suits : (p : ProgramData) (r : Reading) (f : Frame) (mem : MemoryData) (inst : Inst) (v : Val Sym) → IsFrameOf r f → evaluated p f mem inst ≡ Gives v → Suits (inst_fact (setting_of r) r.assigned.facts inst) v
evaluated_suits p r f mem (Bin op flags ty a b) v h e =
    let one = then_read (λ x. and_then (bin op flags ty x) (value p f b)) (value_in p f a) v e in
    let two = then_read (bin op flags ty one.0) (value_in p f b) v one.2 in
    of_two_suits (bin_fact op flags ty) (operand_fact (setting_of r) r.assigned.facts a) (operand_fact (setting_of r) r.assigned.facts b) one.0 two.0 v
    (operand_suits p r f a one.0 h one.1) (operand_suits p r f b two.0 h two.1) (bin_suits op flags ty one.0 two.0 v two.2)
evaluated_suits p r f mem (Icmp pred ty a b) v h e =
    let one = then_read (λ x. and_then (icmp mem pred ty x) (value p f b)) (value_in p f a) v e in
    let two = then_read (icmp mem pred ty one.0) (value_in p f b) v one.2 in
    of_two_suits (icmp_fact pred ty) (operand_fact (setting_of r) r.assigned.facts a) (operand_fact (setting_of r) r.assigned.facts b) one.0 two.0 v
    (operand_suits p r f a one.0 h one.1) (operand_suits p r f b two.0 h two.1) (icmp_suits mem pred ty one.0 two.0 v two.2)
evaluated_suits p r f mem (Select ty cond a b) v h e =
    let one = then_read (select p f a b) (value_in p f cond) v e in
    select_suits p r f a b (operand_fact (setting_of r) r.assigned.facts cond) one.0 v h one.2 (operand_suits p r f cond one.0 h one.1)
evaluated_suits p r f mem (Cast op nneg from to a) v h e =
    let one = then_read (cast op nneg from to) (value_in p f a) v e in
    of_one_suits (cast_fact op nneg from to) (operand_fact (setting_of r) r.assigned.facts a) one.0 v (operand_suits p r f a one.0 h one.1) (cast_suits op nneg from to one.0 v one.2)
evaluated_suits p r f mem (Alloca ty count align) v h e = tt
evaluated_suits p r f mem (Load ty at align) v h e = tt
evaluated_suits p r f mem (Store ty a at align) v h e = tt
evaluated_suits p r f mem (Gep inbounds ty base indices) v h e = tt
evaluated_suits p r f mem (Call fn_ty ret_ext callee args) v h e = tt
