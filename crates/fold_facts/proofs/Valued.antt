-- Facts of which something is known: of operands that have one, an instruction and a phi say one.
use Rattle.std.proofs.Common.{◌≡◌, ℕ, zero, suc, Bool, true, false, cond, List, [], ◌∷◌, Option, None, Some, Contains, map, refl, sym, subst, arith}
use Rattle.std.specs.Prelude.{◌==◌, slice_get}
use Rattle.std.proofs.lemmas.Option.{none-some}
use Rattle.std.proofs.lemmas.List.Elements.{Contains-append_left, Contains-append_right}
use Rattle.ir_types.specs.declared.scalar.Scalar.{Scalar}
use Rattle.ir_types.specs.declared.scalar.Known.{Known}
use Rattle.ir_types.specs.declared.scalar.Known.TheVariants.{Unknown, Num, Null}
use Rattle.ir_types.specs.declared.scalar.BinOp.{BinOp}
use Rattle.ir_types.specs.declared.scalar.Flags.{Flags}
use Rattle.ir_types.specs.declared.scalar.Pred.{Pred}
use Rattle.ir_types.specs.declared.scalar.CastOp.{CastOp}
use Rattle.int_ops.specs.declared.outcome.Outcome.{Outcome}
use Rattle.int_ops.specs.declared.outcome.Outcome.TheVariants as outcome
use Rattle.int_ops.specs.Binary.{bin_outcome}
use Rattle.int_ops.specs.Casts.{cast_outcome}
use Rattle.ir_syntax.specs.declared.constant.Const.{Const}
use Rattle.ir_syntax.specs.declared.constant.Const.TheVariants as const
use Rattle.ir_syntax.specs.declared.constant.Operand.{Operand}
use Rattle.ir_syntax.specs.declared.constant.Operand.TheVariants as operand
use Rattle.ir_syntax.specs.declared.body.Inst.{Inst}
use Rattle.ir_syntax.specs.declared.body.Inst.TheVariants as inst
use Rattle.ir_syntax.specs.Operands.{operands}
use Rattle.fold_facts.specs.declared.fact.Fact.{Fact}
use Rattle.fold_facts.specs.declared.fact.Fact.TheVariants.{Unreached, One, Varying}
use Rattle.fold_facts.specs.Facts.{IsBelow, join, join_all}
use Rattle.fold_facts.specs.Assigned.{fact_of}
use Rattle.fold_facts.specs.Operands.{Setting, known_fact, param_fact, const_fact, operand_fact}
use Rattle.fold_facts.specs.Arithmetic.{outcome_fact, bin_fact, icmp_fact, cast_fact}
use Rattle.fold_facts.specs.Instructions.{of_one, of_two, arm_fact, select_fact, inst_fact}
use Rattle.fold_facts.proofs.Orders.{join_left, join_right}

-- a fact that isn't Unreached
abbrev pub IsValued : Fact → Type 0
IsValued Unreached = ⊥
IsValued (One v) = Unit {0}
IsValued Varying = Unit {0}

pub valued_above : (x y : Fact) → IsBelow x y → IsValued x → IsValued y
valued_above Unreached y less v = absurd v
valued_above (One w) Unreached less v = absurd less
valued_above (One w) (One z) less v = tt
valued_above (One w) Varying less v = tt
valued_above Varying Unreached less v = absurd less
valued_above Varying (One z) less v = tt
valued_above Varying Varying less v = tt

pub valued_join : {X : Type 0} (f : X → Fact) (xs : List X) (k : ℕ) (x : X) → slice_get xs k ≡ Some x → IsValued (f x) → IsValued (join_all (map f xs))
valued_join f [] k x is v = absurd (none-some x is)
valued_join f (y ∷ ys) zero x is v = valued_above (f y) (join (f y) (join_all (map f ys))) (join_left (f y) (join_all (map f ys))) (subst (λ z. IsValued (f z)) (sym (some_is is)) v)
  where
    some_is : {A : Type 0} {p q : A} → Some p ≡ Some q → p ≡ q
    some_is h = cc
valued_join f (y ∷ ys) (suc k) x is v = valued_above (join_all (map f ys)) (join (f y) (join_all (map f ys))) (join_right (f y) (join_all (map f ys))) (valued_join f ys k x is v)

-- ---- operations

outcome_valued : (o : Outcome) → IsValued (outcome_fact o)
outcome_valued (outcome.Num n) = tt
outcome_valued outcome.Poison = tt
outcome_valued (outcome.Undefined cause) = tt

bin_valued : (op : BinOp) (flags : Flags) (ty : Scalar) (v w : Known) → IsValued (bin_fact op flags ty v w)
bin_valued op flags ty Unknown w = tt
bin_valued op flags ty (Num a) Unknown = tt
bin_valued op flags ty (Num a) (Num b) = outcome_valued (bin_outcome op flags ty a b)
bin_valued op flags ty (Num a) Null = tt
bin_valued op flags ty Null w = tt

icmp_valued : (pred : Pred) (ty : Scalar) (v w : Known) → IsValued (icmp_fact pred ty v w)
icmp_valued pred ty Unknown w = tt
icmp_valued pred ty (Num a) Unknown = tt
icmp_valued pred ty (Num a) (Num b) = tt
icmp_valued pred ty (Num a) Null = tt
icmp_valued pred ty Null Unknown = tt
icmp_valued pred ty Null (Num b) = tt
icmp_valued pred ty Null Null = tt

cast_valued : (op : CastOp) (nneg : Bool) (from to : Scalar) (v : Known) → IsValued (cast_fact op nneg from to v)
cast_valued op nneg from to Unknown = tt
cast_valued op nneg from to (Num a) = outcome_valued (cast_outcome op nneg from to a)
cast_valued op nneg from to Null = tt

two_valued : (value : Known → Known → Fact) (x y : Fact) → ((v w : Known) → IsValued (value v w)) → IsValued x → IsValued y → IsValued (of_two value x y)
two_valued value Unreached y all p q = absurd p
two_valued value (One v) Unreached all p q = absurd q
two_valued value (One v) (One w) all p q = all v w
two_valued value (One v) Varying all p q = tt
two_valued value Varying y all p q = tt

one_valued : (value : Known → Fact) (x : Fact) → ((v : Known) → IsValued (value v)) → IsValued x → IsValued (of_one value x)
one_valued value Unreached all p = absurd p
one_valued value (One v) all p = all v
one_valued value Varying all p = tt

arm_valued : (v : Known) (x y : Fact) → IsValued x → IsValued y → IsValued (arm_fact v x y)
arm_valued Unknown x y p q = tt
arm_valued (Num n) x y p q = by (n == 0)
  where
    by : (b : Bool) → IsValued (cond b y x)
    by true = q
    by false = p
arm_valued Null x y p q = tt

select_valued : (c x y : Fact) → IsValued c → IsValued x → IsValued y → IsValued (select_fact c x y)
select_valued Unreached x y r p q = absurd r
select_valued (One v) x y r p q = arm_valued v x y p q
select_valued Varying x y r p q = tt

-- ---- operands

known_valued : (v : Known) → IsValued (known_fact v)
known_valued Unknown = tt
known_valued (Num n) = tt
known_valued Null = tt

param_valued : (o : Option Known) → IsValued (param_fact o)
param_valued None = tt
param_valued (Some v) = known_valued v

const_valued : (c : Const) → IsValued (const_fact c)
const_valued (const.Int n) = tt
const_valued const.Null = tt
const_valued (const.Addr place offset) = tt
const_valued const.Undef = tt
const_valued const.Poison = tt
const_valued const.Zero = tt
const_valued (const.Text bytes) = tt
const_valued (const.Many' shape parts) = tt

pub operand_valued : (setting : Setting) (facts : List Fact) (o : Operand) → ((r : ℕ) → o ≡ operand.Reg r → IsValued (fact_of facts r)) → IsValued (operand_fact setting facts o)
operand_valued setting facts (operand.Param k) h = param_valued (slice_get setting.known k)
operand_valued setting facts (operand.Reg r) h = h r refl
operand_valued setting facts (operand.Const c) h = const_valued c

here : {A : Type 0} (x : A) (xs : List A) → Contains (x ∷ xs) x
here x xs = Contains-append_left (x ∷ []) xs x (0, omega arith, refl)

there : {A : Type 0} (y x : A) (xs : List A) → Contains xs x → Contains (y ∷ xs) x
there y x xs h = Contains-append_right (y ∷ []) xs x h

-- What an instruction says of such operands.
pub inst_valued : (setting : Setting) (facts : List Fact) (i : Inst) → ((o : Operand) → Contains (operands i) o → IsValued (operand_fact setting facts o)) → IsValued (inst_fact setting facts i)
inst_valued setting facts (inst.Bin op flags ty a b) h = two_valued (bin_fact op flags ty) (operand_fact setting facts a) (operand_fact setting facts b) (bin_valued op flags ty) (h a (here a (b ∷ []))) (h b (there a b (b ∷ []) (here b [])))
inst_valued setting facts (inst.Icmp pred ty a b) h = two_valued (icmp_fact pred ty) (operand_fact setting facts a) (operand_fact setting facts b) (icmp_valued pred ty) (h a (here a (b ∷ []))) (h b (there a b (b ∷ []) (here b [])))
inst_valued setting facts (inst.Select ty c a b) h =
    select_valued (operand_fact setting facts c) (operand_fact setting facts a) (operand_fact setting facts b) (h c (here c (a ∷ b ∷ []))) (h a (there c a (a ∷ b ∷ []) (here a (b ∷ []))))
    (h b (there c b (a ∷ b ∷ []) (there a b (b ∷ []) (here b []))))
inst_valued setting facts (inst.Cast op nneg from to a) h = one_valued (cast_fact op nneg from to) (operand_fact setting facts a) (cast_valued op nneg from to) (h a (here a []))
inst_valued setting facts (inst.Alloca ty count align) h = tt
inst_valued setting facts (inst.Load ty at align) h = tt
inst_valued setting facts (inst.Store ty value at align) h = tt
inst_valued setting facts (inst.Gep inbounds ty base indices) h = tt
inst_valued setting facts (inst.Call fn_ty ret_ext callee args) h = tt
