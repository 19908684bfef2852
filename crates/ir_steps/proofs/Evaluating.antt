-- Instructions that only read are safe, and give values of their result's type.
use Rattle.std.proofs.Common.{◌≡◌, ℕ, ◌<◌, Bool, true, false, ◌==◌, IsTrue, IfSome, List, [], ◌∷◌, length, Option, if◌then◌else◌, refl}
use Rattle.std.specs.List.{AllZip}
use Rattle.ir_types.specs.declared.scalar.Scalar.{Scalar}
use Rattle.ir_types.specs.declared.scalar.Scalar.TheVariants.{I1, I8, I16, I32, I64, Ptr}
use Rattle.ir_types.specs.declared.scalar.BinOp.{BinOp}
use Rattle.ir_types.specs.declared.scalar.Flags.{Flags}
use Rattle.ir_types.specs.declared.scalar.Pred.{Pred}
use Rattle.ir_types.specs.declared.scalar.CastOp.{CastOp}
use Rattle.ir_types.specs.declared.scalar.CastOp.TheVariants.{Zext, Sext, Trunc}
use Rattle.ir_types.specs.Scalars.{IsInteger, width, is_number_of}
use Rattle.int_ops.specs.declared.outcome.Outcome.{Outcome}
use Rattle.int_ops.specs.declared.outcome.Outcome.TheVariants as outcome
use Rattle.int_ops.specs.PoisonOperands.{bin_of_values, icmp_of_values, cast_of_value}
use Rattle.int_ops.proofs.OfType.{values_law, icmp_law, cast_value_law}
use Rattle.ir_syntax.specs.declared.symbol.Sym.{Sym}
use Rattle.ir_syntax.specs.declared.constant.Operand.{Operand}
use Rattle.ir_syntax.specs.declared.body.Inst.TheVariants.{Bin, Icmp, Select, Cast, Load}
use Rattle.ir_syntax.specs.Programs.{ProgramData}
use Rattle.ir_syntax.specs.Typed.{Widths}
use Rattle.block_memory.specs.declared.value.Val.{Val}
use Rattle.block_memory.specs.declared.value.Val.TheVariants as val
use Rattle.block_memory.specs.Answers.{Answer, Gives, and_then}
use Rattle.block_memory.specs.Blocks.{MemoryData}
use Rattle.block_memory.specs.Loads.{load}
use Rattle.ir_steps.specs.States.{Frame}
use Rattle.ir_steps.specs.Operands.{value_in, value, values}
use Rattle.ir_steps.specs.Reading.{number, of_outcome, bin, cast, icmp_numbers, icmp, select, align_of, evaluated}
use Rattle.ir_steps.proofs.Fits.{IsValue, Has, MemoryFits}
use Rattle.ir_steps.proofs.Safely.{Safe, safe_then, safe_has}
use Rattle.ir_steps.proofs.Values.{AreValues}
use Rattle.ir_steps.proofs.AccessingValues.{load_fits}
use Rattle.ir_steps.proofs.AccessingPointers.{compare_fits}

-- ---- operands

-- The operand has a value of the type in a program that has made so many blocks.
abbrev pub IsRead : ProgramData → ℕ → Frame → Scalar → Operand → Type 0
IsRead p made f ty a = Has (IsValue p made ty) (value_in p f a)

pub value_safe : (p : ProgramData) (f : Frame) (made : ℕ) (ty : Scalar) (a : Operand) → IsRead p made f ty a → Safe (IsValue p made ty) (value p f a)
value_safe p f made ty a h = safe_has (IsValue p made ty) (value_in p f a) h

pub values_safe : (p : ProgramData) (f : Frame) (made : ℕ) (tys : List Scalar) (operands : List Operand) → AllZip (IsRead p made f) tys operands → Safe (AreValues p made tys) (values p f operands)
values_safe p f made [] [] h = tt
values_safe p f made [] (a ∷ more) h = absurd h
values_safe p f made (ty ∷ tys) [] h = absurd h
values_safe p f made (ty ∷ tys) (a ∷ more) h =
    safe_then (IsValue p made ty) (AreValues p made (ty ∷ tys)) (λ x. and_then (λ xs. Gives (x ∷ xs)) (values p f more)) (value p f a) (value_safe p f made ty a h.0)
    (λ x k. safe_then (AreValues p made tys) (AreValues p made (ty ∷ tys)) (λ xs. Gives (x ∷ xs)) (values p f more) (values_safe p f made tys more h.1) (λ xs ks. (k, ks)))

-- ---- numbers

-- a number of the type, where there is one
abbrev IsNumber : Scalar → Option ℕ → Type 0
IsNumber ty o = IfSome o (λ n. IsTrue (is_number_of ty n))

number_safe : (p : ProgramData) (made : ℕ) (ty : Scalar) (v : Val Sym) → IsInteger ty → IsValue p made ty v → Safe (IsNumber ty) (number v)
number_safe p made ty (val.Num n) i h = h
number_safe p made ty val.Null i h = i h
number_safe p made ty (val.At of offset) i h = i h.0
number_safe p made ty val.Poison i h = tt

outcome_safe : (p : ProgramData) (made : ℕ) (ty : Scalar) (o : Outcome) → ((n : ℕ) → o ≡ outcome.Num n → IsTrue (is_number_of ty n)) → Safe (IsValue p made ty) (of_outcome o)
outcome_safe p made ty (outcome.Num n) h = h n refl
outcome_safe p made ty outcome.Poison h = tt
outcome_safe p made ty (outcome.Undefined cause) h = tt

-- what is made of two numbers
numbers_safe : (p : ProgramData) (made : ℕ) (ty : Scalar) (Q : Val Sym → Type 0) (F : Option ℕ → Option ℕ → Answer (Val Sym)) (a b : Val Sym) → IsInteger ty → IsValue p made ty a → IsValue p made ty b
    → ((x y : Option ℕ) → IsNumber ty x → IsNumber ty y → Safe Q (F x y)) → Safe Q (and_then (λ x. and_then (λ y. F x y) (number b)) (number a))
numbers_safe p made ty Q F a b i h k each =
    safe_then (IsNumber ty) Q (λ x. and_then (λ y. F x y) (number b)) (number a) (number_safe p made ty a i h)
    (λ x m. safe_then (IsNumber ty) Q (λ y. F x y) (number b) (number_safe p made ty b i k) (λ y n. each x y m n))

pub bin_safe : (p : ProgramData) (made : ℕ) (op : BinOp) (flags : Flags) (ty : Scalar) (a b : Val Sym) → IsInteger ty → IsValue p made ty a → IsValue p made ty b → Safe (IsValue p made ty) (bin op flags ty a b)
bin_safe p made op flags ty a b i h k =
    numbers_safe p made ty (IsValue p made ty) (λ x y. of_outcome (bin_of_values op flags ty x y)) a b i h k
    (λ x y m n. outcome_safe p made ty (bin_of_values op flags ty x y) (λ r e. values_law op flags ty x y r m n e))

icmp_numbers_safe : (p : ProgramData) (made : ℕ) (pred : Pred) (ty : Scalar) (a b : Val Sym) → IsInteger ty → IsValue p made ty a → IsValue p made ty b → Safe (IsValue p made I1) (icmp_numbers pred ty a b)
icmp_numbers_safe p made pred ty a b i h k =
    numbers_safe p made ty (IsValue p made I1) (λ x y. of_outcome (icmp_of_values pred ty x y)) a b i h k
    (λ x y m n. outcome_safe p made I1 (icmp_of_values pred ty x y) (λ r e. icmp_law pred ty x y r e))

pub icmp_safe : (p : ProgramData) (mem : MemoryData) (pred : Pred) (ty : Scalar) (a b : Val Sym) → MemoryFits p mem → IsValue p (length mem.made) ty a → IsValue p (length mem.made) ty b
    → Safe (IsValue p (length mem.made) I1) (icmp mem pred ty a b)
icmp_safe p mem pred I1 a b fits h k = icmp_numbers_safe p (length mem.made) pred I1 a b (λ e. cc) h k
icmp_safe p mem pred I8 a b fits h k = icmp_numbers_safe p (length mem.made) pred I8 a b (λ e. cc) h k
icmp_safe p mem pred I16 a b fits h k = icmp_numbers_safe p (length mem.made) pred I16 a b (λ e. cc) h k
icmp_safe p mem pred I32 a b fits h k = icmp_numbers_safe p (length mem.made) pred I32 a b (λ e. cc) h k
icmp_safe p mem pred I64 a b fits h k = icmp_numbers_safe p (length mem.made) pred I64 a b (λ e. cc) h k
icmp_safe p mem pred Ptr a b fits h k = compare_fits p mem pred a b fits h k

widens : (op : CastOp) (from to : Scalar) → Widths op from to → op ≡ Zext → width from < width to
widens Zext from to w e = w
widens Sext from to w e = w
widens Trunc from to w e = absurd (cc)

pub cast_safe : (p : ProgramData) (made : ℕ) (op : CastOp) (nneg : Bool) (from to : Scalar) (a : Val Sym) → IsInteger from → IsInteger to → Widths op from to → IsValue p made from a
    → Safe (IsValue p made to) (cast op nneg from to a)
cast_safe p made op nneg from to a i j w h =
    safe_then (IsNumber from) (IsValue p made to) (λ x. of_outcome (cast_of_value op nneg from to x)) (number a) (number_safe p made from a i h)
    (λ x m. outcome_safe p made to (cast_of_value op nneg from to x) (λ r e. cast_value_law op nneg from to x r j (widens op from to w) m e))

-- ---- each instruction

pub bin_evaluated : (p : ProgramData) (f : Frame) (mem : MemoryData) (op : BinOp) (flags : Flags) (ty : Scalar) (a b : Operand) → IsInteger ty
    → IsRead p (length mem.made) f ty a → IsRead p (length mem.made) f ty b → Safe (IsValue p (length mem.made) ty) (evaluated p f mem (Bin op flags ty a b))
bin_evaluated p f mem op flags ty a b i h k =
    let made = length mem.made in
    safe_then (IsValue p made ty) (IsValue p made ty) (λ x. and_then (bin op flags ty x) (value p f b)) (value p f a) (value_safe p f made ty a h)
    (λ x m. safe_then (IsValue p made ty) (IsValue p made ty) (bin op flags ty x) (value p f b) (value_safe p f made ty b k) (λ y n. bin_safe p made op flags ty x y i m n))

pub icmp_evaluated : (p : ProgramData) (f : Frame) (mem : MemoryData) (pred : Pred) (ty : Scalar) (a b : Operand) → MemoryFits p mem
    → IsRead p (length mem.made) f ty a → IsRead p (length mem.made) f ty b → Safe (IsValue p (length mem.made) I1) (evaluated p f mem (Icmp pred ty a b))
icmp_evaluated p f mem pred ty a b fits h k =
    let made = length mem.made in
    safe_then (IsValue p made ty) (IsValue p made I1) (λ x. and_then (icmp mem pred ty x) (value p f b)) (value p f a) (value_safe p f made ty a h)
    (λ x m. safe_then (IsValue p made ty) (IsValue p made I1) (icmp mem pred ty x) (value p f b) (value_safe p f made ty b k) (λ y n. icmp_safe p mem pred ty x y fits m n))

-- one of two operands
arm_has : (p : ProgramData) (f : Frame) (made : ℕ) (ty : Scalar) (chosen : Bool) (a b : Operand) → IsRead p made f ty a → IsRead p made f ty b → IsRead p made f ty (if chosen then b else a)
arm_has p f made ty true a b h k = k
arm_has p f made ty false a b h k = h

select_safe : (p : ProgramData) (f : Frame) (made : ℕ) (ty : Scalar) (a b : Operand) (cond : Val Sym) → IsValue p made I1 cond → IsRead p made f ty a → IsRead p made f ty b
    → Safe (IsValue p made ty) (select p f a b cond)
select_safe p f made ty a b (val.Num n) c h k = value_safe p f made ty (if n == 0 then b else a) (arm_has p f made ty (n == 0) a b h k)
select_safe p f made ty a b val.Null c h k = absurd (cc)
select_safe p f made ty a b (val.At of offset) c h k = let e = c.0 in absurd (cc)
select_safe p f made ty a b val.Poison c h k = tt

pub select_evaluated : (p : ProgramData) (f : Frame) (mem : MemoryData) (ty : Scalar) (cond a b : Operand) → IsRead p (length mem.made) f I1 cond
    → IsRead p (length mem.made) f ty a → IsRead p (length mem.made) f ty b → Safe (IsValue p (length mem.made) ty) (evaluated p f mem (Select ty cond a b))
select_evaluated p f mem ty cond a b c h k =
    let made = length mem.made in
    safe_then (IsValue p made I1) (IsValue p made ty) (select p f a b) (value p f cond) (value_safe p f made I1 cond c) (λ x m. select_safe p f made ty a b x m h k)

pub cast_evaluated : (p : ProgramData) (f : Frame) (mem : MemoryData) (op : CastOp) (nneg : Bool) (from to : Scalar) (a : Operand) → IsInteger from → IsInteger to → Widths op from to
    → IsRead p (length mem.made) f from a → Safe (IsValue p (length mem.made) to) (evaluated p f mem (Cast op nneg from to a))
cast_evaluated p f mem op nneg from to a i j w h =
    let made = length mem.made in
    safe_then (IsValue p made from) (IsValue p made to) (cast op nneg from to) (value p f a) (value_safe p f made from a h) (λ x m. cast_safe p made op nneg from to x i j w m)

pub load_evaluated : (p : ProgramData) (f : Frame) (mem : MemoryData) (ty : Scalar) (at : Operand) (align : Option ℕ) → MemoryFits p mem
    → IsRead p (length mem.made) f Ptr at → Safe (IsValue p (length mem.made) ty) (evaluated p f mem (Load ty at align))
load_evaluated p f mem ty at align fits h =
    let made = length mem.made in
    safe_then (IsValue p made Ptr) (IsValue p made ty) (load mem ty (align_of ty align)) (value p f at) (value_safe p f made Ptr at h) (λ x m. load_fits p mem ty (align_of ty align) x fits m)
