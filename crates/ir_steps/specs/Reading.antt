-- Instructions that only read: their value in a call (LLVM Language Reference Manual, "Binary Operations", "Bitwise Binary Operations",
-- "Conversion Operations", "'icmp' Instruction", "'select' Instruction", "'load' Instruction", "'getelementptr' Instruction").
use Rattle.std.specs.Prelude.{ℕ, ◌==◌, Bool, List, map, Option, Some, None, if◌then◌else◌}
use Rattle.ir_types.specs.declared.scalar.Scalar.{Scalar}
use Rattle.ir_types.specs.declared.scalar.Scalar.TheVariants.{I1, I8, I16, I32, I64, Ptr}
use Rattle.ir_types.specs.declared.scalar.BinOp.{BinOp}
use Rattle.ir_types.specs.declared.scalar.Flags.{Flags}
use Rattle.ir_types.specs.declared.scalar.Pred.{Pred}
use Rattle.ir_types.specs.declared.scalar.CastOp.{CastOp}
use Rattle.ir_types.specs.declared.shape.Ty.{Ty}
use Rattle.ir_types.specs.Walk.{strides}
use Rattle.int_ops.specs.declared.outcome.Outcome.{Outcome}
use Rattle.int_ops.specs.declared.outcome.Outcome.TheVariants as outcome
use Rattle.int_ops.specs.PoisonOperands.{bin_of_values, icmp_of_values, cast_of_value}
use Rattle.ir_syntax.specs.declared.symbol.Sym.{Sym}
use Rattle.ir_syntax.specs.declared.constant.Operand.{Operand}
use Rattle.ir_syntax.specs.declared.body.Inst.{Inst}
use Rattle.ir_syntax.specs.declared.body.Inst.TheVariants.{Bin, Icmp, Select, Cast, Alloca, Load, Store, Gep, Call}
use Rattle.ir_syntax.specs.Programs.{ProgramData}
use Rattle.ir_syntax.specs.IndexWalks.{index_of}
use Rattle.block_memory.specs.declared.value.Val.{Val}
use Rattle.block_memory.specs.declared.value.Val.TheVariants as val
use Rattle.block_memory.specs.Answers.{Answer, Gives, Undefined, Stuck, and_then, or_stuck}
use Rattle.block_memory.specs.Blocks.{MemoryData}
use Rattle.block_memory.specs.Comparisons.{compare}
use Rattle.block_memory.specs.Loads.{load}
use Rattle.ir_steps.specs.States.{Frame}
use Rattle.ir_steps.specs.Operands.{value, values}
use Rattle.ir_steps.specs.Pointers.{moves_all, moved}

-- the number of an integer's value, and none of poison
abbrev pub number : Val Sym → Answer (Option ℕ)
number (val.Num n) = Gives (Some n)
number val.Null = Stuck
number (val.At of offset) = Stuck
number val.Poison = Gives None

abbrev pub of_outcome : Outcome → Answer (Val Sym)
of_outcome (outcome.Num n) = Gives (val.Num n)
of_outcome outcome.Poison = Gives val.Poison
of_outcome (outcome.Undefined cause) = Undefined cause

abbrev pub bin : BinOp → Flags → Scalar → Val Sym → Val Sym → Answer (Val Sym)
bin op flags ty a b = and_then (λ x. and_then (λ y. of_outcome (bin_of_values op flags ty x y)) (number b)) (number a)

abbrev pub cast : CastOp → Bool → Scalar → Scalar → Val Sym → Answer (Val Sym)
cast op nneg from to a = and_then (λ x. of_outcome (cast_of_value op nneg from to x)) (number a)

abbrev pub icmp_numbers : Pred → Scalar → Val Sym → Val Sym → Answer (Val Sym)
icmp_numbers pred ty a b = and_then (λ x. and_then (λ y. of_outcome (icmp_of_values pred ty x y)) (number b)) (number a)

-- numbers by their type, and addresses by memory
abbrev pub icmp : MemoryData → Pred → Scalar → Val Sym → Val Sym → Answer (Val Sym)
icmp mem pred I1 a b = icmp_numbers pred I1 a b
icmp mem pred I8 a b = icmp_numbers pred I8 a b
icmp mem pred I16 a b = icmp_numbers pred I16 a b
icmp mem pred I32 a b = icmp_numbers pred I32 a b
icmp mem pred I64 a b = icmp_numbers pred I64 a b
icmp mem pred Ptr a b = compare mem pred a b

-- On poison the value is poison; the arm that isn't chosen doesn't matter.
abbrev pub select : ProgramData → Frame → Operand → Operand → Val Sym → Answer (Val Sym)
select p f a b (val.Num n) = value p f (if n == 0 then b else a)
select p f a b val.Null = Stuck
select p f a b (val.At of offset) = Stuck
select p f a b val.Poison = Gives val.Poison

-- the alignment that is written, else the type's, as an exponent of two
abbrev pub natural_align : Scalar → ℕ
natural_align I1 = 0
natural_align I8 = 0
natural_align I16 = 1
natural_align I32 = 2
natural_align I64 = 3
natural_align Ptr = 3

abbrev pub align_of : Scalar → Option ℕ → ℕ
align_of ty None = natural_align ty
align_of ty (Some align) = align

abbrev pub index_types : List (Scalar × Operand) → List Scalar
index_types indices = map (λ (i : Scalar × Operand). i.0) indices

abbrev pub index_operands : List (Scalar × Operand) → List Operand
index_operands indices = map (λ (i : Scalar × Operand). i.1) indices

abbrev pub gep : ProgramData → Frame → MemoryData → Bool → Ty → List (Scalar × Operand) → Val Sym → Answer (Val Sym)
gep p f mem inbounds ty indices base =
    and_then (λ xs. and_then (λ ss. and_then (moved mem inbounds base) (moves_all (index_types indices) xs ss)) (or_stuck (strides ty (map index_of indices)))) (values p f (index_operands indices))

-- the value of an instruction that only reads
abbrev pub evaluated : ProgramData → Frame → MemoryData → Inst → Answer (Val Sym)
evaluated p f mem (Bin op flags ty a b) = and_then (λ x. and_then (bin op flags ty x) (value p f b)) (value p f a)
evaluated p f mem (Icmp pred ty a b) = and_then (λ x. and_then (icmp mem pred ty x) (value p f b)) (value p f a)
evaluated p f mem (Select ty cond a b) = and_then (select p f a b) (value p f cond)
evaluated p f mem (Cast op nneg from to a) = and_then (cast op nneg from to) (value p f a)
evaluated p f mem (Alloca ty count align) = Stuck
evaluated p f mem (Load ty at align) = and_then (load mem ty (align_of ty align)) (value p f at)
evaluated p f mem (Store ty a at align) = Stuck
evaluated p f mem (Gep inbounds ty base indices) = and_then (gep p f mem inbounds ty indices) (value p f base)
evaluated p f mem (Call fn_ty ret_ext callee args) = Stuck
