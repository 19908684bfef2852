-- Each instruction that only reads is safe where its operands have values.
use Rattle.std.proofs.Common.{◌≡◌, ℕ, length, All, Option, Some, subst, arith}
use Rattle.std.proofs.lemmas.List.Elements.{All-weaker}
use Rattle.ir_types.specs.declared.scalar.Scalar.{Scalar}
use Rattle.ir_types.specs.declared.scalar.Scalar.TheVariants.{I1, Ptr}
use Rattle.ir_types.specs.Scalars.{IsInteger}
use Rattle.ir_syntax.specs.declared.constant.Operand.{Operand}
use Rattle.ir_syntax.specs.declared.body.Arg.{Arg}
use Rattle.ir_syntax.specs.declared.body.Inst.{Inst}
use Rattle.ir_syntax.specs.declared.body.Inst.TheVariants.{Bin, Icmp, Select, Cast, Alloca, Load, Store, Gep, Call}
use Rattle.ir_syntax.specs.Results.{result_type}
use Rattle.ir_syntax.specs.FormedBody.{Places, IsIndex, FormedInst}
use Rattle.ir_syntax.specs.Typed.{Types, TypedInst}
use Rattle.ir_syntax.specs.Programs.{ProgramData}
use Rattle.block_memory.specs.Blocks.{MemoryData}
use Rattle.ir_steps.specs.States.{Frame}
use Rattle.ir_steps.specs.Reading.{evaluated}
use Rattle.ir_steps.proofs.Fits.{IsValue, IsHeld, MemoryFits}
use Rattle.ir_steps.proofs.Safely.{Safe}
use Rattle.ir_steps.proofs.Evaluating.{IsRead, bin_evaluated, icmp_evaluated, select_evaluated, cast_evaluated, load_evaluated}
use Rattle.ir_steps.proofs.EvaluatingPointers.{gep_evaluated}

-- Each operand of the instruction has a value of the type at which it is read.
abbrev pub AreRead : ProgramData → ℕ → Frame → Inst → Type 0
AreRead p made f (Bin op flags ty a b) = IsRead p made f ty a × IsRead p made f ty b
AreRead p made f (Icmp pred ty a b) = IsRead p made f ty a × IsRead p made f ty b
AreRead p made f (Select ty cond a b) = IsRead p made f I1 cond × IsRead p made f ty a × IsRead p made f ty b
AreRead p made f (Cast op nneg from to a) = IsRead p made f from a
AreRead p made f (Alloca ty count align) = Unit {0}
AreRead p made f (Load ty at align) = IsRead p made f Ptr at
AreRead p made f (Store ty v at align) = IsRead p made f ty v × IsRead p made f Ptr at
AreRead p made f (Gep inbounds ty base indices) = IsRead p made f Ptr base × All (λ (index : Scalar × Operand). IsRead p made f index.0 index.1) indices
AreRead p made f (Call fn_ty ret_ext callee args) = IsRead p made f Ptr callee × All (λ (arg : Arg). IsRead p made f arg.ty arg.value) args

-- The instruction only reads.
abbrev pub OnlyReads : Inst → Type 0
OnlyReads (Bin op flags ty a b) = Unit {0}
OnlyReads (Icmp pred ty a b) = Unit {0}
OnlyReads (Select ty cond a b) = Unit {0}
OnlyReads (Cast op nneg from to a) = Unit {0}
OnlyReads (Alloca ty count align) = ⊥
OnlyReads (Load ty at align) = Unit {0}
OnlyReads (Store ty v at align) = ⊥
OnlyReads (Gep inbounds ty base indices) = Unit {0}
OnlyReads (Call fn_ty ret_ext callee args) = ⊥

-- It is safe, and gives a value of its result's type.
evaluated_held : (p : ProgramData) (f : Frame) (mem : MemoryData) (i : Inst) (types : Types) (places : Places) → MemoryFits p mem → OnlyReads i → TypedInst types i → FormedInst places i
    → AreRead p (length mem.made) f i → Safe (λ v. IsHeld p (length mem.made) (result_type i) (Some v)) (evaluated p f mem i)
evaluated_held p f mem (Bin op flags ty a b) types places fits only t g h = bin_evaluated p f mem op flags ty a b t.0 h.0 h.1
evaluated_held p f mem (Icmp pred ty a b) types places fits only t g h = icmp_evaluated p f mem pred ty a b fits h.0 h.1
evaluated_held p f mem (Select ty cond a b) types places fits only t g h = select_evaluated p f mem ty cond a b h.0 h.1 h.2
evaluated_held p f mem (Cast op nneg from to a) types places fits only t g h = cast_evaluated p f mem op nneg from to a t.0 t.1 t.2 h
evaluated_held p f mem (Alloca ty count align) types places fits only t g h = absurd only
evaluated_held p f mem (Load ty at align) types places fits only t g h = load_evaluated p f mem ty at align fits h
evaluated_held p f mem (Store ty v at align) types places fits only t g h = absurd only
evaluated_held p f mem (Gep inbounds ty base indices) types places fits only t g h =
    let few = g.0.has_nodes in
    gep_evaluated p f mem inbounds ty base indices fits (omega arith)
    (All-weaker (IsIndex places) (λ (index : Scalar × Operand). IsInteger index.0) (λ index k. k.0) indices g.2) t.3 h.0 h.1
evaluated_held p f mem (Call fn_ty ret_ext callee args) types places fits only t g h = absurd only

pub evaluated_fits : (p : ProgramData) (f : Frame) (mem : MemoryData) (i : Inst) (types : Types) (places : Places) (ty : Scalar) → MemoryFits p mem → OnlyReads i → TypedInst types i → FormedInst places i
    → AreRead p (length mem.made) f i → result_type i ≡ Some ty → Safe (IsValue p (length mem.made) ty) (evaluated p f mem i)
evaluated_fits p f mem i types places ty fits only t g h e =
    subst (λ (o : Option Scalar). Safe (λ v. IsHeld p (length mem.made) o (Some v)) (evaluated p f mem i)) e (evaluated_held p f mem i types places fits only t g h)
