-- One step: an instruction or a terminator of the innermost call. The answer is what came of it with the state behind it, the cause of
-- undefined behaviour, or nothing, which no running program meets.
use Rattle.std.specs.Prelude.{ℕ, ◌*◌, false, List, [], ◌∷◌, ◌++◌, length, map, Option, Some, None}
use Rattle.ir_types.specs.Layout.{size}
use Rattle.ir_syntax.specs.declared.symbol.Sym.{Sym}
use Rattle.ir_syntax.specs.declared.body.Inst.{Inst}
use Rattle.ir_syntax.specs.declared.body.Inst.TheVariants.{Bin, Icmp, Select, Cast, Alloca, Load, Store, Gep, Call}
use Rattle.ir_syntax.specs.declared.body.Term.{Term}
use Rattle.ir_syntax.specs.declared.body.Term.TheVariants.{RetVoid, Ret, Br, CondBr, Switch, Unreachable}
use Rattle.ir_syntax.specs.Programs.{ProgramData}
use Rattle.int_ops.specs.declared.cause.Cause.TheVariants as cause
use Rattle.block_memory.specs.declared.value.Val.TheVariants as val
use Rattle.block_memory.specs.Answers.{Answer, Gives, Undefined, Stuck, and_then, or_stuck}
use Rattle.block_memory.specs.Blocks.{MemoryData}
use Rattle.block_memory.specs.Making.{alloc}
use Rattle.block_memory.specs.Stores.{store}
use Rattle.block_memory.specs.Starts as memory
use Rattle.ir_steps.specs.declared.session.Reply.{Reply}
use Rattle.ir_steps.specs.States.{Frame, StateData, Point}
use Rattle.ir_steps.specs.Operands.{value}
use Rattle.ir_steps.specs.Results.{Next, state, gives_result, with_memory}
use Rattle.ir_steps.specs.Reading.{evaluated, align_of}
use Rattle.ir_steps.specs.Builtins.{next_made}
use Rattle.ir_steps.specs.Calls.{call, begins, body_of}
use Rattle.ir_steps.specs.Branches.{branch, chosen, switched}
use Rattle.ir_steps.specs.Returns.{returns}

-- ---- instructions

-- An alloca makes a block, which its call ends (LLVM Language Reference Manual, "'alloca' Instruction").
abbrev pub allocates : Point → ℕ → Answer Next
allocates at bytes =
    gives_result (record at { frame = record at.frame { allocas = at.frame.allocas ++ length at.memory.made ∷ [] }; memory = alloc at.memory bytes false false }) (next_made at.memory)

-- an instruction at the head of the innermost call
abbrev pub inst_step : ProgramData → Point → Option Reply → Inst → Answer Next
inst_step p at given (Bin op flags ty a b) = and_then (gives_result at) (evaluated p at.frame at.memory (Bin op flags ty a b))
inst_step p at given (Icmp pred ty a b) = and_then (gives_result at) (evaluated p at.frame at.memory (Icmp pred ty a b))
inst_step p at given (Select ty cond a b) = and_then (gives_result at) (evaluated p at.frame at.memory (Select ty cond a b))
inst_step p at given (Cast op nneg from to a) = and_then (gives_result at) (evaluated p at.frame at.memory (Cast op nneg from to a))
inst_step p at given (Alloca ty count align) = allocates at (size ty * count)
inst_step p at given (Load ty from align) = and_then (gives_result at) (evaluated p at.frame at.memory (Load ty from align))
inst_step p at given (Store ty a to align) =
    and_then (λ x. and_then (λ place. and_then (with_memory at) (store at.memory ty (align_of ty align) x place)) (value p at.frame to)) (value p at.frame a)
inst_step p at given (Gep inbounds ty base indices) = and_then (gives_result at) (evaluated p at.frame at.memory (Gep inbounds ty base indices))
inst_step p at given (Call fn_ty ret_ext callee args) = call p at fn_ty callee args given

-- ---- terminators

abbrev pub term_step : ProgramData → Point → Term → Answer Next
term_step p at RetVoid = returns p at None
term_step p at (Ret ty a) = and_then (λ x. returns p at (Some x)) (value p at.frame a)
term_step p at (Br to) = branch p at to
term_step p at (CondBr cond one other) = and_then (branch p at) (and_then (chosen one other) (value p at.frame cond))
term_step p at (Switch ty a default cases) = and_then (branch p at) (and_then (switched default cases) (value p at.frame a))
term_step p at Unreachable = Undefined cause.Unreachable

-- ---- steps

abbrev pub rest_step : ProgramData → Frame → List Frame → MemoryData → Option Reply → List Inst → Answer Next
rest_step p f below mem given [] = term_step p (record { frame = f; behind = []; below = below; memory = mem }) f.last
rest_step p f below mem given (i ∷ behind) = inst_step p (record { frame = f; behind = behind; below = below; memory = mem }) given i

abbrev pub frames_step : ProgramData → MemoryData → Option Reply → List Frame → Answer Next
frames_step p mem given [] = Stuck
frames_step p mem given (f ∷ below) = rest_step p f below mem given f.rest

-- one step, with the reply to the call at hand where there is one
abbrev pub step : ProgramData → StateData → Option Reply → Answer Next
step p s given = frames_step p s.memory given s.frames

-- ---- the beginning

-- No call is running yet.
abbrev pub start : ProgramData → Answer StateData
start p = and_then (λ mem. Gives (state [] mem)) (or_stuck (memory.start p))

-- A root call of a defined function with these numbers.
abbrev pub enter : ProgramData → StateData → Sym → List ℕ → Answer StateData
enter p s symbol args = and_then (λ f. Gives (state (f ∷ []) s.memory)) (and_then (λ body. begins symbol body (map (λ n. val.Num n) args)) (or_stuck (body_of p symbol)))
