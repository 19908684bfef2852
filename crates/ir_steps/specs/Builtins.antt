-- The functions that every program may call without defining them: `malloc`, `calloc`, `free`, `exit` and `abort` of C (ISO C, "Memory
-- management functions", "Communication with the environment").
use Rattle.std.specs.Prelude.{ℕ, zero, pos, ◌*◌, ◌^◌, nat_lt, Bool, true, false, ◌&&◌, List, [], ◌∷◌, length, Option, Some, None, if◌then◌else◌}
use Rattle.ir_types.specs.declared.scalar.FnType.{FnType}
use Rattle.ir_syntax.specs.declared.symbol.Sym.{Sym}
use Rattle.ir_syntax.specs.declared.symbol.Builtin.{Builtin}
use Rattle.ir_syntax.specs.declared.symbol.Builtin.TheVariants as builtin
use Rattle.ir_syntax.specs.Builtins.{builtin_name}
use Rattle.ir_syntax.specs.Programs.{ProgramData}
use Rattle.block_memory.specs.declared.value.Name.TheVariants as name
use Rattle.block_memory.specs.declared.value.Val.{Val}
use Rattle.block_memory.specs.declared.value.Val.TheVariants as val
use Rattle.block_memory.specs.Answers.{Answer, Gives, Stuck, and_then}
use Rattle.block_memory.specs.Blocks.{MemoryData}
use Rattle.block_memory.specs.Making.{alloc, free}
use Rattle.ir_steps.specs.declared.session.Shown.{Shown}
use Rattle.ir_steps.specs.declared.session.Reply.{Reply}
use Rattle.ir_steps.specs.declared.session.Reply.TheVariants as reply
use Rattle.ir_steps.specs.declared.session.Stepped.TheVariants as stepped
use Rattle.ir_steps.specs.States.{Point}
use Rattle.ir_steps.specs.Results.{Next, state, gives_result, with_memory}
use Rattle.ir_steps.specs.Showing.{shown_all}
use Rattle.ir_steps.specs.Replies.{bad}

-- A call that wants a reply changes nothing until there is one.
abbrev pub wants : Point → List ℕ → FnType → List Shown → Answer Next
wants at called fn_ty shown =
    Gives (stepped.Wants (record { name = called; fn_ty = fn_ty; args = shown }), state (at.frame ∷ at.below) at.memory)

-- ---- memory

-- the address of the block that is made next
abbrev pub next_made : MemoryData → Val Sym
next_made mem = val.At (name.Made (length mem.made)) (pos zero)

abbrev pub granted : Point → ℕ → Bool → Answer Next
granted at size zeroed = gives_result (record at { memory = alloc at.memory size true zeroed }) (next_made at.memory)

-- A block below 2^31 bytes is made where it is granted, and else the answer is null.
abbrev pub grant : Point → ℕ → Bool → Reply → Answer Next
grant at size zeroed (reply.Grant granting) = if granting && nat_lt size (2 ^ 31) then granted at size zeroed else gives_result at val.Null
grant at size zeroed (reply.Give v writes) = bad

-- ---- the end

-- The status is a number of i32.
abbrev pub exits : Point → Val Sym → Answer Next
exits at (val.Num n) = if nat_lt n (2 ^ 32) then Gives (stepped.Exited n, state [] at.memory) else Stuck
exits at val.Null = Stuck
exits at (val.At of offset) = Stuck
exits at val.Poison = Stuck

-- ---- each function, of arguments of its type that aren't poison

abbrev pub asks : ProgramData → Point → FnType → Builtin → List (Val Sym) → ℕ → Bool → Option Reply → Answer Next
asks p at fn_ty of args size zeroed None = and_then (wants at (builtin_name of) fn_ty) (shown_all p at.memory args)
asks p at fn_ty of args size zeroed (Some r) = grant at size zeroed r

abbrev pub malloc_call : ProgramData → Point → FnType → Option Reply → List (Val Sym) → Answer Next
malloc_call p at fn_ty given (val.Num size ∷ []) = asks p at fn_ty builtin.Malloc (val.Num size ∷ []) size false given
malloc_call p at fn_ty given args = Stuck

-- the size is the product as a whole number
abbrev pub calloc_call : ProgramData → Point → FnType → Option Reply → List (Val Sym) → Answer Next
calloc_call p at fn_ty given (val.Num count ∷ val.Num each ∷ []) = asks p at fn_ty builtin.Calloc (val.Num count ∷ val.Num each ∷ []) (count * each) true given
calloc_call p at fn_ty given args = Stuck

abbrev pub free_call : Point → List (Val Sym) → Answer Next
free_call at (v ∷ []) = and_then (with_memory at) (free at.memory v)
free_call at args = Stuck

abbrev pub exit_call : Point → List (Val Sym) → Answer Next
exit_call at (v ∷ []) = exits at v
exit_call at args = Stuck

abbrev pub abort_call : Point → List (Val Sym) → Answer Next
abort_call at [] = Gives (stepped.Aborted, state [] at.memory)
abort_call at args = Stuck

abbrev pub builtin_call : ProgramData → Point → FnType → Option Reply → List (Val Sym) → Builtin → Answer Next
builtin_call p at fn_ty given args builtin.Malloc = malloc_call p at fn_ty given args
builtin_call p at fn_ty given args builtin.Calloc = calloc_call p at fn_ty given args
builtin_call p at fn_ty given args builtin.Free = free_call at args
builtin_call p at fn_ty given args builtin.Exit = exit_call at args
builtin_call p at fn_ty given args builtin.Abort = abort_call at args
