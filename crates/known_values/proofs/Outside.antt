-- Calls of built-in functions, of intrinsics and of functions outside, where the call goes on as it is to.
use Rattle.std.proofs.Common.{ℕ, ℤ, ◌*◌, ◌^◌, nat_lt, Bool, true, false, ◌&&◌, List, [], ◌∷◌, slice_get, Option, Some, None}
use Rattle.ir_types.specs.declared.scalar.Scalar.{Scalar}
use Rattle.ir_types.specs.declared.scalar.Scalar.TheVariants.{I1, I8, I16, I32, I64, Ptr}
use Rattle.ir_types.specs.declared.scalar.FnType.{FnType}
use Rattle.ir_types.specs.Scalars.{is_number_of}
use Rattle.ir_syntax.specs.declared.symbol.Sym.{Sym}
use Rattle.ir_syntax.specs.declared.symbol.Builtin.{Builtin}
use Rattle.ir_syntax.specs.declared.symbol.Builtin.TheVariants as builtin
use Rattle.ir_syntax.specs.declared.symbol.Intrinsic.{Intrinsic}
use Rattle.ir_syntax.specs.declared.symbol.Intrinsic.TheVariants as intrinsic
use Rattle.ir_syntax.specs.Builtins.{builtin_name, type_of_builtin}
use Rattle.ir_syntax.specs.Programs.{ProgramData}
use Rattle.block_memory.specs.declared.value.Val.{Val}
use Rattle.block_memory.specs.declared.value.Val.TheVariants as val
use Rattle.block_memory.specs.Answers.{Gives, Stuck, and_then}
use Rattle.block_memory.specs.Blocks.{MemoryData}
use Rattle.block_memory.specs.Copies.{copy}
use Rattle.block_memory.specs.Fills.{fill}
use Rattle.block_memory.specs.Making.{alloc, free}
use Rattle.ir_steps.specs.declared.session.Reply.{Reply}
use Rattle.ir_steps.specs.declared.session.Reply.TheVariants as reply
use Rattle.ir_steps.specs.declared.session.ReplyVal.{ReplyVal}
use Rattle.ir_steps.specs.declared.session.ReplyVal.TheVariants as reply_val
use Rattle.ir_steps.specs.declared.session.Shown.{Shown}
use Rattle.ir_steps.specs.declared.session.Stepped.{Stepped}
use Rattle.ir_steps.specs.declared.session.Stepped.TheVariants as stepped
use Rattle.ir_steps.specs.States.{Point}
use Rattle.ir_steps.specs.Results.{Next, state, goes_on, gives_result}
use Rattle.ir_steps.specs.Showing.{shown_all}
use Rattle.ir_steps.specs.Builtins.{wants, next_made, granted, grant, exits, asks, malloc_call, calloc_call, free_call, exit_call, abort_call, builtin_call}
use Rattle.ir_steps.specs.Calls.{give, outside_with, outside_call}
use Rattle.ir_steps.specs.Copying.{length_of, copies, fills, intrinsic_call}
use Rattle.ir_steps.specs.Replies.{bad, moved_argument, replied, write_all}
use Rattle.known_values.proofs.Giving.{IfGives, gives_any, gives_then, gives_when}
use Rattle.known_values.proofs.GoingOn.{IsReturned, GoesOn, memory_on}

-- nothing has changed, whatever came of the step
abbrev pub Stays : (Next → Type 0) → Point → Type 0
Stays Q at = (a : Stepped) → Q (a, state (at.frame ∷ at.below) at.memory)

-- no call runs behind it
abbrev pub Ends : (Next → Type 0) → Type 0
Ends Q = (a : Stepped) (mem : MemoryData) → Q (a, state [] mem)

-- ---- built-in functions

granted_on : (Q : Next → Type 0) (at : Point) (size : ℕ) (zeroed : Bool) → GoesOn Q at (Some Ptr) → IfGives Q (granted at size zeroed)
granted_on Q at size zeroed goes = goes (alloc at.memory size true zeroed) (Some (next_made at.memory)) tt

grant_on : (Q : Next → Type 0) (at : Point) (size : ℕ) (zeroed : Bool) (r : Reply) → GoesOn Q at (Some Ptr) → IfGives Q (grant at size zeroed r)
grant_on Q at size zeroed (reply.Grant granting) goes =
    gives_when Q (granting && nat_lt size (2 ^ 31)) (granted at size zeroed) (gives_result at val.Null) (λ yes_so. granted_on Q at size zeroed goes) (λ not_so. goes at.memory (Some val.Null) tt)
grant_on Q at size zeroed (reply.Give v writes) goes = tt

asks_on : (p : ProgramData) (Q : Next → Type 0) (at : Point) (fn_ty : FnType) (of : Builtin) (args : List (Val Sym)) (size : ℕ) (zeroed : Bool) (given : Option Reply) → Stays Q at → GoesOn Q at (Some Ptr)
    → IfGives Q (asks p at fn_ty of args size zeroed given)
asks_on p Q at fn_ty of args size zeroed None stays goes =
    gives_any Q (wants at (builtin_name of) fn_ty) (shown_all p at.memory args) (λ shown. stays (stepped.Wants (record { name = builtin_name of; fn_ty = fn_ty; args = shown })))
asks_on p Q at fn_ty of args size zeroed (Some r) stays goes = grant_on Q at size zeroed r goes

malloc_on : (p : ProgramData) (Q : Next → Type 0) (at : Point) (fn_ty : FnType) (given : Option Reply) (args : List (Val Sym)) → Stays Q at → GoesOn Q at (Some Ptr) → IfGives Q (malloc_call p at fn_ty given args)
malloc_on p Q at fn_ty given (val.Num size ∷ []) stays goes = asks_on p Q at fn_ty builtin.Malloc (val.Num size ∷ []) size false given stays goes
malloc_on p Q at fn_ty given args stays goes = tt

calloc_on : (p : ProgramData) (Q : Next → Type 0) (at : Point) (fn_ty : FnType) (given : Option Reply) (args : List (Val Sym)) → Stays Q at → GoesOn Q at (Some Ptr) → IfGives Q (calloc_call p at fn_ty given args)
calloc_on p Q at fn_ty given (val.Num count ∷ val.Num each ∷ []) stays goes = asks_on p Q at fn_ty builtin.Calloc (val.Num count ∷ val.Num each ∷ []) (count * each) true given stays goes
calloc_on p Q at fn_ty given args stays goes = tt

free_on : (Q : Next → Type 0) (at : Point) (args : List (Val Sym)) → GoesOn Q at None → IfGives Q (free_call at args)
free_on Q at (v ∷ []) goes = memory_on Q at (free at.memory v) goes
free_on Q at args goes = tt

exits_on : (Q : Next → Type 0) (at : Point) (v : Val Sym) → Ends Q → IfGives Q (exits at v)
exits_on Q at (val.Num n) ends = gives_when Q (nat_lt n (2 ^ 32)) (Gives (stepped.Exited n, state [] at.memory)) Stuck (λ fits. ends (stepped.Exited n) at.memory) (λ more. tt)
exits_on Q at val.Null ends = tt
exits_on Q at (val.At of offset) ends = tt
exits_on Q at val.Poison ends = tt

exit_on : (Q : Next → Type 0) (at : Point) (args : List (Val Sym)) → Ends Q → IfGives Q (exit_call at args)
exit_on Q at (v ∷ []) ends = exits_on Q at v ends
exit_on Q at args ends = tt

abort_on : (Q : Next → Type 0) (at : Point) (args : List (Val Sym)) → Ends Q → IfGives Q (abort_call at args)
abort_on Q at [] ends = ends stepped.Aborted at.memory
abort_on Q at args ends = tt

pub builtin_on : (p : ProgramData) (Q : Next → Type 0) (at : Point) (fn_ty : FnType) (given : Option Reply) (args : List (Val Sym)) (of : Builtin) → Stays Q at → Ends Q → GoesOn Q at (type_of_builtin of).returns
    → IfGives Q (builtin_call p at fn_ty given args of)
builtin_on p Q at fn_ty given args builtin.Malloc stays ends goes = malloc_on p Q at fn_ty given args stays goes
builtin_on p Q at fn_ty given args builtin.Calloc stays ends goes = calloc_on p Q at fn_ty given args stays goes
builtin_on p Q at fn_ty given args builtin.Free stays ends goes = free_on Q at args goes
builtin_on p Q at fn_ty given args builtin.Exit stays ends goes = exit_on Q at args ends
builtin_on p Q at fn_ty given args builtin.Abort stays ends goes = abort_on Q at args ends

-- ---- intrinsics

copies_on : (Q : Next → Type 0) (at : Point) (may_overlap : Bool) (args : List (Val Sym)) → GoesOn Q at None → IfGives Q (copies at may_overlap args)
copies_on Q at may_overlap (to ∷ from ∷ len ∷ volatile ∷ []) goes =
    gives_any Q (λ n. and_then (λ mem. goes_on (record at { memory = mem }) None) (copy at.memory to from n may_overlap)) (length_of len) (λ n. memory_on Q at (copy at.memory to from n may_overlap) goes)
copies_on Q at may_overlap args goes = tt

fills_on : (Q : Next → Type 0) (at : Point) (args : List (Val Sym)) → GoesOn Q at None → IfGives Q (fills at args)
fills_on Q at (to ∷ byte ∷ len ∷ volatile ∷ []) goes =
    gives_any Q (λ n. and_then (λ mem. goes_on (record at { memory = mem }) None) (fill at.memory to byte n)) (length_of len) (λ n. memory_on Q at (fill at.memory to byte n) goes)
fills_on Q at args goes = tt

pub intrinsic_on : (Q : Next → Type 0) (at : Point) (args : List (Val Sym)) (of : Intrinsic) → GoesOn Q at None → IfGives Q (intrinsic_call at args of)
intrinsic_on Q at args intrinsic.Memcpy goes = copies_on Q at false args goes
intrinsic_on Q at args intrinsic.Memmove goes = copies_on Q at true args goes
intrinsic_on Q at args intrinsic.Memset goes = fills_on Q at args goes

-- ---- functions outside

moved_on : (ty : Scalar) (o : Option (Val Sym)) (by : ℤ) → IfGives (IsReturned (Some ty)) (moved_argument by o)
moved_on ty None by = tt
moved_on ty (Some (val.Num n)) by = tt
moved_on ty (Some val.Null) by = tt
moved_on ty (Some (val.At of offset)) by = tt
moved_on ty (Some val.Poison) by = tt

-- A reply has a value where the type is one that returns.
replied_on : (args : List (Val Sym)) (returns : Option Scalar) (v : ReplyVal) → IfGives (IsReturned returns) (replied args returns v)
replied_on args None reply_val.Void = tt
replied_on args None (reply_val.Num n) = tt
replied_on args None reply_val.Null = tt
replied_on args None (reply_val.Arg k by) = tt
replied_on args (Some ty) reply_val.Void = tt
replied_on args (Some ty) (reply_val.Num n) = gives_when (IsReturned (Some ty)) (is_number_of ty n) (Gives (Some (val.Num n))) bad (λ is. tt) (λ not_so. tt)
replied_on args (Some I1) reply_val.Null = tt
replied_on args (Some I8) reply_val.Null = tt
replied_on args (Some I16) reply_val.Null = tt
replied_on args (Some I32) reply_val.Null = tt
replied_on args (Some I64) reply_val.Null = tt
replied_on args (Some Ptr) reply_val.Null = tt
replied_on args (Some I1) (reply_val.Arg k by) = tt
replied_on args (Some I8) (reply_val.Arg k by) = tt
replied_on args (Some I16) (reply_val.Arg k by) = tt
replied_on args (Some I32) (reply_val.Arg k by) = tt
replied_on args (Some I64) (reply_val.Arg k by) = tt
replied_on args (Some Ptr) (reply_val.Arg k by) = moved_on Ptr (slice_get args k) by

give_on : (Q : Next → Type 0) (at : Point) (fn_ty : FnType) (args : List (Val Sym)) (r : Reply) → GoesOn Q at fn_ty.returns → IfGives Q (give at fn_ty args r)
give_on Q at fn_ty args (reply.Grant granting) goes = tt
give_on Q at fn_ty args (reply.Give v writes) goes =
    gives_then (IsReturned fn_ty.returns) Q (λ result. and_then (λ mem. goes_on (record at { memory = mem }) result) (write_all args writes at.memory)) (replied args fn_ty.returns v) (replied_on args fn_ty.returns v)
    (λ result is. gives_any Q (λ mem. goes_on (record at { memory = mem }) result) (write_all args writes at.memory) (λ mem. goes mem result is))

with_shown : (Q : Next → Type 0) (at : Point) (called : List ℕ) (fn_ty : FnType) (args : List (Val Sym)) (given : Option Reply) (shown : List Shown) → Stays Q at → GoesOn Q at fn_ty.returns
    → IfGives Q (outside_with at called fn_ty args given shown)
with_shown Q at called fn_ty args None shown stays goes = stays (stepped.Wants (record { name = called; fn_ty = fn_ty; args = shown }))
with_shown Q at called fn_ty args (Some r) shown stays goes = give_on Q at fn_ty args r goes

pub outside_on : (p : ProgramData) (Q : Next → Type 0) (at : Point) (called : List ℕ) (fn_ty : FnType) (args : List (Val Sym)) (given : Option Reply) → Stays Q at → GoesOn Q at fn_ty.returns
    → IfGives Q (outside_call p at called fn_ty args given)
outside_on p Q at called fn_ty args given stays goes =
    gives_any Q (outside_with at called fn_ty args given) (shown_all p at.memory args) (λ shown. with_shown Q at called fn_ty args given shown stays goes)
