-- A call of a function outside is safe where the call goes on safely.
use Rattle.std.proofs.Common.{ℕ, List, length, All, Option, Some, None, arith}
use Rattle.ir_types.specs.declared.scalar.FnType.{FnType}
use Rattle.ir_syntax.specs.declared.symbol.Sym.{Sym}
use Rattle.ir_syntax.specs.Programs.{ProgramData}
use Rattle.block_memory.specs.declared.value.Val.{Val}
use Rattle.block_memory.specs.Answers.{and_then}
use Rattle.ir_steps.specs.declared.session.Shown.{Shown}
use Rattle.ir_steps.specs.declared.session.Reply.{Reply}
use Rattle.ir_steps.specs.declared.session.Reply.TheVariants as reply
use Rattle.ir_steps.specs.declared.session.Stepped.TheVariants as stepped
use Rattle.ir_steps.specs.States.{Point}
use Rattle.ir_steps.specs.Results.{Next, goes_on}
use Rattle.ir_steps.specs.Showing.{shown_all}
use Rattle.ir_steps.specs.Replies.{replied, write_all}
use Rattle.ir_steps.specs.Calls.{give, outside_with, outside_call}
use Rattle.ir_steps.proofs.Fits.{MemoryFits, StillFits}
use Rattle.ir_steps.proofs.Safely.{Safe, safe_then}
use Rattle.ir_steps.proofs.Values.{IsSomeValue, IsResult, result_later}
use Rattle.ir_steps.proofs.Replying.{replied_fits, write_all_keeps}
use Rattle.ir_steps.proofs.Copied.{GoesOn}
use Rattle.ir_steps.proofs.ReplyingBuiltins.{Stays}

pub give_safe : (p : ProgramData) (Q : Next → Type 0) (at : Point) (fn_ty : FnType) (args : List (Val Sym)) (r : Reply) → MemoryFits p at.memory → All (IsSomeValue p (length at.memory.made)) args
    → GoesOn p Q at fn_ty.returns → Safe Q (give at fn_ty args r)
give_safe p Q at fn_ty args (reply.Grant granting) fits h goes = tt
give_safe p Q at fn_ty args (reply.Give v writes) fits h goes =
    let made = length at.memory.made in
    safe_then (IsResult p made fn_ty.returns) Q (λ result. and_then (λ mem. goes_on (record at { memory = mem }) result) (write_all args writes at.memory)) (replied args fn_ty.returns v)
    (replied_fits p made args fn_ty.returns v h)
    (λ result is. safe_then (StillFits p at.memory) Q (λ mem. goes_on (record at { memory = mem }) result) (write_all args writes at.memory) (write_all_keeps p args writes at.memory fits h)
    (λ mem still.
    let same = still.same_made in
    goes mem result still.fits (omega arith) (result_later p made (length mem.made) fn_ty.returns result (omega arith) is)))

outside_with_safe : (p : ProgramData) (Q : Next → Type 0) (at : Point) (called : List ℕ) (fn_ty : FnType) (args : List (Val Sym)) (given : Option Reply) (shown : List Shown) → MemoryFits p at.memory
    → All (IsSomeValue p (length at.memory.made)) args → Stays Q at → GoesOn p Q at fn_ty.returns → Safe Q (outside_with at called fn_ty args given shown)
outside_with_safe p Q at called fn_ty args None shown fits h stays goes = stays (stepped.Wants (record { name = called; fn_ty = fn_ty; args = shown }))
outside_with_safe p Q at called fn_ty args (Some r) shown fits h stays goes = give_safe p Q at fn_ty args r fits h goes

pub outside_safe : (p : ProgramData) (Q : Next → Type 0) (at : Point) (called : List ℕ) (fn_ty : FnType) (args : List (Val Sym)) (given : Option Reply) → MemoryFits p at.memory
    → All (IsSomeValue p (length at.memory.made)) args → Safe (λ (shown : List Shown). Unit {0}) (shown_all p at.memory args) → Stays Q at → GoesOn p Q at fn_ty.returns
    → Safe Q (outside_call p at called fn_ty args given)
outside_safe p Q at called fn_ty args given fits h seen stays goes =
    safe_then (λ (shown : List Shown). Unit {0}) Q (outside_with at called fn_ty args given) (shown_all p at.memory args) seen
    (λ shown k. outside_with_safe p Q at called fn_ty args given shown fits h stays goes)
