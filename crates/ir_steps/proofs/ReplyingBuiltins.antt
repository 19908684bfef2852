-- The built-in functions are safe where the call goes on safely.
use Rattle.std.proofs.Common.{◌≡◌, ◌≢◌, ℕ, suc, ◌*◌, ◌^◌, nat_lt, Bool, true, false, ◌&&◌, List, [], ◌∷◌, length, All, Option, Some, None, refl, sym, subst, if◌then◌else◌, arith}
use Rattle.std.proofs.lemmas.List.Elements.{All-head, All-tail}
use Rattle.ir_types.specs.declared.scalar.Scalar.TheVariants.{I32, I64, Ptr}
use Rattle.ir_types.specs.declared.scalar.FnType.{FnType}
use Rattle.ir_syntax.specs.declared.symbol.Sym.{Sym}
use Rattle.ir_syntax.specs.declared.symbol.Builtin.{Builtin}
use Rattle.ir_syntax.specs.declared.symbol.Builtin.TheVariants as builtin
use Rattle.ir_syntax.specs.Builtins.{builtin_name, type_of_builtin}
use Rattle.ir_syntax.specs.Programs.{ProgramData}
use Rattle.block_memory.specs.declared.value.Val.{Val}
use Rattle.block_memory.specs.declared.value.Val.TheVariants as val
use Rattle.block_memory.specs.Answers.{Gives, Stuck}
use Rattle.block_memory.specs.Making.{alloc, free}
use Rattle.ir_steps.specs.declared.session.Shown.{Shown}
use Rattle.ir_steps.specs.declared.session.Reply.{Reply}
use Rattle.ir_steps.specs.declared.session.Reply.TheVariants as reply
use Rattle.ir_steps.specs.declared.session.Stepped.{Stepped}
use Rattle.ir_steps.specs.declared.session.Stepped.TheVariants as stepped
use Rattle.ir_steps.specs.States.{Point}
use Rattle.ir_steps.specs.Results.{Next, state, gives_result}
use Rattle.ir_steps.specs.Showing.{shown_all}
use Rattle.ir_steps.specs.Builtins.{wants, next_made, granted, grant, exits, asks, malloc_call, calloc_call, free_call, exit_call, abort_call, builtin_call}
use Rattle.ir_steps.proofs.Fits.{IsValue, MemoryFits}
use Rattle.ir_steps.proofs.Safely.{Safe, safe_then, safe_when}
use Rattle.ir_steps.proofs.Values.{AreValues}
use Rattle.ir_steps.proofs.AccessingMade.{alloc_makes, alloc_fits, free_keeps}
use Rattle.ir_steps.proofs.Copied.{GoesOn, memory_goes_on}

-- A call that wants a reply leaves the calls and the memory as they are.
abbrev pub Stays : (Next → Type 0) → Point → Type 0
Stays Q at = (a : Stepped) → Q (a, state (at.frame ∷ at.below) at.memory)

-- A call that ends the program leaves the memory alone.
abbrev pub Ends : (Next → Type 0) → Point → Type 0
Ends Q at = (a : Stepped) → Q (a, state [] at.memory)

-- ---- memory that is asked for

granted_safe : (p : ProgramData) (Q : Next → Type 0) (at : Point) (size : ℕ) (zeroed : Bool) → MemoryFits p at.memory → GoesOn p Q at (Some Ptr) → Safe Q (granted at size zeroed)
granted_safe p Q at size zeroed fits goes =
    let made : length (alloc at.memory size true zeroed).made ≡ suc (length at.memory.made) = alloc_makes at.memory size true zeroed in
    goes (alloc at.memory size true zeroed) (Some (next_made at.memory)) (alloc_fits p at.memory size true zeroed fits) (omega arith) (refl, omega arith)

grant_safe : (p : ProgramData) (Q : Next → Type 0) (at : Point) (size : ℕ) (zeroed : Bool) (r : Reply) → MemoryFits p at.memory → GoesOn p Q at (Some Ptr) → Safe Q (grant at size zeroed r)
grant_safe p Q at size zeroed (reply.Grant granting) fits goes =
    safe_when Q (granting && nat_lt size (2 ^ 31)) (granted at size zeroed) (gives_result at val.Null) (λ yes. granted_safe p Q at size zeroed fits goes)
    (λ not_so. goes at.memory (Some val.Null) fits (omega arith) refl)
grant_safe p Q at size zeroed (reply.Give v writes) fits goes = tt

asks_safe : (p : ProgramData) (Q : Next → Type 0) (at : Point) (fn_ty : FnType) (of : Builtin) (args : List (Val Sym)) (size : ℕ) (zeroed : Bool) (given : Option Reply) → MemoryFits p at.memory
    → Safe (λ (shown : List Shown). Unit {0}) (shown_all p at.memory args) → Stays Q at → GoesOn p Q at (Some Ptr) → Safe Q (asks p at fn_ty of args size zeroed given)
asks_safe p Q at fn_ty of args size zeroed None fits seen stays goes =
    safe_then (λ (shown : List Shown). Unit {0}) Q (wants at (builtin_name of) fn_ty) (shown_all p at.memory args) seen
    (λ shown k. stays (stepped.Wants (record { name = builtin_name of; fn_ty = fn_ty; args = shown })))
asks_safe p Q at fn_ty of args size zeroed (Some r) fits seen stays goes = grant_safe p Q at size zeroed r fits goes

malloc_safe : (p : ProgramData) (Q : Next → Type 0) (at : Point) (fn_ty : FnType) (given : Option Reply) (args : List (Val Sym)) → MemoryFits p at.memory → AreValues p (length at.memory.made) (I64 ∷ []) args
    → All (λ v. v ≢ val.Poison) args → Safe (λ (shown : List Shown). Unit {0}) (shown_all p at.memory args) → Stays Q at → GoesOn p Q at (Some Ptr) → Safe Q (malloc_call p at fn_ty given args)
malloc_safe p Q at fn_ty given [] fits h fine seen stays goes = absurd h
malloc_safe p Q at fn_ty given (val.Num size ∷ []) fits h fine seen stays goes = asks_safe p Q at fn_ty builtin.Malloc (val.Num size ∷ []) size false given fits seen stays goes
malloc_safe p Q at fn_ty given (val.Null ∷ []) fits h fine seen stays goes = let e = h.0 in absurd (cc)
malloc_safe p Q at fn_ty given (val.At of offset ∷ []) fits h fine seen stays goes = let e = h.0.0 in absurd (cc)
malloc_safe p Q at fn_ty given (val.Poison ∷ []) fits h fine seen stays goes = absurd (All-head (λ v. v ≢ val.Poison) val.Poison [] fine refl)
malloc_safe p Q at fn_ty given (v ∷ w ∷ more) fits h fine seen stays goes = absurd h.1

calloc_safe : (p : ProgramData) (Q : Next → Type 0) (at : Point) (fn_ty : FnType) (given : Option Reply) (args : List (Val Sym)) → MemoryFits p at.memory → AreValues p (length at.memory.made) (I64 ∷ I64 ∷ []) args
    → All (λ v. v ≢ val.Poison) args → Safe (λ (shown : List Shown). Unit {0}) (shown_all p at.memory args) → Stays Q at → GoesOn p Q at (Some Ptr) → Safe Q (calloc_call p at fn_ty given args)
calloc_safe p Q at fn_ty given [] fits h fine seen stays goes = absurd h
calloc_safe p Q at fn_ty given (v ∷ []) fits h fine seen stays goes = absurd h.1
calloc_safe p Q at fn_ty given (val.Num count ∷ val.Num each ∷ []) fits h fine seen stays goes =
    asks_safe p Q at fn_ty builtin.Calloc (val.Num count ∷ val.Num each ∷ []) (count * each) true given fits seen stays goes
calloc_safe p Q at fn_ty given (val.Num count ∷ val.Null ∷ []) fits h fine seen stays goes = let e = h.1.0 in absurd (cc)
calloc_safe p Q at fn_ty given (val.Num count ∷ val.At of offset ∷ []) fits h fine seen stays goes = let e = h.1.0.0 in absurd (cc)
calloc_safe p Q at fn_ty given (val.Num count ∷ val.Poison ∷ []) fits h fine seen stays goes =
    absurd (All-head (λ v. v ≢ val.Poison) val.Poison [] (All-tail (λ v. v ≢ val.Poison) (val.Num count) (val.Poison ∷ []) fine) refl)
calloc_safe p Q at fn_ty given (val.Null ∷ w ∷ []) fits h fine seen stays goes = let e = h.0 in absurd (cc)
calloc_safe p Q at fn_ty given (val.At of offset ∷ w ∷ []) fits h fine seen stays goes = let e = h.0.0 in absurd (cc)
calloc_safe p Q at fn_ty given (val.Poison ∷ w ∷ []) fits h fine seen stays goes = absurd (All-head (λ v. v ≢ val.Poison) val.Poison (w ∷ []) fine refl)
calloc_safe p Q at fn_ty given (v ∷ w ∷ x ∷ more) fits h fine seen stays goes = absurd h.1.1

-- ---- the others

free_safe : (p : ProgramData) (Q : Next → Type 0) (at : Point) (args : List (Val Sym)) → MemoryFits p at.memory → AreValues p (length at.memory.made) (Ptr ∷ []) args → GoesOn p Q at None → Safe Q (free_call at args)
free_safe p Q at [] fits h goes = absurd h
free_safe p Q at (v ∷ []) fits h goes = memory_goes_on p Q at (free at.memory v) goes (free_keeps p at.memory v fits)
free_safe p Q at (v ∷ w ∷ more) fits h goes = absurd h.1

exits_safe : (p : ProgramData) (Q : Next → Type 0) (at : Point) (v : Val Sym) → IsValue p (length at.memory.made) I32 v → v ≢ val.Poison → Ends Q at → Safe Q (exits at v)
exits_safe p Q at (val.Num n) h fine ends = subst (λ b. Safe Q (if b then Gives (stepped.Exited n, state [] at.memory) else Stuck)) (sym h) (ends (stepped.Exited n))
exits_safe p Q at val.Null h fine ends = absurd (cc)
exits_safe p Q at (val.At of offset) h fine ends = let e = h.0 in absurd (cc)
exits_safe p Q at val.Poison h fine ends = absurd (fine refl)

exit_safe : (p : ProgramData) (Q : Next → Type 0) (at : Point) (args : List (Val Sym)) → AreValues p (length at.memory.made) (I32 ∷ []) args → All (λ v. v ≢ val.Poison) args → Ends Q at → Safe Q (exit_call at args)
exit_safe p Q at [] h fine ends = absurd h
exit_safe p Q at (v ∷ []) h fine ends = exits_safe p Q at v h.0 (All-head (λ w. w ≢ val.Poison) v [] fine) ends
exit_safe p Q at (v ∷ w ∷ more) h fine ends = absurd h.1

abort_safe : (p : ProgramData) (Q : Next → Type 0) (at : Point) (args : List (Val Sym)) → AreValues p (length at.memory.made) [] args → Ends Q at → Safe Q (abort_call at args)
abort_safe p Q at [] h ends = ends stepped.Aborted
abort_safe p Q at (v ∷ more) h ends = absurd h

pub builtin_safe : (p : ProgramData) (Q : Next → Type 0) (at : Point) (fn_ty : FnType) (given : Option Reply) (args : List (Val Sym)) (of : Builtin) → MemoryFits p at.memory
    → AreValues p (length at.memory.made) (type_of_builtin of).params args → All (λ v. v ≢ val.Poison) args → Safe (λ (shown : List Shown). Unit {0}) (shown_all p at.memory args)
    → Stays Q at → Ends Q at → GoesOn p Q at (type_of_builtin of).returns → Safe Q (builtin_call p at fn_ty given args of)
builtin_safe p Q at fn_ty given args builtin.Malloc fits h fine seen stays ends goes = malloc_safe p Q at fn_ty given args fits h fine seen stays goes
builtin_safe p Q at fn_ty given args builtin.Calloc fits h fine seen stays ends goes = calloc_safe p Q at fn_ty given args fits h fine seen stays goes
builtin_safe p Q at fn_ty given args builtin.Free fits h fine seen stays ends goes = free_safe p Q at args fits h goes
builtin_safe p Q at fn_ty given args builtin.Exit fits h fine seen stays ends goes = exit_safe p Q at args h fine ends
builtin_safe p Q at fn_ty given args builtin.Abort fits h fine seen stays ends goes = abort_safe p Q at args h ends
