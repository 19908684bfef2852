-- What stands behind a step: where it went on a call is running, where a root has returned none is, and where a call wants a reply
-- nothing has changed.
use Rattle.std.proofs.Common.{◌≡◌, ◌≢◌, ℕ, ◌*◌, ◌^◌, nat_lt, Bool, true, false, ◌&&◌, List, [], ◌∷◌, ◌++◌, length, map, Option, Some, None, refl, subst, if◌then◌else◌}
use Rattle.ir_types.specs.declared.scalar.Scalar.{Scalar}
use Rattle.ir_types.specs.declared.scalar.FnType.{FnType}
use Rattle.ir_types.specs.Layout.{size}
use Rattle.ir_syntax.specs.declared.symbol.Sym.{Sym}
use Rattle.ir_syntax.specs.declared.symbol.SymName.{SymName}
use Rattle.ir_syntax.specs.declared.symbol.Target.{Target}
use Rattle.ir_syntax.specs.declared.symbol.Target.TheVariants as target
use Rattle.ir_syntax.specs.declared.symbol.Builtin.{Builtin}
use Rattle.ir_syntax.specs.declared.symbol.Builtin.TheVariants as builtin
use Rattle.ir_syntax.specs.declared.symbol.Intrinsic.{Intrinsic}
use Rattle.ir_syntax.specs.declared.symbol.Intrinsic.TheVariants as intrinsic
use Rattle.ir_syntax.specs.declared.constant.Operand.{Operand}
use Rattle.ir_syntax.specs.declared.body.Arg.{Arg}
use Rattle.ir_syntax.specs.declared.body.Body.{Body}
use Rattle.ir_syntax.specs.declared.body.Inst.{Inst}
use Rattle.ir_syntax.specs.declared.body.Inst.TheVariants.{Bin, Icmp, Select, Cast, Alloca, Load, Store, Gep, Call}
use Rattle.ir_syntax.specs.declared.body.Term.{Term}
use Rattle.ir_syntax.specs.declared.body.Term.TheVariants.{RetVoid, Ret, Br, CondBr, Switch, Unreachable}
use Rattle.ir_syntax.specs.declared.item.Func.{Func}
use Rattle.ir_syntax.specs.Builtins.{builtin_name}
use Rattle.ir_syntax.specs.FunctionTypes.{type_of}
use Rattle.ir_syntax.specs.Programs.{ProgramData}
use Rattle.ir_syntax.specs.Targets.{entry_at}
use Rattle.int_ops.specs.declared.cause.Cause.TheVariants as cause
use Rattle.block_memory.specs.declared.value.Val.{Val}
use Rattle.block_memory.specs.declared.value.Val.TheVariants as val
use Rattle.block_memory.specs.Answers.{Answer, Gives, Undefined, Stuck, and_then, or_stuck}
use Rattle.block_memory.specs.Blocks.{MemoryData}
use Rattle.block_memory.specs.Copies.{copy}
use Rattle.block_memory.specs.Fills.{fill}
use Rattle.block_memory.specs.Making.{alloc, free}
use Rattle.block_memory.specs.Stores.{store}
use Rattle.block_memory.specs.Starts as memory
use Rattle.ir_steps.specs.declared.session.Shown.{Shown}
use Rattle.ir_steps.specs.declared.session.Reply.{Reply}
use Rattle.ir_steps.specs.declared.session.Reply.TheVariants as reply
use Rattle.ir_steps.specs.declared.session.Stepped.{Stepped}
use Rattle.ir_steps.specs.declared.session.Stepped.TheVariants as stepped
use Rattle.ir_steps.specs.States.{Frame, StateData, Point}
use Rattle.ir_steps.specs.Operands.{value, values}
use Rattle.ir_steps.specs.Results.{Next, state, went, behind_with, goes_on, gives_result, with_memory}
use Rattle.ir_steps.specs.Reading.{evaluated, align_of}
use Rattle.ir_steps.specs.Showing.{shown_value, shown_all, no_poison}
use Rattle.ir_steps.specs.Replies.{replied, write_all}
use Rattle.ir_steps.specs.Builtins.{wants, next_made, builtin_call, malloc_call, calloc_call, free_call, exit_call, abort_call, asks, grant, granted, exits}
use Rattle.ir_steps.specs.Copying.{intrinsic_call, length_of, copies, fills}
use Rattle.ir_steps.specs.Calls.{call, call_as, call_of, callee_of, function_at, same_type, begins, body_of, enters_function, outside_call, outside_with, give}
use Rattle.ir_steps.specs.Branches.{branch, enters_block, chosen, switched}
use Rattle.ir_steps.specs.Returns.{returns, returns_to, root_returns, resume, resumed, end_all}
use Rattle.ir_steps.specs.Steps.{step, frames_step, rest_step, inst_step, term_step, enter, start}

abbrev pub BehindOf : StateData → Option Reply → StateData → Stepped → Type 0
BehindOf s given t stepped.Went = t.frames ≢ []
BehindOf s given t (stepped.Wants called) = (t ≡ s) × (given ≡ None)
BehindOf s given t (stepped.Returned value) = t.frames ≡ []
BehindOf s given t (stepped.Exited n) = t.frames ≡ []
BehindOf s given t stepped.Aborted = t.frames ≡ []
BehindOf s given t (stepped.Undefined why) = ⊥

abbrev pub Behind : StateData → Option Reply → Next → Type 0
Behind s given next = BehindOf s given next.1 next.0

-- what is given is so
abbrev pub Where : {A : Type 0} → (A → Type 0) → Answer A → Type 0
Where P (Gives x) = P x
Where P (Undefined why) = Unit {0}
Where P Stuck = Unit {0}

where_then : {A B : Type 0} (P : B → Type 0) (F : A → Answer B) (a : Answer A) → ((x : A) → Where P (F x)) → Where P (and_then F a)
where_then P F (Gives x) h = h x
where_then P F (Undefined why) h = tt
where_then P F Stuck h = tt

where_if : {A : Type 0} (P : A → Type 0) (b : Bool) (x y : Answer A) → Where P x → Where P y → Where P (if b then x else y)
where_if P true x y h k = h
where_if P false x y h k = k

some_calls : (f : Frame) (fs : List Frame) → f ∷ fs ≢ []
some_calls f fs e = cc

-- the state at an instruction
abbrev at_point : Point → StateData
at_point at = state (at.frame ∷ at.below) at.memory

goes_on_so : (s : StateData) (given : Option Reply) (at : Point) (result : Option (Val Sym)) → Where (Behind s given) (goes_on at result)
goes_on_so s given at result =
    where_then (Behind s given) (λ (f : Frame). Gives (went (f ∷ at.below) at.memory)) (behind_with at.frame at.behind result) (λ f. some_calls f at.below)

-- the same with other memory
with_memory_so : (s : StateData) (given : Option Reply) (at : Point) (a : Answer MemoryData) → Where (Behind s given) (and_then (with_memory at) a)
with_memory_so s given at a = where_then (Behind s given) (with_memory at) a (λ mem. goes_on_so s given (record at { memory = mem }) None)

-- with a value
gives_so : (s : StateData) (given : Option Reply) (at : Point) (a : Answer (Val Sym)) → Where (Behind s given) (and_then (gives_result at) a)
gives_so s given at a = where_then (Behind s given) (gives_result at) a (λ v. goes_on_so s given at (Some v))

branch_so : (s : StateData) (given : Option Reply) (p : ProgramData) (at : Point) (to : ℕ) → Where (Behind s given) (branch p at to)
branch_so s given p at to =
    where_then (Behind s given) (λ (f : Frame). Gives (went (f ∷ at.below) at.memory)) (and_then (enters_block p at.frame to) (or_stuck (body_of p at.frame.func))) (λ f. some_calls f at.below)

-- ---- calls

grant_so : (s : StateData) (given : Option Reply) (at : Point) (size : ℕ) (zeroed : Bool) (r : Reply) → Where (Behind s given) (grant at size zeroed r)
grant_so s given at size zeroed (reply.Grant granting) =
    where_if (Behind s given) (granting && nat_lt size (2 ^ 31)) (granted at size zeroed) (gives_result at val.Null)
    (goes_on_so s given (record at { memory = alloc at.memory size true zeroed }) (Some (next_made at.memory))) (goes_on_so s given at (Some val.Null))
grant_so s given at size zeroed (reply.Give v writes) = tt

wants_so : (at : Point) (called : List ℕ) (fn_ty : FnType) (shown : List Shown) → Where (Behind (at_point at) None) (wants at called fn_ty shown)
wants_so at called fn_ty shown = (refl, refl)

asks_so : (p : ProgramData) (at : Point) (fn_ty : FnType) (of : Builtin) (args : List (Val Sym)) (size : ℕ) (zeroed : Bool) (given : Option Reply)
    → Where (Behind (at_point at) given) (asks p at fn_ty of args size zeroed given)
asks_so p at fn_ty of args size zeroed None =
    where_then (Behind (at_point at) None) (wants at (builtin_name of) fn_ty) (shown_all p at.memory args) (wants_so at (builtin_name of) fn_ty)
asks_so p at fn_ty of args size zeroed (Some r) = grant_so (at_point at) (Some r) at size zeroed r

malloc_so : (p : ProgramData) (at : Point) (fn_ty : FnType) (given : Option Reply) (args : List (Val Sym)) → Where (Behind (at_point at) given) (malloc_call p at fn_ty given args)
malloc_so p at fn_ty given (val.Num size ∷ []) = asks_so p at fn_ty builtin.Malloc (val.Num size ∷ []) size false given
malloc_so p at fn_ty given args = tt

calloc_so : (p : ProgramData) (at : Point) (fn_ty : FnType) (given : Option Reply) (args : List (Val Sym)) → Where (Behind (at_point at) given) (calloc_call p at fn_ty given args)
calloc_so p at fn_ty given (val.Num count ∷ val.Num each ∷ []) = asks_so p at fn_ty builtin.Calloc (val.Num count ∷ val.Num each ∷ []) (count * each) true given
calloc_so p at fn_ty given args = tt

free_so : (s : StateData) (given : Option Reply) (at : Point) (args : List (Val Sym)) → Where (Behind s given) (free_call at args)
free_so s given at (v ∷ []) = with_memory_so s given at (free at.memory v)
free_so s given at args = tt

exits_so : (s : StateData) (given : Option Reply) (at : Point) (v : Val Sym) → Where (Behind s given) (exits at v)
exits_so s given at (val.Num n) = by (nat_lt n (2 ^ 32)) where
  by : (below : Bool) → Where (Behind s given) (if below then Gives (stepped.Exited n, state [] at.memory) else Stuck)
  by true = refl
  by false = tt
exits_so s given at val.Null = tt
exits_so s given at (val.At of offset) = tt
exits_so s given at val.Poison = tt

exit_so : (s : StateData) (given : Option Reply) (at : Point) (args : List (Val Sym)) → Where (Behind s given) (exit_call at args)
exit_so s given at (v ∷ []) = exits_so s given at v
exit_so s given at args = tt

abort_so : (s : StateData) (given : Option Reply) (at : Point) (args : List (Val Sym)) → Where (Behind s given) (abort_call at args)
abort_so s given at [] = refl
abort_so s given at args = tt

builtin_so : (p : ProgramData) (at : Point) (fn_ty : FnType) (given : Option Reply) (args : List (Val Sym)) (of : Builtin) → Where (Behind (at_point at) given) (builtin_call p at fn_ty given args of)
builtin_so p at fn_ty given args builtin.Malloc = malloc_so p at fn_ty given args
builtin_so p at fn_ty given args builtin.Calloc = calloc_so p at fn_ty given args
builtin_so p at fn_ty given args builtin.Free = free_so (at_point at) given at args
builtin_so p at fn_ty given args builtin.Exit = exit_so (at_point at) given at args
builtin_so p at fn_ty given args builtin.Abort = abort_so (at_point at) given at args

copies_so : (s : StateData) (given : Option Reply) (at : Point) (may_overlap : Bool) (args : List (Val Sym)) → Where (Behind s given) (copies at may_overlap args)
copies_so s given at may_overlap (to ∷ from ∷ len ∷ volatile ∷ []) =
    where_then (Behind s given) (λ n. and_then (with_memory at) (copy at.memory to from n may_overlap)) (length_of len) (λ n. with_memory_so s given at (copy at.memory to from n may_overlap))
copies_so s given at may_overlap args = tt

fills_so : (s : StateData) (given : Option Reply) (at : Point) (args : List (Val Sym)) → Where (Behind s given) (fills at args)
fills_so s given at (to ∷ byte ∷ len ∷ volatile ∷ []) =
    where_then (Behind s given) (λ n. and_then (with_memory at) (fill at.memory to byte n)) (length_of len) (λ n. with_memory_so s given at (fill at.memory to byte n))
fills_so s given at args = tt

intrinsic_so : (s : StateData) (given : Option Reply) (at : Point) (args : List (Val Sym)) (of : Intrinsic) → Where (Behind s given) (intrinsic_call at args of)
intrinsic_so s given at args intrinsic.Memcpy = copies_so s given at false args
intrinsic_so s given at args intrinsic.Memmove = copies_so s given at true args
intrinsic_so s given at args intrinsic.Memset = fills_so s given at args

give_so : (s : StateData) (given : Option Reply) (at : Point) (fn_ty : FnType) (args : List (Val Sym)) (r : Reply) → Where (Behind s given) (give at fn_ty args r)
give_so s given at fn_ty args (reply.Grant granting) = tt
give_so s given at fn_ty args (reply.Give v writes) =
    where_then (Behind s given) (λ result. and_then (λ mem. goes_on (record at { memory = mem }) result) (write_all args writes at.memory)) (replied args fn_ty.returns v)
    (λ result. where_then (Behind s given) (λ mem. goes_on (record at { memory = mem }) result) (write_all args writes at.memory) (λ mem. goes_on_so s given (record at { memory = mem }) result))

outside_so : (at : Point) (called : List ℕ) (fn_ty : FnType) (args : List (Val Sym)) (given : Option Reply) (shown : List Shown) → Where (Behind (at_point at) given) (outside_with at called fn_ty args given shown)
outside_so at called fn_ty args None shown = wants_so at called fn_ty shown
outside_so at called fn_ty args (Some r) shown = give_so (at_point at) (Some r) at fn_ty args r

outside_call_so : (p : ProgramData) (at : Point) (called : List ℕ) (fn_ty : FnType) (args : List (Val Sym)) (given : Option Reply) → Where (Behind (at_point at) given) (outside_call p at called fn_ty args given)
outside_call_so p at called fn_ty args given =
    where_then (Behind (at_point at) given) (outside_with at called fn_ty args given) (shown_all p at.memory args) (outside_so at called fn_ty args given)

function_so : (s : StateData) (given : Option Reply) (at : Point) (symbol : Sym) (args : List (Val Sym)) (body : Body) → Where (Behind s given) (enters_function at symbol args body)
function_so s given at symbol args body =
    where_then (Behind s given) (λ (f : Frame). Gives (went (f ∷ (at.frame ∷ at.below)) at.memory)) (begins symbol body args) (λ f. some_calls f (at.frame ∷ at.below))

call_of_so : (p : ProgramData) (at : Point) (fn_ty : FnType) (args : List (Val Sym)) (given : Option Reply) (func : Func) (t : Target)
    → Where (Behind (at_point at) given) (call_of p at fn_ty args given func t)
call_of_so p at fn_ty args given func (target.Def symbol) =
    where_then (Behind (at_point at) given) (enters_function at symbol args) (or_stuck (body_of p symbol)) (function_so (at_point at) given at symbol args)
call_of_so p at fn_ty args given func target.Outside =
    where_then (Behind (at_point at) given) (λ fine. outside_call p at func.name fn_ty args given) (no_poison args) (λ fine. outside_call_so p at func.name fn_ty args given)
call_of_so p at fn_ty args given func (target.Builtin of) =
    where_then (Behind (at_point at) given) (λ fine. builtin_call p at fn_ty given args of) (no_poison args) (λ fine. builtin_so p at fn_ty given args of)
call_of_so p at fn_ty args given func (target.Intrinsic of) = intrinsic_so (at_point at) given at args of
call_of_so p at fn_ty args given func target.Nothing = tt

call_as_so : (p : ProgramData) (at : Point) (fn_ty : FnType) (args : List (Val Sym)) (given : Option Reply) (symbol : Sym) (func : Func)
    → Where (Behind (at_point at) given) (call_as p at fn_ty args given symbol func)
call_as_so p at fn_ty args given symbol func =
    where_if (Behind (at_point at) given) (same_type (type_of func) fn_ty) (and_then (call_of p at fn_ty args given func) (or_stuck (entry_at p.targets symbol))) (Undefined cause.CallType)
    (where_then (Behind (at_point at) given) (call_of p at fn_ty args given func) (or_stuck (entry_at p.targets symbol)) (call_of_so p at fn_ty args given func)) tt

call_so : (p : ProgramData) (at : Point) (fn_ty : FnType) (callee : Operand) (args : List Arg) (given : Option Reply) → Where (Behind (at_point at) given) (call p at fn_ty callee args given)
call_so p at fn_ty callee args given =
    let P : Next → Type 0 = Behind (at_point at) given in
    where_then P (λ symbol. and_then (λ xs. and_then (call_as p at fn_ty xs given symbol) (or_stuck (function_at p symbol))) (values p at.frame (map (λ (a : Arg). a.value) args)))
    (and_then callee_of (value p at.frame callee))
    (λ symbol. where_then P (λ xs. and_then (call_as p at fn_ty xs given symbol) (or_stuck (function_at p symbol))) (values p at.frame (map (λ (a : Arg). a.value) args))
    (λ xs. where_then P (call_as p at fn_ty xs given symbol) (or_stuck (function_at p symbol)) (call_as_so p at fn_ty xs given symbol)))

-- ---- instructions

inst_so : (p : ProgramData) (at : Point) (given : Option Reply) (i : Inst) → Where (Behind (at_point at) given) (inst_step p at given i)
inst_so p at given (Bin op flags ty a b) = gives_so (at_point at) given at (evaluated p at.frame at.memory (Bin op flags ty a b))
inst_so p at given (Icmp pred ty a b) = gives_so (at_point at) given at (evaluated p at.frame at.memory (Icmp pred ty a b))
inst_so p at given (Select ty cond a b) = gives_so (at_point at) given at (evaluated p at.frame at.memory (Select ty cond a b))
inst_so p at given (Cast op nneg from to a) = gives_so (at_point at) given at (evaluated p at.frame at.memory (Cast op nneg from to a))
inst_so p at given (Alloca ty count align) =
    goes_on_so (at_point at) given (record at { frame = record at.frame { allocas = at.frame.allocas ++ length at.memory.made ∷ [] }; memory = alloc at.memory (size ty * count) false false }) (Some (next_made at.memory))
inst_so p at given (Load ty from align) = gives_so (at_point at) given at (evaluated p at.frame at.memory (Load ty from align))
inst_so p at given (Store ty a to align) =
    where_then (Behind (at_point at) given) (λ x. and_then (λ place. and_then (with_memory at) (store at.memory ty (align_of ty align) x place)) (value p at.frame to)) (value p at.frame a)
    (λ x. where_then (Behind (at_point at) given) (λ place. and_then (with_memory at) (store at.memory ty (align_of ty align) x place)) (value p at.frame to)
    (λ place. with_memory_so (at_point at) given at (store at.memory ty (align_of ty align) x place)))
inst_so p at given (Gep inbounds ty base indices) = gives_so (at_point at) given at (evaluated p at.frame at.memory (Gep inbounds ty base indices))
inst_so p at given (Call fn_ty ret_ext callee args) = call_so p at fn_ty callee args given

-- ---- terminators

resumed_so : (s : StateData) (given : Option Reply) (at : Point) (ty : Option Scalar) (result : Option (Val Sym)) → Where (Behind s given) (resumed at ty result)
resumed_so s given at None None = goes_on_so s given at None
resumed_so s given at None (Some x) = tt
resumed_so s given at (Some ty) None = tt
resumed_so s given at (Some ty) (Some x) = goes_on_so s given at (Some x)

resume_so : (s : StateData) (given : Option Reply) (f : Frame) (below : List Frame) (mem : MemoryData) (result : Option (Val Sym)) (insts : List Inst)
    → Where (Behind s given) (resume f below mem result insts)
resume_so s given f below mem result (Call fn_ty ret_ext callee args ∷ behind) =
    resumed_so s given (record { frame = f; behind = behind; below = below; memory = mem }) fn_ty.returns result
resume_so s given f below mem result insts = tt

root_so : (s : StateData) (given : Option Reply) (p : ProgramData) (mem : MemoryData) (result : Option (Val Sym)) → Where (Behind s given) (root_returns p mem result)
root_so s given p mem None = refl
root_so s given p mem (Some x) =
    where_then (Behind s given) (λ (named : Val SymName). Gives (stepped.Returned (Some named), state [] mem)) (or_stuck (shown_value p x)) (λ named. refl)

returns_to_so : (s : StateData) (given : Option Reply) (p : ProgramData) (mem : MemoryData) (result : Option (Val Sym)) (frames : List Frame)
    → Where (Behind s given) (returns_to p mem result frames)
returns_to_so s given p mem result [] = root_so s given p mem result
returns_to_so s given p mem result (f ∷ below) = resume_so s given f below mem result f.rest

term_so : (s : StateData) (given : Option Reply) (p : ProgramData) (at : Point) (t : Term) → Where (Behind s given) (term_step p at t)
term_so s given p at RetVoid = returns_to_so s given p (end_all at.frame.allocas at.memory) None at.below
term_so s given p at (Ret ty a) =
    where_then (Behind s given) (λ x. returns p at (Some x)) (value p at.frame a) (λ x. returns_to_so s given p (end_all at.frame.allocas at.memory) (Some x) at.below)
term_so s given p at (Br to) = branch_so s given p at to
term_so s given p at (CondBr cond one other) = where_then (Behind s given) (branch p at) (and_then (chosen one other) (value p at.frame cond)) (branch_so s given p at)
term_so s given p at (Switch ty a default cases) = where_then (Behind s given) (branch p at) (and_then (switched default cases) (value p at.frame a)) (branch_so s given p at)
term_so s given p at Unreachable = tt

-- ---- steps

rest_so : (p : ProgramData) (f : Frame) (below : List Frame) (mem : MemoryData) (given : Option Reply) (insts : List Inst)
    → Where (Behind (state (f ∷ below) mem) given) (rest_step p f below mem given insts)
rest_so p f below mem given [] = term_so (state (f ∷ below) mem) given p (record { frame = f; behind = []; below = below; memory = mem }) f.last
rest_so p f below mem given (i ∷ behind) = inst_so p (record { frame = f; behind = behind; below = below; memory = mem }) given i

frames_so : (p : ProgramData) (mem : MemoryData) (given : Option Reply) (frames : List Frame) → Where (Behind (state frames mem) given) (frames_step p mem given frames)
frames_so p mem given [] = tt
frames_so p mem given (f ∷ below) = rest_so p f below mem given f.rest

step_so : (p : ProgramData) (s : StateData) (given : Option Reply) → Where (Behind s given) (step p s given)
step_so p s given = frames_so p s.memory given s.frames

where_is : {A : Type 0} (P : A → Type 0) (a : Answer A) (x : A) → a ≡ Gives x → Where P a → P x
where_is P a x e h = subst (Where P) e h

pub behind : (p : ProgramData) (s : StateData) (given : Option Reply) (a : Stepped) (t : StateData) → step p s given ≡ Gives (a, t) → BehindOf s given t a
behind p s given a t e = where_is (Behind s given) (step p s given) (a, t) e (step_so p s given)

-- ---- the beginning

abbrev Calls : StateData → Type 0
Calls s = s.frames ≢ []

abbrev Idle : StateData → Type 0
Idle s = s.frames ≡ []

-- Where a root is entered a call is running.
pub entered : (p : ProgramData) (s : StateData) (symbol : Sym) (args : List ℕ) (t : StateData) → enter p s symbol args ≡ Gives t → t.frames ≢ []
entered p s symbol args t e =
    where_is Calls (enter p s symbol args) t e
    (where_then Calls (λ (f : Frame). Gives (state (f ∷ []) s.memory)) (and_then (λ body. begins symbol body (map (λ n. val.Num n) args)) (or_stuck (body_of p symbol))) (λ f. some_calls f []))

-- At the start none is.
pub idle : (p : ProgramData) (s : StateData) → start p ≡ Gives s → s.frames ≡ []
idle p s e = where_is Idle (start p) s e (where_then Idle (λ (mem : MemoryData). Gives (state [] mem)) (or_stuck (memory.start p)) (λ mem. refl))
