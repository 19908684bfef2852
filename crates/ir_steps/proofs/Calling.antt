-- A call is safe: its function may be called, and its arguments are of the function's type.
use Rattle.std.proofs.Common.{◌≡◌, ◌≢◌, ◌∙◌, ℕ, zero, suc, pos, negsuc, false, List, ◌∷◌, length, map, All, IsSome, Option, Some, None, option_and_then, refl, sym, ap, subst, arith}
use Rattle.std.proofs.lemmas.Bool.{false≢true}
use Rattle.std.proofs.lemmas.List.{take_all}
use Rattle.ir_types.specs.declared.scalar.Scalar.{Scalar}
use Rattle.ir_types.specs.declared.scalar.Scalar.TheVariants.{Ptr}
use Rattle.ir_types.specs.declared.scalar.FnType.{FnType}
use Rattle.ir_syntax.specs.declared.symbol.Sym.{Sym}
use Rattle.ir_syntax.specs.declared.symbol.Target.{Target}
use Rattle.ir_syntax.specs.declared.symbol.Target.TheVariants as target
use Rattle.ir_syntax.specs.declared.symbol.Builtin.{Builtin}
use Rattle.ir_syntax.specs.declared.symbol.Builtin.TheVariants as builtin
use Rattle.ir_syntax.specs.declared.symbol.Intrinsic.{Intrinsic}
use Rattle.ir_syntax.specs.declared.symbol.Intrinsic.TheVariants as intrinsic
use Rattle.ir_syntax.specs.declared.constant.Operand.{Operand}
use Rattle.ir_syntax.specs.declared.body.Arg.{Arg}
use Rattle.ir_syntax.specs.declared.body.Inst.{Inst}
use Rattle.ir_syntax.specs.declared.body.Body.{Body}
use Rattle.ir_syntax.specs.declared.item.Func.{Func}
use Rattle.ir_syntax.specs.declared.item.Item.TheVariants as item
use Rattle.ir_syntax.specs.Builtins.{type_of_builtin}
use Rattle.ir_syntax.specs.Intrinsics.{type_of_intrinsic}
use Rattle.ir_syntax.specs.FunctionTypes.{type_of}
use Rattle.ir_syntax.specs.Programs.{ProgramData, IsProgram}
use Rattle.ir_syntax.specs.Results.{result_type}
use Rattle.ir_syntax.specs.Symbols.{item_at}
use Rattle.ir_syntax.specs.Targets.{entry_at}
use Rattle.ir_syntax.specs.Typed.{Types, TypedCall}
use Rattle.int_ops.specs.declared.cause.Cause.TheVariants as cause
use Rattle.block_memory.specs.declared.value.Name.TheVariants as name
use Rattle.block_memory.specs.declared.value.Val.{Val}
use Rattle.block_memory.specs.declared.value.Val.TheVariants as val
use Rattle.block_memory.specs.Answers.{Gives, Undefined, and_then, or_stuck}
use Rattle.ir_steps.specs.declared.session.Reply.{Reply}
use Rattle.ir_steps.specs.States.{Frame, Point}
use Rattle.ir_steps.specs.Operands.{value_in, value, values}
use Rattle.ir_steps.specs.Results.{went}
use Rattle.ir_steps.specs.Showing.{no_poison}
use Rattle.ir_steps.specs.Builtins.{builtin_call}
use Rattle.ir_steps.specs.Calls.{callee_of, func_of, function_at, same_type, begins, body_of, enters_function, outside_call, call_of, call_as, call}
use Rattle.ir_steps.proofs.Fits.{Answers, IsCallable, IsValue, IsCalling, returns_at}
use Rattle.ir_steps.proofs.Showing.{shown_all_safe, no_poison_safe}
use Rattle.ir_steps.proofs.Values.{AreValues, zip_maps, some_values}
use Rattle.ir_steps.proofs.Evaluating.{IsRead, values_safe}
use Rattle.ir_steps.proofs.Copied.{intrinsic_safe}
use Rattle.ir_steps.proofs.ReplyingBuiltins.{Stays, Ends, builtin_safe}
use Rattle.ir_steps.proofs.ReplyingCalls.{outside_safe}
use Rattle.ir_steps.proofs.FramesSound.{sound}
use Rattle.ir_steps.proofs.FramesKept.{NextFits, AtPoint, goes_on_later}
use Rattle.ir_steps.proofs.Entering.{Begun, begins_safe}
use Rattle.ir_steps.proofs.Returning.{returns_is}
use Rattle.ir_steps.proofs.CallingTypes.{type_same}
use Rattle.ir_steps.proofs.Safely.{Safe, safe_then, safe_when, safe_read}

-- ---- the function that is called

callee_safe : (p : ProgramData) (made : ℕ) (v : Val Sym) → IsValue p made Ptr v → Safe (IsCallable p) (callee_of v)
callee_safe p made (val.Num n) h = false≢true h
callee_safe p made val.Null h = tt
callee_safe p made (val.At (name.Var symbol) offset) h = tt
callee_safe p made (val.At (name.Func symbol) (pos zero)) h = h.1
callee_safe p made (val.At (name.Func symbol) (pos (suc n))) h = tt
callee_safe p made (val.At (name.Func symbol) (negsuc n)) h = tt
callee_safe p made (val.At (name.Made number) offset) h = tt
callee_safe p made val.Poison h = tt

-- ---- arguments

abbrev pub types_of_args : List Arg → List Scalar
types_of_args args = map (λ (arg : Arg). arg.ty) args

args_safe : (p : ProgramData) (made : ℕ) (f : Frame) (args : List Arg) → All (λ (arg : Arg). IsRead p made f arg.ty arg.value) args → Safe (AreValues p made (types_of_args args)) (values p f (map (λ (arg : Arg). arg.value) args))
args_safe p made f args h =
    values_safe p f made (types_of_args args) (map (λ (arg : Arg). arg.value) args) (zip_maps (IsRead p made f) (λ (arg : Arg). arg.ty) (λ (arg : Arg). arg.value) args h)

-- Without `...` the arguments have just the written types.
args_fixed : (types : Types) (fn_ty : FnType) (callee : Operand) (args : List Arg) → TypedCall types fn_ty callee args → fn_ty.variadic ≡ false → types_of_args args ≡ fn_ty.params
args_fixed types fn_ty callee args typed fixed =
    let count = typed.no_more fixed in
    ap types_of_args (sym (take_all (length fn_ty.params) args (omega (arith, count)))) ∙ typed.fixed

-- ---- calls that leave the program

stays : (p : ProgramData) (at : Point) (i : Inst) → AtPoint p at i → Stays (NextFits p) at
stays p at i h a = record { memory = h.memory; frames = (h.slot.fits, h.waits) }

ends : (p : ProgramData) (at : Point) (i : Inst) → AtPoint p at i → Ends (NextFits p) at
ends p at i h a = record { memory = h.memory; frames = tt }

-- ---- functions of the program

-- The caller waits, with its call at the head.
enters_safe : (p : ProgramData) → IsProgram p → (at : Point) (i : Inst) (symbol : Sym) (func : Func) (body : Body) (args : List (Val Sym)) → AtPoint p at i → IsCalling func.returns (i ∷ at.behind)
    → item_at p.modules symbol ≡ Some (item.Func func) → func.body ≡ Some body → AreValues p (length at.memory.made) (map (λ param. param.ty) func.params) args → Safe (NextFits p) (enters_function at symbol args body)
enters_safe p program at i symbol func body args h calling is has vs =
    let made = length at.memory.made in
    let waiting : IsCalling (returns_at p symbol) at.frame.rest = subst (IsCalling (returns_at p symbol)) (sym h.slot.rest) (subst (λ t. IsCalling t (i ∷ at.behind)) (sym (returns_is p symbol func is)) calling) in
    safe_then (Begun p made symbol) (NextFits p) (λ f. Gives (went (f ∷ (at.frame ∷ at.below)) at.memory)) (begins symbol body args) (begins_safe p made symbol func body args is has (sound p symbol func body program is has) vs)
    (λ f begun. record {
      memory = h.memory;
      frames = (begun.fits, (h.slot.fits, subst (λ s. IsCalling (returns_at p s) at.frame.rest) (sym begun.func) waiting, h.waits));
    })

-- ---- by what the function stands for

-- A call, with values for its arguments, of a function of the type that it has written.
record Called (p : ProgramData) (at : Point) (i : Inst) (fn_ty : FnType) (args : List (Val Sym)) (tys : List Scalar) (symbol : Sym) (func : Func) : Type 0 where
  point : AtPoint p at i
  returned : result_type i ≡ fn_ty.returns
  calling : IsCalling fn_ty.returns (i ∷ at.behind)
  are : AreValues p (length at.memory.made) tys args
  fixed : fn_ty.variadic ≡ false → tys ≡ fn_ty.params
  is : item_at p.modules symbol ≡ Some (item.Func func)
  same : type_of func ≡ fn_ty

function_is : (p : ProgramData) (symbol : Sym) (func : Func) → item_at p.modules symbol ≡ Some (item.Func func) → function_at p symbol ≡ Some func
function_is p symbol func e = ap (option_and_then func_of) e

-- of a type that is known, without `...`
fixed_values : (p : ProgramData) (made : ℕ) (fn_ty : FnType) (args : List (Val Sym)) (tys : List Scalar) (other : FnType) → AreValues p made tys args → (fn_ty.variadic ≡ false → tys ≡ fn_ty.params) → fn_ty ≡ other → other.variadic ≡ false → AreValues p made other.params args
fixed_values p made fn_ty args tys other are fixed e none =
    subst (λ ts. AreValues p made ts args) (fixed (ap (λ (t : FnType). t.variadic) e ∙ none) ∙ ap (λ (t : FnType). t.params) e) are

builtin_fixed : (of : Builtin) → (type_of_builtin of).variadic ≡ false
builtin_fixed builtin.Malloc = refl
builtin_fixed builtin.Calloc = refl
builtin_fixed builtin.Free = refl
builtin_fixed builtin.Exit = refl
builtin_fixed builtin.Abort = refl

intrinsic_fixed : (of : Intrinsic) → (type_of_intrinsic of).variadic ≡ false
intrinsic_fixed intrinsic.Memcpy = refl
intrinsic_fixed intrinsic.Memmove = refl
intrinsic_fixed intrinsic.Memset = refl

defined_safe : (p : ProgramData) → IsProgram p → (at : Point) (i : Inst) (fn_ty : FnType) (args : List (Val Sym)) (tys : List Scalar) (symbol : Sym) (func : Func) (o : Option Body) → func.body ≡ o → IsSome o
    → Called p at i fn_ty args tys symbol func → Safe (NextFits p) (and_then (enters_function at symbol args) (or_stuck o))
defined_safe p program at i fn_ty args tys symbol func None has some c = absurd (false≢true some)
defined_safe p program at i fn_ty args tys symbol func (Some body) has some c =
    let s = sound p symbol func body program c.is has in
    let vs = fixed_values p (length at.memory.made) fn_ty args tys (type_of func) c.are c.fixed (sym c.same) s.fixed in
    enters_safe p program at i symbol func body args c.point (subst (λ t. IsCalling t (i ∷ at.behind)) (sym (ap (λ (t : FnType). t.returns) c.same)) c.calling) c.is has vs

call_of_safe : (p : ProgramData) → IsProgram p → (at : Point) (i : Inst) (fn_ty : FnType) (args : List (Val Sym)) (tys : List Scalar) (given : Option Reply) (symbol : Sym) (func : Func) (to : Target) → Called p at i fn_ty args tys symbol func
    → Answers symbol func to → Safe (NextFits p) (call_of p at fn_ty args given func to)
call_of_safe p program at i fn_ty args tys given symbol func (target.Def of) c answers =
    let body_at : body_of p symbol ≡ func.body = ap (option_and_then (λ (f : Func). f.body)) (function_is p symbol func c.is) in
    subst (λ s. Safe (NextFits p) (and_then (enters_function at s args) (or_stuck (body_of p s)))) (sym answers.0)
    (subst (λ o. Safe (NextFits p) (and_then (enters_function at symbol args) (or_stuck o))) (sym body_at) (defined_safe p program at i fn_ty args tys symbol func func.body refl answers.1 c))
call_of_safe p program at i fn_ty args tys given symbol func target.Outside c answers =
    let N = NextFits p in
    let fits = c.point.memory in
    let some = some_values p (length at.memory.made) tys args c.are in
    safe_then (λ fine. All (λ v. v ≢ val.Poison) args) N (λ fine. outside_call p at func.name fn_ty args given) (no_poison args) (no_poison_safe args)
    (λ fine none. outside_safe p N at func.name fn_ty args given fits some (shown_all_safe p at.memory fits args some) (stays p at i c.point) (goes_on_later p at i fn_ty.returns c.point c.returned))
call_of_safe p program at i fn_ty args tys given symbol func (target.Builtin of) c answers =
    let N = NextFits p in
    let fits = c.point.memory in
    let is_type : fn_ty ≡ type_of_builtin of = sym c.same ∙ answers in
    let vs = fixed_values p (length at.memory.made) fn_ty args tys (type_of_builtin of) c.are c.fixed is_type (builtin_fixed of) in
    safe_then (λ fine. All (λ v. v ≢ val.Poison) args) N (λ fine. builtin_call p at fn_ty given args of) (no_poison args) (no_poison_safe args)
    (λ fine none. builtin_safe p N at fn_ty given args of fits vs none (shown_all_safe p at.memory fits args (some_values p (length at.memory.made) tys args c.are)) (stays p at i c.point) (ends p at i c.point)
    (goes_on_later p at i (type_of_builtin of).returns c.point (c.returned ∙ ap (λ (t : FnType). t.returns) is_type)))
call_of_safe p program at i fn_ty args tys given symbol func (target.Intrinsic of) c answers =
    let is_type : fn_ty ≡ type_of_intrinsic of = sym c.same ∙ answers in
    let vs = fixed_values p (length at.memory.made) fn_ty args tys (type_of_intrinsic of) c.are c.fixed is_type (intrinsic_fixed of) in
    intrinsic_safe p (NextFits p) at args of c.point.memory vs (goes_on_later p at i (type_of_intrinsic of).returns c.point (c.returned ∙ ap (λ (t : FnType). t.returns) is_type))
call_of_safe p program at i fn_ty args tys given symbol func target.Nothing c answers = absurd answers

-- ---- the call

call_as_safe : (p : ProgramData) → IsProgram p → (at : Point) (i : Inst) (fn_ty : FnType) (args : List (Val Sym)) (tys : List Scalar) (given : Option Reply) (symbol : Sym) → (callable : IsCallable p symbol)
    → AtPoint p at i → result_type i ≡ fn_ty.returns → IsCalling fn_ty.returns (i ∷ at.behind) → AreValues p (length at.memory.made) tys args → (fn_ty.variadic ≡ false → tys ≡ fn_ty.params)
    → Safe (NextFits p) (call_as p at fn_ty args given symbol callable.func)
call_as_safe p program at i fn_ty args tys given symbol callable h e calling are fixed =
    let func = callable.func in
    safe_when (NextFits p) (same_type (type_of func) fn_ty) (and_then (call_of p at fn_ty args given func) (or_stuck (entry_at p.targets symbol))) (Undefined cause.CallType)
    (λ yes.
    let called : Called p at i fn_ty args tys symbol func = record { point = h; returned = e; calling = calling; are = are; fixed = fixed; is = callable.is; same = type_same (type_of func) fn_ty yes } in
    subst (λ o. Safe (NextFits p) (and_then (call_of p at fn_ty args given func) (or_stuck o))) (sym callable.stands) (call_of_safe p program at i fn_ty args tys given symbol func callable.to called callable.answers))
    (λ other. tt)

-- A call at the head of a frame that reads its callee and its arguments.
pub call_safe : (p : ProgramData) → IsProgram p → (at : Point) (i : Inst) (types : Types) (fn_ty : FnType) (callee : Operand) (args : List Arg) (given : Option Reply) → AtPoint p at i → result_type i ≡ fn_ty.returns → IsCalling fn_ty.returns (i ∷ at.behind)
    → TypedCall types fn_ty callee args → IsRead p (length at.memory.made) at.frame Ptr callee → All (λ (arg : Arg). IsRead p (length at.memory.made) at.frame arg.ty arg.value) args
    → Safe (NextFits p) (call p at fn_ty callee args given)
call_safe p program at i types fn_ty callee args given h e calling typed reads_callee reads_args =
    let made = length at.memory.made in
    let arg_operands = map (λ (arg : Arg). arg.value) args in
    safe_then (IsCallable p) (NextFits p) (λ symbol. and_then (λ xs. and_then (call_as p at fn_ty xs given symbol) (or_stuck (function_at p symbol))) (values p at.frame arg_operands)) (and_then callee_of (value p at.frame callee))
    (safe_read (IsValue p made Ptr) (IsCallable p) callee_of (value_in p at.frame callee) reads_callee (λ v hv. callee_safe p made v hv))
    (λ symbol callable. safe_then (AreValues p made (types_of_args args)) (NextFits p) (λ xs. and_then (call_as p at fn_ty xs given symbol) (or_stuck (function_at p symbol))) (values p at.frame arg_operands) (args_safe p made at.frame args reads_args)
    (λ xs hxs. subst (λ o. Safe (NextFits p) (and_then (call_as p at fn_ty xs given symbol) (or_stuck o))) (sym (function_is p symbol callable.func callable.is))
    (call_as_safe p program at i fn_ty xs (types_of_args args) given symbol callable h e calling hxs (args_fixed types fn_ty callee args typed))))
