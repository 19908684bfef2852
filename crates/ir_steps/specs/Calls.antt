-- Calls (LLVM Language Reference Manual, "'call' Instruction"). The callee is looked at first, then its type, then, where the call leaves the
-- program, whether an argument is poison.
use Rattle.std.specs.Prelude.{ℕ, zero, Bool, true, false, ◌&&◌, not, pos, List, [], ◌∷◌, map, length, replicate, slice_get, Option, Some, None, option_and_then, if◌then◌else◌}
use Rattle.ir_types.specs.declared.scalar.Scalar.{Scalar}
use Rattle.ir_types.specs.declared.scalar.FnType.{FnType}
use Rattle.ir_types.specs.Scalars.{same}
use Rattle.ir_syntax.specs.declared.symbol.Sym.{Sym}
use Rattle.ir_syntax.specs.declared.symbol.Target.{Target}
use Rattle.ir_syntax.specs.declared.symbol.Target.TheVariants as target
use Rattle.ir_syntax.specs.declared.constant.Operand.{Operand}
use Rattle.ir_syntax.specs.declared.body.Arg.{Arg}
use Rattle.ir_syntax.specs.declared.body.Block.{Block}
use Rattle.ir_syntax.specs.declared.body.Body.{Body}
use Rattle.ir_syntax.specs.declared.item.Func.{Func}
use Rattle.ir_syntax.specs.declared.item.Item.{Item}
use Rattle.ir_syntax.specs.declared.item.Item.TheVariants as item
use Rattle.ir_syntax.specs.FunctionTypes.{type_of}
use Rattle.ir_syntax.specs.Results.{results}
use Rattle.ir_syntax.specs.Programs.{ProgramData}
use Rattle.ir_syntax.specs.Symbols.{item_at}
use Rattle.ir_syntax.specs.Targets.{entry_at}
use Rattle.int_ops.specs.declared.cause.Cause.TheVariants as cause
use Rattle.block_memory.specs.declared.value.Name.TheVariants as name
use Rattle.block_memory.specs.declared.value.Val.{Val}
use Rattle.block_memory.specs.declared.value.Val.TheVariants as val
use Rattle.block_memory.specs.Answers.{Answer, Gives, Undefined, Stuck, and_then, or_stuck}
use Rattle.ir_steps.specs.declared.session.Shown.{Shown}
use Rattle.ir_steps.specs.declared.session.Reply.{Reply}
use Rattle.ir_steps.specs.declared.session.Reply.TheVariants as reply
use Rattle.ir_steps.specs.States.{Frame, Point}
use Rattle.ir_steps.specs.Operands.{value, values}
use Rattle.ir_steps.specs.Results.{Next, went, goes_on}
use Rattle.ir_steps.specs.Showing.{shown_all, no_poison}
use Rattle.ir_steps.specs.Replies.{bad, replied, write_all}
use Rattle.ir_steps.specs.Builtins.{wants, builtin_call}
use Rattle.ir_steps.specs.Copying.{intrinsic_call}

-- ---- the function that is called

-- The address of a function's block, at offset 0.
abbrev pub callee_of : Val Sym → Answer Sym
callee_of (val.Num n) = Stuck
callee_of val.Null = Undefined cause.BadCall
callee_of (val.At (name.Func symbol) (pos zero)) = Gives symbol
callee_of (val.At of offset) = Undefined cause.BadCall
callee_of val.Poison = Undefined cause.BadCall

abbrev pub func_of : Item → Option Func
func_of (item.Var var) = None
func_of (item.Func func) = Some func

abbrev pub function_at : ProgramData → Sym → Option Func
function_at p symbol = option_and_then func_of (item_at p.modules symbol)

-- ---- whether two types of functions are one

abbrev pub same_types : List Scalar → List Scalar → Bool
same_types [] [] = true
same_types [] (b ∷ bs) = false
same_types (a ∷ more) [] = false
same_types (a ∷ more) (b ∷ bs) = same a b && same_types more bs

abbrev pub same_return : Option Scalar → Option Scalar → Bool
same_return None None = true
same_return None (Some b) = false
same_return (Some a) None = false
same_return (Some a) (Some b) = same a b

abbrev pub same_truth : Bool → Bool → Bool
same_truth true b = b
same_truth false b = not b

abbrev pub same_type : FnType → FnType → Bool
same_type a b = same_types a.params b.params && same_truth a.variadic b.variadic && same_return a.returns b.returns

-- ---- defined functions

-- A call begins at the head of the first block, with no result set.
abbrev pub begins_at : Sym → Body → List (Val Sym) → Block → Frame
begins_at symbol body args first =
    record { func = symbol; block = 0; rest = first.insts; last = first.term; args = args; results = replicate (length (results body)) None; next = length first.phis; allocas = [] }

abbrev pub begins : Sym → Body → List (Val Sym) → Answer Frame
begins symbol body args = and_then (λ first. Gives (begins_at symbol body args first)) (or_stuck (slice_get body.blocks 0))

abbrev pub body_of : ProgramData → Sym → Option Body
body_of p symbol = option_and_then (λ func. func.body) (function_at p symbol)

-- the caller waits, with the call at its head
abbrev pub enters_function : Point → Sym → List (Val Sym) → Body → Answer Next
enters_function at symbol args body = and_then (λ f. Gives (went (f ∷ (at.frame ∷ at.below)) at.memory)) (begins symbol body args)

-- ---- functions outside

abbrev pub give : Point → FnType → List (Val Sym) → Reply → Answer Next
give at fn_ty args (reply.Grant granting) = bad
give at fn_ty args (reply.Give v writes) =
    and_then (λ result. and_then (λ mem. goes_on (record at { memory = mem }) result) (write_all args writes at.memory)) (replied args fn_ty.returns v)

abbrev pub outside_with : Point → List ℕ → FnType → List (Val Sym) → Option Reply → List Shown → Answer Next
outside_with at called fn_ty args None shown = wants at called fn_ty shown
outside_with at called fn_ty args (Some r) shown = give at fn_ty args r

abbrev pub outside_call : ProgramData → Point → List ℕ → FnType → List (Val Sym) → Option Reply → Answer Next
outside_call p at called fn_ty args given = and_then (outside_with at called fn_ty args given) (shown_all p at.memory args)

-- ---- by what the function stands for. Nothing that is named stands for nothing.

abbrev pub call_of : ProgramData → Point → FnType → List (Val Sym) → Option Reply → Func → Target → Answer Next
call_of p at fn_ty args given func (target.Def symbol) = and_then (enters_function at symbol args) (or_stuck (body_of p symbol))
call_of p at fn_ty args given func target.Outside = and_then (λ fine. outside_call p at func.name fn_ty args given) (no_poison args)
call_of p at fn_ty args given func (target.Builtin of) = and_then (λ fine. builtin_call p at fn_ty given args of) (no_poison args)
call_of p at fn_ty args given func (target.Intrinsic of) = intrinsic_call at args of
call_of p at fn_ty args given func target.Nothing = Stuck

abbrev pub call_as : ProgramData → Point → FnType → List (Val Sym) → Option Reply → Sym → Func → Answer Next
call_as p at fn_ty args given symbol func =
    if same_type (type_of func) fn_ty then and_then (call_of p at fn_ty args given func) (or_stuck (entry_at p.targets symbol)) else Undefined cause.CallType

abbrev pub call : ProgramData → Point → FnType → Operand → List Arg → Option Reply → Answer Next
call p at fn_ty callee args given =
    and_then (λ symbol. and_then (λ xs. and_then (call_as p at fn_ty xs given symbol) (or_stuck (function_at p symbol))) (values p at.frame (map (λ (a : Arg). a.value) args)))
    (and_then callee_of (value p at.frame callee))
