-- Calls: the callee is as is read, or the call goes on behind its instruction.
use Rattle.std.proofs.Common.{◌≡◌, ◌∙◌, Bool, List, ◌∷◌, All, slice_get, Option, Some, None, refl, sym, ap, subst}
use Rattle.ir_types.specs.declared.scalar.Ext.{Ext}
use Rattle.ir_types.specs.declared.scalar.FnType.{FnType}
use Rattle.ir_syntax.specs.declared.symbol.Sym.{Sym}
use Rattle.ir_syntax.specs.declared.symbol.Target.{Target}
use Rattle.ir_syntax.specs.declared.symbol.Target.TheVariants as target
use Rattle.ir_syntax.specs.declared.constant.Operand.{Operand}
use Rattle.ir_syntax.specs.declared.body.Arg.{Arg}
use Rattle.ir_syntax.specs.declared.body.Inst.TheVariants.{Call}
use Rattle.ir_syntax.specs.declared.body.Block.{Block}
use Rattle.ir_syntax.specs.declared.body.Body.{Body}
use Rattle.ir_syntax.specs.declared.item.Func.{Func}
use Rattle.ir_syntax.specs.declared.item.Item.TheVariants as item
use Rattle.ir_syntax.specs.Builtins.{type_of_builtin}
use Rattle.ir_syntax.specs.FunctionTypes.{type_of}
use Rattle.ir_syntax.specs.Programs.{ProgramData, IsProgram}
use Rattle.ir_syntax.specs.Symbols.{item_at}
use Rattle.ir_syntax.specs.Targets.{entry_at}
use Rattle.int_ops.specs.declared.cause.Cause.TheVariants as cause
use Rattle.block_memory.specs.declared.value.Val.{Val}
use Rattle.block_memory.specs.Answers.{Gives, Undefined, and_then, or_stuck}
use Rattle.ir_steps.specs.declared.session.Reply.{Reply}
use Rattle.ir_steps.specs.States.{Frame, Point}
use Rattle.ir_steps.specs.Operands.{value, values}
use Rattle.ir_steps.specs.Results.{Next, went}
use Rattle.ir_steps.specs.Showing.{no_poison}
use Rattle.ir_steps.specs.Builtins.{builtin_call}
use Rattle.ir_steps.specs.Calls.{callee_of, function_at, same_type, begins_at, body_of, enters_function, outside_call, call_of, call_as, call}
use Rattle.ir_steps.proofs.CallingTypes.{type_same}
use Rattle.known_values.specs.Readings.{Reading, IsReading}
use Rattle.known_values.specs.Frames.{IsFrameAs}
use Rattle.known_values.specs.Views.{call_demand, view}
use Rattle.known_values.proofs.Giving.{IfGives, gives_any, gives_of, gives_read, gives_when}
use Rattle.known_values.proofs.Slots.{next_is}
use Rattle.known_values.proofs.GoingOn.{IsAt, GoesOn}
use Rattle.known_values.proofs.Outside.{Stays, Ends, builtin_on, intrinsic_on, outside_on}
use Rattle.known_values.proofs.Targets.{function_is, target_is, type_of_builtin_is, intrinsic_returns}
use Rattle.known_values.proofs.Found.{read_as}
use Rattle.known_values.proofs.Beginning.{begun_of}
use Rattle.known_values.proofs.Callees.{Calls, arg_operands, callee_called}

-- ---- the callee

-- A callee that begins is as its caller's instruction asks for it.
callee_as : (p : ProgramData) → IsProgram p → (cycles : List (List Bool)) (readings : List Reading) → All (IsReading p) readings → (kind : Option Reading) (at : Point) (fn_ty : FnType) (ret_ext : Ext) (callee : Operand) (args : List Arg)
    (xs : List (Val Sym)) (of : Sym) (body : Body) (first : Block) → IsAt p kind at (Call fn_ty ret_ext callee args) → Calls p at.frame fn_ty callee args xs of body → slice_get body.blocks 0 ≡ Some first
    → IsFrameAs p ((view p cycles readings).of_call kind (Call fn_ty ret_ext callee args) of) (begins_at of body xs first)
callee_as p program cycles readings all None at fn_ty ret_ext callee args xs of body first here c e = tt
callee_as p program cycles readings all (Some r) at fn_ty ret_ext callee args xs of body first here c e =
    let inst = Call fn_ty ret_ext callee args in
    read_as p readings (call_demand p cycles r inst of) (begins_at of body xs first) all (λ to into is.
    let next = next_is here.frame.1.block.insts here.frame.1.done inst at.behind (sym here.frame.1.rest ∙ here.rest) in
    let called = callee_called p program cycles r to at.frame fn_ty ret_ext callee args xs of body here.frame.0 here.frame.1 next.at c into is in
    begun_of p to of body xs first into called.symbol c.has e called.suit)

-- ---- what a call leads to

-- What holds of each call that begins.
abbrev pub IsDeeper : ProgramData → List (List Bool) → List Reading → (Next → Type 0) → Option Reading → Point → FnType → Ext → Operand → List Arg → Type 0
IsDeeper p cycles readings Q kind at fn_ty ret_ext callee args =
    (g : Frame) → IsFrameAs p ((view p cycles readings).of_call kind (Call fn_ty ret_ext callee args) g.func) g → Q (went (g ∷ at.frame ∷ at.below) at.memory)

-- A call at hand, in a program, where the calls of readings lead on.
pub record IsCalling (p : ProgramData) (cycles : List (List Bool)) (readings : List Reading) (Q : Next → Type 0) (kind : Option Reading) (at : Point) (fn_ty : FnType) (ret_ext : Ext) (callee : Operand) (args : List Arg) : Type 0 where
  pub program : IsProgram p
  pub all : All (IsReading p) readings
  pub here : IsAt p kind at (Call fn_ty ret_ext callee args)
  pub goes : GoesOn Q at fn_ty.returns
  pub stays : Stays Q at
  pub ends : Ends Q
  pub deeper : IsDeeper p cycles readings Q kind at fn_ty ret_ext callee args

-- the function that is called, with the values of its arguments
record IsOf (p : ProgramData) (at : Point) (fn_ty : FnType) (callee : Operand) (args : List Arg) (xs : List (Val Sym)) (symbol : Sym) (func : Func) : Type 0 where
  reads : and_then callee_of (value p at.frame callee) ≡ Gives symbol
  values_are : values p at.frame (arg_operands args) ≡ Gives xs
  stands : item_at p.modules symbol ≡ Some (item.Func func)
  same : type_of func ≡ fn_ty

definition_on : (p : ProgramData) (cycles : List (List Bool)) (readings : List Reading) (Q : Next → Type 0) (kind : Option Reading) (at : Point) (fn_ty : FnType) (ret_ext : Ext) (callee : Operand) (args : List Arg) (xs : List (Val Sym)) (symbol : Sym)
    (func : Func) (of : Sym) → IsCalling p cycles readings Q kind at fn_ty ret_ext callee args → IsOf p at fn_ty callee args xs symbol func → entry_at p.targets symbol ≡ Some (target.Def of)
    → IfGives Q (and_then (enters_function at of xs) (or_stuck (body_of p of)))
definition_on p cycles readings Q kind at fn_ty ret_ext callee args xs symbol func of c is to =
    gives_read Q (enters_function at of xs) (body_of p of) (λ body has. enters body has)
  where
    calls : (body : Body) → body_of p of ≡ Some body → Calls p at.frame fn_ty callee args xs of body
    calls body has = record { symbol = symbol; reads = is.reads; values_are = is.values_are; func = func; stands = is.stands; same = is.same; to = to; has = has }

    enters_at : (body : Body) → body_of p of ≡ Some body → (o : Option Block) → slice_get body.blocks 0 ≡ o
        → IfGives Q (and_then (λ (f : Frame). Gives (went (f ∷ (at.frame ∷ at.below)) at.memory)) (and_then (λ (first : Block). Gives (begins_at of body xs first)) (or_stuck o)))
    enters_at body has None e = tt
    enters_at body has (Some first) e =
        c.deeper (begins_at of body xs first) (callee_as p c.program cycles readings c.all kind at fn_ty ret_ext callee args xs of body first c.here (calls body has) e)

    enters : (body : Body) → body_of p of ≡ Some body → IfGives Q (enters_function at of xs body)
    enters body has = enters_at body has (slice_get body.blocks 0) refl

-- By what the function stands for.
target_on : (p : ProgramData) (cycles : List (List Bool)) (readings : List Reading) (Q : Next → Type 0) (kind : Option Reading) (at : Point) (fn_ty : FnType) (ret_ext : Ext) (callee : Operand) (args : List Arg) (xs : List (Val Sym)) (given : Option Reply)
    (symbol : Sym) (func : Func) (to : Target) → IsCalling p cycles readings Q kind at fn_ty ret_ext callee args → IsOf p at fn_ty callee args xs symbol func → entry_at p.targets symbol ≡ Some to
    → IfGives Q (call_of p at fn_ty xs given func to)
target_on p cycles readings Q kind at fn_ty ret_ext callee args xs given symbol func (target.Def of) c is to = definition_on p cycles readings Q kind at fn_ty ret_ext callee args xs symbol func of c is to
target_on p cycles readings Q kind at fn_ty ret_ext callee args xs given symbol func target.Outside c is to =
    gives_any Q (λ fine. outside_call p at func.name fn_ty xs given) (no_poison xs) (λ fine. outside_on p Q at func.name fn_ty xs given c.stays c.goes)
target_on p cycles readings Q kind at fn_ty ret_ext callee args xs given symbol func (target.Builtin of) c is to =
    let ty : fn_ty ≡ type_of_builtin of = sym is.same ∙ type_of_builtin_is p c.program symbol func of is.stands (target_is p c.program symbol (item.Func func) (target.Builtin of) is.stands to) in
    gives_any Q (λ fine. builtin_call p at fn_ty given xs of) (no_poison xs)
    (λ fine. builtin_on p Q at fn_ty given xs of c.stays c.ends (subst (GoesOn Q at) (ap (λ (t : FnType). t.returns) ty) c.goes))
target_on p cycles readings Q kind at fn_ty ret_ext callee args xs given symbol func (target.Intrinsic of) c is to =
    let returns : fn_ty.returns ≡ None = sym (ap (λ (t : FnType). t.returns) is.same)
    ∙ intrinsic_returns p c.program symbol func of is.stands (target_is p c.program symbol (item.Func func) (target.Intrinsic of) is.stands to) in
    intrinsic_on Q at xs of (subst (GoesOn Q at) returns c.goes)
target_on p cycles readings Q kind at fn_ty ret_ext callee args xs given symbol func target.Nothing c is to = tt

-- ---- the call

pub call_leads : (p : ProgramData) (cycles : List (List Bool)) (readings : List Reading) (Q : Next → Type 0) (kind : Option Reading) (at : Point) (fn_ty : FnType) (ret_ext : Ext) (callee : Operand) (args : List Arg) (given : Option Reply)
    → IsCalling p cycles readings Q kind at fn_ty ret_ext callee args → IfGives Q (call p at fn_ty callee args given)
call_leads p cycles readings Q kind at fn_ty ret_ext callee args given c =
    gives_of Q (λ symbol. and_then (λ xs. and_then (call_as p at fn_ty xs given symbol) (or_stuck (function_at p symbol))) (values p at.frame (arg_operands args))) (and_then callee_of (value p at.frame callee))
    (λ symbol reads. gives_of Q (λ xs. and_then (call_as p at fn_ty xs given symbol) (or_stuck (function_at p symbol))) (values p at.frame (arg_operands args))
    (λ xs values_are. gives_read Q (call_as p at fn_ty xs given symbol) (function_at p symbol)
    (λ func is. gives_when Q (same_type (type_of func) fn_ty) (and_then (call_of p at fn_ty xs given func) (or_stuck (entry_at p.targets symbol))) (Undefined cause.CallType)
    (λ same. gives_read Q (call_of p at fn_ty xs given func) (entry_at p.targets symbol)
    (λ to stands. target_on p cycles readings Q kind at fn_ty ret_ext callee args xs given symbol func to c
    (record { reads = reads; values_are = values_are; stands = function_is p symbol func is; same = type_same (type_of func) fn_ty same }) stands))
    (λ other. tt))))
