-- One step: an instruction or a terminator of the innermost call.
use Rattle.std.specs.Prelude.{◌≡◌, ℕ, suc, ◌+◌, ◌%◌, ◌^◌, pos, Bool, ◌||◌, List, [], ◌∷◌, slice_get, Option, Some, None, option_map, option_and_then, if◌then◌else◌}
use Rattle.std.specs.Ordering.{int_eq}
use Rattle.ir_types.specs.declared.scalar.Scalar.{Scalar}
use Rattle.ir_types.specs.declared.scalar.Scalar.TheVariants as scalar
use Rattle.ir_types.specs.declared.scalar.BinOp.{BinOp}
use Rattle.ir_types.specs.declared.scalar.BinOp.TheVariants as op
use Rattle.ir_types.specs.declared.scalar.Flags.{Flags}
use Rattle.ir_syntax.specs.declared.symbol.SymName.{SymName}
use Rattle.ir_syntax.specs.declared.constant.Const.{Const}
use Rattle.ir_syntax.specs.declared.constant.Const.TheVariants as const
use Rattle.ir_syntax.specs.declared.constant.Operand.{Operand}
use Rattle.ir_syntax.specs.declared.constant.Operand.TheVariants as operand
use Rattle.ir_syntax.specs.declared.body.Arg.{Arg}
use Rattle.ir_syntax.specs.declared.body.Inst.{Inst}
use Rattle.ir_syntax.specs.declared.body.Inst.TheVariants as inst
use Rattle.ir_syntax.specs.declared.body.Term.{Term}
use Rattle.ir_syntax.specs.declared.body.Term.TheVariants as term
use Rattle.ir_syntax.specs.declared.body.Block.{Block}
use Rattle.ir_syntax.specs.declared.body.Body.{Body}
use Rattle.ir_syntax.specs.declared.item.Item.{Item}
use Rattle.ir_syntax.specs.declared.item.Item.TheVariants as item
use Rattle.ir_syntax.specs.declared.item.Module.{Module}
use Rattle.straight_meaning.specs.declared.value.Val.{Val}
use Rattle.straight_meaning.specs.declared.value.Val.TheVariants as val
use Rattle.straight_meaning.specs.declared.session.Stepped.{Stepped}
use Rattle.straight_meaning.specs.declared.session.Stepped.TheVariants as stepped
use Rattle.straight_meaning.specs.State.{Value, Register, register, Frame, Memory, State}

-- the value of an operand: integers are the only constants of the form
abbrev pub constant_value : Const → Option Value
constant_value (const.Int n) = Some (val.Num n)
constant_value other = None

-- over the arguments and the registers of a frame
abbrev pub value : List Value → List Register → Operand → Option Value
value args registers (operand.Param k) = slice_get args k
value args registers (operand.Reg k) = register k registers
value args registers (operand.Const c) = constant_value c

abbrev pub values : List Value → List Register → List Arg → Option (List Value)
values args registers [] = Some []
values args registers (a ∷ more) = option_and_then (λ v. option_map (λ vs. v ∷ vs) (values args registers more)) (value args registers a.value)

-- the place of the function that a callee names: an address of the module without an offset
abbrev pub named : Const → Option ℕ
named (const.Addr place offset) = if int_eq offset (pos 0) then Some place else None
named other = None

abbrev pub called : Operand → Option ℕ
called (operand.Const c) = named c
called other = None

abbrev pub has_flag : Flags → Bool
has_flag flags = flags.nuw || flags.nsw || flags.exact || flags.disjoint

-- the sum of two numbers of 32 bits, modulo 2^32
abbrev pub sum : Scalar → Value → Value → Option Value
sum scalar.I32 (val.Num x) (val.Num y) = Some (val.Num ((x + y) % 2 ^ 32))
sum other x y = None

-- the result of an operation: an addition without flags is the only one of the form
abbrev pub result : BinOp → Flags → Scalar → Value → Value → Option Value
result op.Add flags ty x y = if has_flag flags then None else sum ty x y
result other flags ty x y = None

-- the frame, once its next result is known
abbrev pub with_result : Frame → Value → Frame
with_result f v = record f { registers = (f.next, v) ∷ f.registers; next = suc f.next }

-- a call of a function begins at the head of its first block
abbrev pub block_start : ℕ → List Value → Block → Frame
block_start place args block = record { func = place; rest = block.insts; last = block.term; args = args; registers = []; next = 0; allocas = [] }

abbrev pub body_start : ℕ → List Value → Option Body → Option Frame
body_start place args None = None
body_start place args (Some body) = option_map (block_start place args) (slice_get body.blocks 0)

abbrev pub item_start : ℕ → List Value → Item → Option Frame
item_start place args (item.Var v) = None
item_start place args (item.Func f) = body_start place args f.body

abbrev pub call_start : Module → ℕ → List Value → Option Frame
call_start m place args = option_and_then (item_start place args) (slice_get m.items place)

-- How a step ends, and the state after it.
abbrev pub Next : Type 0
Next = Stepped × State

abbrev pub went : List Frame → Memory → Next
went frames memory = (stepped.Went, record { frames = frames; memory = memory })

-- An instruction, in a frame that has it behind it. In the form it is an addition, or the call of a function
-- by its name.
abbrev pub inst_step : Module → Frame → List Frame → Memory → Inst → Option Next
inst_step m f fs memory (inst.Bin op flags ty a b) =
    option_and_then (λ x. option_and_then (λ y. option_map (λ v. went (with_result f v ∷ fs) memory) (result op flags ty x y)) (value f.args f.registers b)) (value f.args f.registers a)
inst_step m f fs memory (inst.Call fn_ty ret_ext callee args) =
    option_and_then (λ place. option_and_then (λ vs. option_map (λ g. went (g ∷ (f ∷ fs)) memory) (call_start m place vs)) (values f.args f.registers args)) (called callee)
inst_step m f fs memory other = None

-- a value as the outside sees it: numbers are the only ones of the form
abbrev pub shown : Value → Option (Val SymName)
shown (val.Num n) = Some (val.Num n)
shown other = None

-- The value is the next result of the caller, or the root's.
abbrev pub return_step : List Frame → Memory → Value → Option Next
return_step [] memory v = option_map (λ x. (stepped.Returned (Some x), record { frames = []; memory = memory })) (shown v)
return_step (g ∷ gs) memory v = Some (went (with_result g v ∷ gs) memory)

abbrev pub term_step : Frame → List Frame → Memory → Term → Option Next
term_step f fs memory (term.Ret ty v) = option_and_then (return_step fs memory) (value f.args f.registers v)
term_step f fs memory other = None

-- the next instruction, or the terminator where none is left
abbrev pub frame_step : Module → Frame → List Frame → Memory → List Inst → Option Next
frame_step m f fs memory [] = term_step f fs memory f.last
frame_step m f fs memory (i ∷ is) = inst_step m (record f { rest = is }) fs memory i

abbrev pub frames_step : Module → List Frame → Memory → Option Next
frames_step m [] memory = None
frames_step m (f ∷ fs) memory = frame_step m f fs memory f.rest

-- None where no case fits
abbrev pub step : Module → State → Option Next
step m s = frames_step m s.frames s.memory

-- A step from a state, how it ends, and the state after it.
abbrev pub Steps : Module → State → Stepped → State → Type 0
Steps m s answer t = step m s ≡ Some (answer, t)
