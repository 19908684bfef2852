-- A call that goes on behind its instruction, with a result or without.
use Rattle.std.proofs.Common.{◌≡◌, nat_lt, List, ◌∷◌, length, Option, Some, None, refl}
use Rattle.ir_types.specs.declared.scalar.Scalar.{Scalar}
use Rattle.ir_types.specs.declared.scalar.FnType.{FnType}
use Rattle.ir_types.specs.declared.scalar.Ext.{Ext}
use Rattle.ir_syntax.specs.declared.symbol.Sym.{Sym}
use Rattle.ir_syntax.specs.declared.constant.Operand.{Operand}
use Rattle.ir_syntax.specs.declared.body.Arg.{Arg}
use Rattle.ir_syntax.specs.declared.body.Inst.{Inst}
use Rattle.ir_syntax.specs.declared.body.Inst.TheVariants.{Call}
use Rattle.ir_syntax.specs.Programs.{ProgramData}
use Rattle.ir_syntax.specs.Results.{result_type}
use Rattle.block_memory.specs.declared.value.Val.{Val}
use Rattle.block_memory.specs.Answers.{Answer, Gives, Stuck, and_then}
use Rattle.block_memory.specs.Blocks.{MemoryData}
use Rattle.ir_steps.specs.States.{Frame, Point}
use Rattle.ir_steps.specs.Results.{Next, went, with_result, behind_with, goes_on, with_memory}
use Rattle.known_values.specs.Readings.{Reading}
use Rattle.known_values.specs.Frames.{IsFrameAs}
use Rattle.known_values.proofs.Giving.{IfGives, gives_any, gives_then, gives_when}
use Rattle.known_values.proofs.Behind.{SuitsIn, behind_as, result_as}

-- What holds of each call that goes on, with those below and the memory.
abbrev pub IsLed : ProgramData → (Next → Type 0) → Option Reading → List Frame → Type 0
IsLed p Q kind below = (g : Frame) (mem : MemoryData) → IsFrameAs p kind g → Q (went (g ∷ below) mem)

-- ---- an instruction at hand

-- The call is as it is read, at an instruction.
pub record IsAt (p : ProgramData) (kind : Option Reading) (at : Point) (inst : Inst) : Type 0 where
  pub frame : IsFrameAs p kind at.frame
  pub rest : at.frame.rest ≡ inst ∷ at.behind

pub plain_on : (p : ProgramData) (Q : Next → Type 0) (kind : Option Reading) (at : Point) (inst : Inst) → IsAt p kind at inst → result_type inst ≡ None → IsLed p Q kind at.below → IfGives Q (goes_on at None)
plain_on p Q kind at inst h e led = led (record at.frame { rest = at.behind }) at.memory (behind_as p kind at.frame inst at.behind h.frame h.rest e)

pub result_on : (p : ProgramData) (Q : Next → Type 0) (kind : Option Reading) (at : Point) (inst : Inst) (ty : Scalar) (v : Val Sym) → IsAt p kind at inst → result_type inst ≡ Some ty → SuitsIn kind inst v → IsLed p Q kind at.below
    → IfGives Q (goes_on at (Some v))
result_on p Q kind at inst ty v h e s led =
    gives_then (IsFrameAs p kind) Q (λ f. Gives (went (f ∷ at.below) at.memory)) (behind_with at.frame at.behind (Some v))
    (gives_when (IsFrameAs p kind) (nat_lt at.frame.next (length at.frame.results)) (Gives (with_result at.frame at.behind v)) Stuck
    (λ fits. result_as p kind at.frame inst at.behind ty v h.frame h.rest e s) (λ full. tt))
    (λ g is. led g at.memory is)

-- ---- what calls return

-- a value where the type is one that returns
abbrev pub IsReturned : Option Scalar → Option (Val Sym) → Type 0
IsReturned None None = Unit {0}
IsReturned None (Some v) = ⊥
IsReturned (Some ty) None = ⊥
IsReturned (Some ty) (Some v) = Unit {0}

-- The call goes on with any memory, and a result of the type.
abbrev pub GoesOn : (Next → Type 0) → Point → Option Scalar → Type 0
GoesOn Q at returns = (mem : MemoryData) (o : Option (Val Sym)) → IsReturned returns o → IfGives Q (goes_on (record at { memory = mem }) o)

-- Nothing is said of what a call returns.
pub call_suits : (kind : Option Reading) (fn_ty : FnType) (ret_ext : Ext) (callee : Operand) (args : List Arg) (v : Val Sym) → SuitsIn kind (Call fn_ty ret_ext callee args) v
call_suits None fn_ty ret_ext callee args v = tt
call_suits (Some r) fn_ty ret_ext callee args v = tt

call_on : (p : ProgramData) (Q : Next → Type 0) (kind : Option Reading) (at : Point) (inst : Inst) (returns : Option Scalar) (o : Option (Val Sym)) → IsAt p kind at inst → result_type inst ≡ returns
    → ((v : Val Sym) → SuitsIn kind inst v) → IsLed p Q kind at.below → IsReturned returns o → IfGives Q (goes_on at o)
call_on p Q kind at inst None None h e s led is = plain_on p Q kind at inst h e led
call_on p Q kind at inst None (Some v) h e s led is = absurd is
call_on p Q kind at inst (Some ty) None h e s led is = absurd is
call_on p Q kind at inst (Some ty) (Some v) h e s led is = result_on p Q kind at inst ty v h e (s v) led

pub call_goes_on : (p : ProgramData) (Q : Next → Type 0) (kind : Option Reading) (at : Point) (inst : Inst) → IsAt p kind at inst → ((v : Val Sym) → SuitsIn kind inst v) → IsLed p Q kind at.below
    → GoesOn Q at (result_type inst)
call_goes_on p Q kind at inst h s led mem o is =
    call_on p Q kind (record at { memory = mem }) inst (result_type inst) o (record { frame = h.frame; rest = h.rest }) refl s led is

-- with other memory, and no result
pub memory_on : (Q : Next → Type 0) (at : Point) (a : Answer MemoryData) → GoesOn Q at None → IfGives Q (and_then (with_memory at) a)
memory_on Q at a goes = gives_any Q (with_memory at) a (λ mem. goes mem None tt)
