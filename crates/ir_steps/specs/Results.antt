-- Where a call goes on behind an instruction, with its result or without.
use Rattle.std.specs.Prelude.{suc, nat_lt, List, ◌∷◌, length, slice_set, Option, Some, None, if◌then◌else◌}
use Rattle.ir_syntax.specs.declared.symbol.Sym.{Sym}
use Rattle.ir_syntax.specs.declared.body.Inst.{Inst}
use Rattle.block_memory.specs.declared.value.Val.{Val}
use Rattle.block_memory.specs.Answers.{Answer, Gives, Stuck, and_then}
use Rattle.block_memory.specs.Blocks.{MemoryData}
use Rattle.ir_steps.specs.declared.session.Stepped.{Stepped}
use Rattle.ir_steps.specs.declared.session.Stepped.TheVariants as stepped
use Rattle.ir_steps.specs.States.{Frame, StateData, Point}

-- What came of a step, and the state behind it.
abbrev pub Next : Type 0
Next = Stepped × StateData

abbrev pub state : List Frame → MemoryData → StateData
state frames mem = record { frames = frames; memory = mem }

abbrev pub went : List Frame → MemoryData → Next
went frames mem = (stepped.Went, state frames mem)

abbrev pub with_result : Frame → List Inst → Val Sym → Frame
with_result f behind value = record f { rest = behind; results = slice_set f.results f.next (Some value); next = suc f.next }

-- the call behind its instruction; a result wants a slot
abbrev pub behind_with : Frame → List Inst → Option (Val Sym) → Answer Frame
behind_with f behind None = Gives (record f { rest = behind })
behind_with f behind (Some value) = if nat_lt f.next (length f.results) then Gives (with_result f behind value) else Stuck

-- The step is done: the call goes on.
abbrev pub goes_on : Point → Option (Val Sym) → Answer Next
goes_on at result = and_then (λ f. Gives (went (f ∷ at.below) at.memory)) (behind_with at.frame at.behind result)

abbrev pub gives_result : Point → Val Sym → Answer Next
gives_result at value = goes_on at (Some value)

-- the same with other memory, and no result
abbrev pub with_memory : Point → MemoryData → Answer Next
with_memory at mem = goes_on (record at { memory = mem }) None
