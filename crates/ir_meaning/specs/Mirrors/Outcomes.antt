-- What the parts of a step in code say of the definition's answer.
use Rattle.std.specs.Prelude.{◌≡◌, Bool, true, false, List, [], Result, Ok, Err, if◌then◌else◌}
use Rattle.ir_syntax.specs.Programs.{ProgramData}
use Rattle.block_memory.specs.Answers.{Answer, Gives, Undefined}
use Rattle.block_memory.specs.Blocks.{MemoryData}
use Rattle.ir_steps.specs.declared.session.Stepped.{Stepped}
use Rattle.ir_steps.specs.declared.session.Stepped.TheVariants as stepped
use Rattle.ir_steps.specs.States.{Frame, StateData}
use Rattle.ir_steps.specs.Results.{Next, state, went}
use Rattle.ir_meaning.specs.declared.halt.Halt.{Halt}
use Rattle.ir_meaning.specs.declared.halt.Halt.TheVariants as halt
use Rattle.ir_meaning.specs.declared.stack.Stack.{Stack}
use Rattle.ir_meaning.specs.Mirrors.Stacks.{stack_of}

-- the answer is what is given, and its cause is the one that is given; nothing is said where memory ran out
abbrev pub IsAnswered : {A : Type 0} → Result A Halt → Answer A → Type 0
IsAnswered (Ok x) answer = answer ≡ Gives x
IsAnswered (Err (halt.Undefined cause)) answer = answer ≡ Undefined cause
IsAnswered (Err halt.OutOfMemory) answer = Unit {0}

-- The answer is what came of a step, with the calls and the memory that it left: no call once the program has ended.
abbrev pub IsGiven : Stepped → List Frame → MemoryData → Answer Next → Type 0
IsGiven stepped.Went frames mem answer = answer ≡ Gives (went frames mem)
IsGiven (stepped.Wants wanted) frames mem answer = answer ≡ Gives (stepped.Wants wanted, state frames mem)
IsGiven (stepped.Returned value) frames mem answer = answer ≡ Gives (stepped.Returned value, state [] mem)
IsGiven (stepped.Exited code) frames mem answer = answer ≡ Gives (stepped.Exited code, state [] mem)
IsGiven stepped.Aborted frames mem answer = answer ≡ Gives (stepped.Aborted, state [] mem)
IsGiven (stepped.Undefined cause) frames mem answer = ⊥

-- Where it is undefined the memory is the one before.
abbrev pub IsStepped : ProgramData → Result Stepped Halt → Stack → MemoryData → MemoryData → Answer Next → Type 0
IsStepped p (Ok a) stack mem before answer = IsGiven a (stack_of p stack) mem answer
IsStepped p (Err (halt.Undefined cause)) stack mem before answer = (answer ≡ Undefined cause) × (mem ≡ before)
IsStepped p (Err halt.OutOfMemory) stack mem before answer = Unit {0}

-- ---- the end

abbrev pub is_end : Stepped → Bool
is_end stepped.Went = false
is_end (stepped.Wants wanted) = false
is_end (stepped.Returned value) = true
is_end (stepped.Exited code) = true
is_end stepped.Aborted = true
is_end (stepped.Undefined cause) = true

-- the state behind a step
abbrev pub left_by : Stepped → List Frame → MemoryData → StateData
left_by a frames mem = if is_end a then state [] mem else state frames mem
