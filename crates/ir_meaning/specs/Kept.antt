-- The states of a program that the calls of this crate come to, and what a step answers of them.
use Rattle.std.specs.Prelude.{◌≡◌, ◌⊎◌, true, List, [], Option, IsSome}
use Rattle.ir_syntax.specs.Programs.{ProgramData}
use Rattle.block_memory.specs.Answers.{Answer, Gives, Undefined}
use Rattle.block_memory.specs.Blocks.{MemoryData}
use Rattle.ir_steps.specs.declared.session.Stepped.{Stepped}
use Rattle.ir_steps.specs.declared.session.Stepped.TheVariants as stepped
use Rattle.ir_steps.specs.States.{StateData}
use Rattle.ir_steps.specs.Results.{Next, state}
use Rattle.ir_steps.specs.Reached.{Move, Reaches}
use Rattle.ir_meaning.specs.Models.{StateModel, state_of}
use Rattle.ir_meaning.specs.Mirrors.Numbering.{table_of}

-- Some moves of the program lead to it, and its numbers of first results are those of the program's blocks.
pub record IsReached (p : ProgramData) (s : StateModel) : Type 0 where
  pub numbers : s.firsts ≡ table_of p.modules
  pub moves : List Move
  pub reaches : Reaches p moves (state_of p s)

-- A state of the program: it has failed for want of memory, or it is reached.
abbrev pub IsStateOf : ProgramData → StateModel → Type 0
IsStateOf p s = (s.failed ≡ true) ⊎ IsReached p s

-- A call is running, or it has failed.
abbrev pub IsRunning : StateModel → Type 0
IsRunning s = (s.failed ≡ true) ⊎ IsSome s.stack

-- The definition's answer is what a step gives, with the state behind it. Where it is undefined no call is running behind it, and the
-- memory is the one before.
abbrev pub IsStepOf : Answer Next → Stepped → StateData → MemoryData → Type 0
IsStepOf answer stepped.Went next before = answer ≡ Gives (stepped.Went, next)
IsStepOf answer (stepped.Wants wanted) next before = answer ≡ Gives (stepped.Wants wanted, next)
IsStepOf answer (stepped.Returned value) next before = answer ≡ Gives (stepped.Returned value, next)
IsStepOf answer (stepped.Exited code) next before = answer ≡ Gives (stepped.Exited code, next)
IsStepOf answer stepped.Aborted next before = answer ≡ Gives (stepped.Aborted, next)
IsStepOf answer (stepped.Undefined why) next before = (answer ≡ Undefined why) × (next ≡ state [] before)
