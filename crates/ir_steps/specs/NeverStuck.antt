-- A linked program is never stuck: what it does next has always a meaning, or a cause why it has none.
use Rattle.std.specs.Prelude.{◌≢◌, ℕ, List, [], Option}
use Rattle.ir_syntax.specs.declared.symbol.Sym.{Sym}
use Rattle.ir_syntax.specs.Programs.{ProgramData, IsProgram}
use Rattle.block_memory.specs.Answers.{Stuck}
use Rattle.ir_steps.specs.declared.session.Reply.{Reply}
use Rattle.ir_steps.specs.States.{StateData}
use Rattle.ir_steps.specs.Steps.{start, enter, step}
use Rattle.ir_steps.specs.Reached.{Move, Reaches, IsRoot}

-- It has a memory to start with,
abbrev pub ProgramsStart : Type 0
ProgramsStart = (p : ProgramData) → IsProgram p → start p ≢ Stuck

-- a root can be called in each state that it comes to,
abbrev pub RootsAreEntered : Type 0
RootsAreEntered = (p : ProgramData) (moves : List Move) (s : StateData) (symbol : Sym) (args : List ℕ) → IsProgram p → Reaches p moves s → IsRoot p symbol args → enter p s symbol args ≢ Stuck

-- and where a call is running, a step has one answer for the reply that there is: it is a function.
abbrev pub NeverStuck : Type 0
NeverStuck = (p : ProgramData) (moves : List Move) (s : StateData) (given : Option Reply) → IsProgram p → Reaches p moves s → s.frames ≢ [] → step p s given ≢ Stuck
