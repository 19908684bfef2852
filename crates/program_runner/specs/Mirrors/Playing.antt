-- What playing roots with the small world over a source and a sink gives.
use Rattle.std.specs.Prelude.{ℕ, List, Option}
use Rattle.ir_syntax.specs.Programs.{ProgramData}
use Rattle.session_runs.specs.declared.session.Root.{Root}
use Rattle.session_runs.specs.declared.session.Run.{Run}
use Rattle.session_runs.specs.declared.world.WorldFault.{WorldFault}
use Rattle.session_runs.specs.declared.world.WorldFault.TheVariants as fault
use Rattle.occam_base.specs.declared.code.Code.{Code}
use Rattle.occam_base.specs.declared.code.Code.TheVariants as code
use Rattle.program_runner.specs.Running.{Took}
use Rattle.program_runner.specs.TinyRuns.{IsTinyRun, IsTinyFront}

-- The run, and the sink took what it writes.
pub record IsPlayed (p : ProgramData) (roots : List Root) (n : ℕ) (source taken taken_new : Option (List ℕ)) (shown : Run) : Type 0 where
  pub text : List ℕ
  pub is : IsTinyRun p roots n source shown text
  pub took : Took taken taken_new text

-- The sink took a front of it.
pub record IsBroken (p : ProgramData) (roots : List Root) (n : ℕ) (source taken taken_new : Option (List ℕ)) : Type 0 where
  pub text : List ℕ
  pub is : IsTinyFront p roots n source text
  pub took : Took taken taken_new text

-- the code of a failure
abbrev pub fault_code : WorldFault → Code
fault_code fault.Source = code.SourceFault
fault_code fault.Sink = code.PrintFault
fault_code fault.OutOfMemory = code.OutOfMemory
