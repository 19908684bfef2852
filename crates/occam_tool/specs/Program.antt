-- What the program does with its words, over the files of a shelf that tells them.
use Rattle.std.specs.Prelude.{◌≡◌, ◌⊎◌, ℕ, ℤ, List, [], ◌++◌, Option, Some, None, Result}
use Rattle.occam_base.specs.declared.code.Code.{Code}
use Rattle.occam_base.specs.declared.code.Code.TheVariants as code
use Rattle.occam_base.specs.Counts.{Rose}
use Rattle.occam_base.specs.Files.{FileMap}
use Rattle.program_loader.specs.declared.refusal.Detail.TheVariants as detail
use Rattle.program_loader.specs.declared.refusal.Refusal.{Refusal}
use Rattle.program_loader.specs.Refusing.{refusal, CanRefuse}
use Rattle.program_loader.specs.Loading.{IsUnread}
use Rattle.program_runner.specs.Running.{Took, Runs, CanRefuseRun}
use Rattle.occam_tool.specs.declared.job.Report.{Report}
use Rattle.occam_tool.specs.declared.job.Checked.{Checked}
use Rattle.command_words.specs.Words.{Command, command_of}
use Rattle.command_words.specs.Words.Command.{Winnow, Check, Run}
use Rattle.program_runner.specs.declared.ended.Ended.{Ended}
use Rattle.occam_tool.specs.Lines.{answer_code, winnow_line, check_line, run_line, refusal_line}
use Rattle.occam_tool.specs.Outcome.{Outputs, Winnows, put_all}
use Rattle.occam_tool.specs.Checkings.{Checks}
use Rattle.occam_tool.specs.Runnings.{SourceBroke, SinkBroke}

-- The outcome of the words over the files and the bytes of a source, by commands: the status, what is put, and what is printed.
pub data IsOutcome (words : List (List ℕ)) (files : FileMap) (source : Option (List ℕ)) (status : Code) (outputs : Outputs) (printed : List ℕ) : Type 0 where
  -- words that are no command
  OfNoCommand : command_of words ≡ None → status ≡ code.Usage → outputs ≡ [] → printed ≡ refusal_line (refusal code.Usage detail.Nothing) → IsOutcome words files source status outputs printed
  OfWinnow : (manifest outdir : List ℕ) (answer : Result Report Refusal) → command_of words ≡ Some (Winnow manifest outdir) → Winnows files manifest outdir answer outputs
      → status ≡ answer_code answer → printed ≡ winnow_line answer → IsOutcome words files source status outputs printed
  OfCheck : (manifest : List ℕ) (answer : Result Checked Refusal) → command_of words ≡ Some (Check manifest) → Checks files manifest answer → outputs ≡ []
      → status ≡ answer_code answer → printed ≡ check_line answer → IsOutcome words files source status outputs printed
  -- what the run writes, and a line
  OfRun : (manifest : List ℕ) (steps : ℕ) (args : List ℤ) (answer : Result Ended Refusal) (text : List ℕ) → command_of words ≡ Some (Run manifest steps args)
      → Runs files manifest steps args source answer text → outputs ≡ [] → status ≡ answer_code answer → printed ≡ text ++ run_line answer → IsOutcome words files source status outputs printed

-- The program ended as the outcome says: with its status, with its outputs put, and with what it prints taken, unless that
-- is a refusal's line whose print failed.
pub record Ends (words : List (List ℕ)) (files : FileMap) (files_new : Option FileMap) (source taken taken_new : Option (List ℕ)) (faults faults_new : ℕ) (status : Code) : Type 0 where
  pub outputs : Outputs
  pub printed : List ℕ
  pub outcome : IsOutcome words files source status outputs printed
  pub files_are : files_new ≡ Some (put_all outputs files)
  pub taken_is : (status ≡ code.Done) ⊎ (Rose faults faults_new → ⊥) → Took taken taken_new printed

-- The sink took the line of a refusal of this status.
abbrev pub TakesRefusal : Option (List ℕ) → Option (List ℕ) → Code → Type 0
TakesRefusal taken taken_new status = (r : Refusal) × (r.code ≡ status) × Took taken taken_new (refusal_line r)

-- The line names the file whose reading failed.
abbrev pub NamesFile : FileMap → List ℕ → Option (List ℕ) → Option (List ℕ) → Type 0
NamesFile files manifest taken taken_new = (r : Refusal) × IsUnread files manifest r × Took taken taken_new (refusal_line r)

-- `check` and `run` name it.
abbrev pub NamesUnread : Option Command → FileMap → Option (List ℕ) → Option (List ℕ) → Type 0
NamesUnread None files taken taken_new = Unit {0}
NamesUnread (Some (Winnow manifest outdir)) files taken taken_new = Unit {0}
NamesUnread (Some (Check manifest)) files taken taken_new = NamesFile files manifest taken taken_new
NamesUnread (Some (Run manifest steps args)) files taken taken_new = NamesFile files manifest taken taken_new

-- What the sink has after the source failed, which `run` alone reads.
abbrev pub BreaksRun : Option Command → FileMap → (source taken taken_new : Option (List ℕ)) → Type 0
BreaksRun None files source taken taken_new = ⊥
BreaksRun (Some (Winnow manifest outdir)) files source taken taken_new = ⊥
BreaksRun (Some (Check manifest)) files source taken taken_new = ⊥
BreaksRun (Some (Run manifest steps args)) files source taken taken_new = SourceBroke files manifest steps args source taken taken_new

-- What the sink has where it failed itself, in `run`.
abbrev pub CutsRun : Option Command → FileMap → (source taken taken_new : Option (List ℕ)) → Type 0
CutsRun None files source taken taken_new = Unit {0}
CutsRun (Some (Winnow manifest outdir)) files source taken taken_new = Unit {0}
CutsRun (Some (Check manifest)) files source taken taken_new = Unit {0}
CutsRun (Some (Run manifest steps args)) files source taken taken_new = SinkBroke files manifest steps args source taken taken_new

-- ---- the statuses of each command

abbrev pub CanWinnow : Code → Type 0
CanWinnow code.Done = Unit {0}
CanWinnow code.OutOfMemory = Unit {0}
CanWinnow code.ReadFault = Unit {0}
CanWinnow code.WriteFault = Unit {0}
CanWinnow code.PrintFault = Unit {0}
CanWinnow code.Absent = Unit {0}
CanWinnow code.NotInSubset = Unit {0}
CanWinnow code.TooManyDemands = Unit {0}
CanWinnow code.TooMuchCode = Unit {0}
CanWinnow other = ⊥

abbrev pub CanCheck : Code → Type 0
CanCheck status = (status ≡ code.Done) ⊎ ((status ≡ code.PrintFault) ⊎ CanRefuse status)

abbrev pub CanRun : Code → Type 0
CanRun status = (status ≡ code.Done) ⊎ CanRefuseRun status

abbrev pub CanExit : Option Command → Code → Type 0
CanExit None status = (status ≡ code.Usage) ⊎ (status ≡ code.OutOfMemory)
CanExit (Some (Winnow manifest outdir)) status = CanWinnow status
CanExit (Some (Check manifest)) status = CanCheck status
CanExit (Some (Run manifest steps args)) status = CanRun status
