-- What a run of `run` ends with, before that is seen as the outcome of words; and what the sink took where a device failed.
use Rattle.std.specs.Prelude.{◌≡◌, ◌⊎◌, ℕ, ℤ, List, ◌++◌, take, Option, Some, Result}
use Rattle.occam_base.specs.declared.code.Code.{Code}
use Rattle.occam_base.specs.declared.code.Code.TheVariants as code
use Rattle.occam_base.specs.Counts.{Rose}
use Rattle.occam_base.specs.Files.{FileMap}
use Rattle.program_loader.specs.declared.refusal.Detail.TheVariants as detail
use Rattle.program_loader.specs.declared.refusal.Refusal.{Refusal}
use Rattle.program_loader.specs.Refusing.{refusal}
use Rattle.program_runner.specs.declared.ended.Ended.{Ended}
use Rattle.program_runner.specs.Lines.{ended_line}
use Rattle.program_runner.specs.Running.{Took, Runs, IsEntryRun, IsEntryFront}
use Rattle.occam_tool.specs.Lines.{answer_code, run_line, refusal_line}

pub record RunEnds (files : FileMap) (files_new : Option FileMap) (manifest : List ℕ) (steps : ℕ) (args : List ℤ) (source taken taken_new : Option (List ℕ)) (faults faults_new : ℕ) (status : Code) : Type 0 where
  pub answer : Result Ended Refusal
  pub text : List ℕ
  pub runs : Runs files manifest steps args source answer text
  pub files_are : files_new ≡ Some files
  pub status_is : status ≡ answer_code answer
  pub taken_is : (status ≡ code.Done) ⊎ (Rose faults faults_new → ⊥) → Took taken taken_new (text ++ run_line answer)

-- The sink took so many bytes of the text, and no more.
abbrev pub TookFront : Option (List ℕ) → Option (List ℕ) → List ℕ → Type 0
TookFront taken taken_new text = (n : ℕ) × Took taken taken_new (take n text)

-- After the source failed, the sink has a front of what the run writes, and the line of the refusal.
abbrev pub SourceBroke : FileMap → List ℕ → ℕ → List ℤ → (source taken taken_new : Option (List ℕ)) → Type 0
SourceBroke files manifest steps args source taken taken_new =
    (text : List ℕ) × IsEntryFront files manifest steps args source text × Took taken taken_new (text ++ refusal_line (refusal code.SourceFault detail.Nothing))

-- Where the sink itself failed, it has a front of what the run writes, or all of that and a front of the last line.
pub data SinkBroke (files : FileMap) (manifest : List ℕ) (steps : ℕ) (args : List ℤ) (source taken taken_new : Option (List ℕ)) : Type 0 where
  InText : (text : List ℕ) → IsEntryFront files manifest steps args source text → Took taken taken_new text → SinkBroke files manifest steps args source taken taken_new
  InLine : (ended : Ended) (text : List ℕ) (n : ℕ) → IsEntryRun files manifest steps args source ended text → Took taken taken_new (text ++ take n (ended_line ended))
      → SinkBroke files manifest steps args source taken taken_new
