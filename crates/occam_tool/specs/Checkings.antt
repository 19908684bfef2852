-- What `check` answers over the files, and what a run of it ends with before that is seen as the outcome of words.
use Rattle.std.specs.Prelude.{◌≡◌, ◌⊎◌, ℕ, List, Option, Some, Result, Ok, Err}
use Rattle.occam_base.specs.declared.code.Code.{Code}
use Rattle.occam_base.specs.declared.code.Code.TheVariants as code
use Rattle.occam_base.specs.Counts.{Rose}
use Rattle.occam_base.specs.Files.{FileMap}
use Rattle.manifest.specs.declared.fault.Manifest.{Manifest}
use Rattle.ir_syntax.specs.Programs.{ProgramData}
use Rattle.program_loader.specs.declared.refusal.Refusal.{Refusal}
use Rattle.program_loader.specs.Loading.{IsLoaded, RefusesLoading}
use Rattle.program_runner.specs.Running.{Took}
use Rattle.occam_tool.specs.declared.job.Checked.{Checked}
use Rattle.occam_tool.specs.Counts.{counts_of}
use Rattle.occam_tool.specs.Lines.{answer_code, check_line}

-- The files give a program, and these are its counts.
pub record IsChecked (files : FileMap) (manifest : List ℕ) (counts : Checked) : Type 0 where
  pub deployment : Manifest
  pub program : ProgramData
  pub loaded : IsLoaded files manifest deployment program
  pub counts_are : counts ≡ counts_of program.modules

-- What checking the program of a manifest answers over these files.
abbrev pub Checks : FileMap → List ℕ → Result Checked Refusal → Type 0
Checks files manifest (Ok counts) = IsChecked files manifest counts
Checks files manifest (Err r) = RefusesLoading files manifest r

pub record CheckEnds (files : FileMap) (files_new : Option FileMap) (manifest : List ℕ) (taken taken_new : Option (List ℕ)) (faults faults_new : ℕ) (status : Code) : Type 0 where
  pub answer : Result Checked Refusal
  pub checks : Checks files manifest answer
  pub files_are : files_new ≡ Some files
  pub status_is : status ≡ answer_code answer
  pub taken_is : (status ≡ code.Done) ⊎ (Rose faults faults_new → ⊥) → Took taken taken_new (check_line answer)
