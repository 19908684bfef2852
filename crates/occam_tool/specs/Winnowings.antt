-- What a run of `winnow` ends with, before it is seen as the outcome of words.
use Rattle.std.specs.Prelude.{◌≡◌, ◌⊎◌, ℕ, List, Option, Result}
use Rattle.occam_base.specs.declared.code.Code.{Code}
use Rattle.occam_base.specs.declared.code.Code.TheVariants as code
use Rattle.occam_base.specs.Counts.{Rose}
use Rattle.occam_base.specs.Files.{FileMap}
use Rattle.program_loader.specs.declared.refusal.Refusal.{Refusal}
use Rattle.program_runner.specs.Running.{Took}
use Rattle.occam_tool.specs.declared.job.Report.{Report}
use Rattle.occam_tool.specs.Lines.{answer_code, winnow_line}
use Rattle.occam_tool.specs.Outcome.{Leaves}

pub record WinnowEnds (files : FileMap) (files_new : Option FileMap) (manifest outdir : List ℕ) (taken taken_new : Option (List ℕ)) (faults faults_new : ℕ) (status : Code) : Type 0 where
  pub answer : Result Report Refusal
  pub leaves : Leaves files files_new manifest outdir answer
  pub status_is : status ≡ answer_code answer
  pub taken_is : (status ≡ code.Done) ⊎ (Rose faults faults_new → ⊥) → Took taken taken_new (winnow_line answer)
