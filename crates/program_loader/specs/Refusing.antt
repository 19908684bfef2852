-- Refusals, and what a step that only reads leaves of a shelf.
use Rattle.std.specs.Prelude.{◌≡◌, ◌≢◌, ℕ, ◌≤◌, Option, Some, None, Result, Ok, Err}
use Rattle.occam_base.specs.Counts.{Rose}
use Rattle.occam_base.specs.Files.{FileMap}
use Rattle.occam_base.specs.declared.code.Code.{Code}
use Rattle.occam_base.specs.declared.code.Code.TheVariants as code
use Rattle.program_loader.specs.declared.refusal.Detail.{Detail}
use Rattle.program_loader.specs.declared.refusal.Refusal.{Refusal}

abbrev pub refusal : Code → Detail → Refusal
refusal c d = record { code = c; detail = d }

-- the code of a refusal, and none of an answer
abbrev pub code_of : {X : Type 0} → Result X Refusal → Option Code
code_of (Ok x) = None
code_of (Err r) = Some r.code

-- A reading step leaves what is kept, and its count of faults rose where it says so.
pub record ReadsAlone (ended : Option Code) (files_old files_new : Option FileMap) (reads_old reads_new puts_old puts_new : ℕ) : Type 0 where
  pub files : files_new ≡ files_old
  pub failed : ended ≡ Some code.ReadFault → Rose reads_old reads_new
  pub quiet : ended ≢ Some code.ReadFault → ended ≢ Some code.OutOfMemory → reads_new ≡ reads_old
  pub never_falls : reads_old ≤ reads_new
  pub puts : puts_new ≡ puts_old

-- the codes that loading a program is refused with
abbrev pub CanRefuse : Code → Type 0
CanRefuse code.OutOfMemory = Unit {0}
CanRefuse code.ReadFault = Unit {0}
CanRefuse code.Absent = Unit {0}
CanRefuse code.TooLarge = Unit {0}
CanRefuse code.NotJson = Unit {0}
CanRefuse code.BadManifest = Unit {0}
CanRefuse code.BadByte = Unit {0}
CanRefuse code.NotInSubset = Unit {0}
CanRefuse code.IllTyped = Unit {0}
CanRefuse code.NotDefinite = Unit {0}
CanRefuse code.TwoDefinitions = Unit {0}
CanRefuse code.NoDefinition = Unit {0}
CanRefuse code.TypeClash = Unit {0}
CanRefuse code.NoEntry = Unit {0}
CanRefuse code.EntryShape = Unit {0}
CanRefuse code.NoExport = Unit {0}
CanRefuse code.ExportShape = Unit {0}
CanRefuse other = ⊥
