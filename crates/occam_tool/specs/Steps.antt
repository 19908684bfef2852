-- What the steps of winnowing answer over the files of a shelf, where it tells them.
use Rattle.std.specs.Prelude.{◌≡◌, ◌⊎◌, ℕ, true, List, length, Option, Some, None, Result, Ok, Err}
use Rattle.std.specs.FinMap as map
use Rattle.occam_base.specs.declared.code.Code.{Code}
use Rattle.occam_base.specs.declared.code.Code.TheVariants as code
use Rattle.occam_base.specs.Files.{FileMap, file_of}
use Rattle.ir_syntax.specs.declared.item.Module.{Module}
use Rattle.fixed_point.specs.declared.fault.FixFault.{FixFault}
use Rattle.fixed_point.specs.declared.fault.FixFault.TheVariants as fix
use Rattle.ir_types.specs.declared.scalar.Known.{Known}
use Rattle.straight_form.specs.Form.{IsStraightForm}
use Rattle.ir_writer.specs.Modules.{item_names, module_text}
use Rattle.name_table.specs.Places.{place_among}
use Rattle.straight_plan.specs.declared.cut.Ask.{Ask}
use Rattle.straight_plan.specs.declared.cut.Cut.{Cut}
use Rattle.straight_plan.specs.Left.{AreTooMany, IsTooMuch, IsPlanned, left_module}
use Rattle.program_loader.specs.declared.refusal.Refusal.{Refusal}
use Rattle.occam_tool.specs.declared.plan.Plan.{Plan}
use Rattle.occam_tool.specs.declared.left.Left.{Left}
use Rattle.occam_tool.specs.Outcome.{NamesModule, RefusesManifest, RefusesModule, start_of, is_free, report_of, output_name}

-- what a reading step found of the manifest
abbrev pub PlanGives : Option FileMap → List ℕ → Result Plan Refusal → Type 0
PlanGives None manifest answer = Unit {0}
PlanGives (Some files) manifest (Ok plan) = NamesModule files manifest plan.file plan.entry plan.args
PlanGives (Some files) manifest (Err r) = (is_free r.code ≡ true) ⊎ RefusesManifest files manifest r

-- what a reading step found of the module
abbrev pub ModuleGives : Option FileMap → Plan → Result Module Refusal → Type 0
ModuleGives None plan answer = Unit {0}
ModuleGives (Some files) plan (Ok m) = (text : List ℕ) × (file_of files plan.file ≡ Some text) × IsStraightForm text plan.entry (length plan.args) m
ModuleGives (Some files) plan (Err r) = (is_free r.code ≡ true) ⊎ RefusesModule files plan.file plan.entry plan.args r

-- The text and the report of what a plan leaves.
pub record IsWrittenLeft (m : Module) (start : Ask) (plan : List Cut) (left : Left) : Type 0 where
  pub text : left.text ≡ module_text (left_module m start plan)
  pub report : left.report ≡ report_of m start plan

-- What is left of a module for an entry at a place, with its arguments.
pub record IsLeftOf (m : Module) (place : ℕ) (args : List Known) (left : Left) : Type 0 where
  pub plan : List Cut
  pub planned : IsPlanned m.items (start_of m place args) plan
  pub written : IsWrittenLeft m (start_of m place args) plan left

-- what leaving a module answers
abbrev pub LeavesAt : Module → ℕ → List Known → Result Left FixFault → Type 0
LeavesAt m place args (Ok left) = IsLeftOf m place args left
LeavesAt m place args (Err fix.TooManyDemands) = AreTooMany m.items (start_of m place args)
LeavesAt m place args (Err fix.TooMuchCode) = IsTooMuch m.items (start_of m place args)
LeavesAt m place args (Err fix.OutOfMemory) = Unit {0}

-- for the entry of this name
pub record LeftGives (m : Module) (entry : List ℕ) (args : List Known) (answer : Result Left FixFault) : Type 0 where
  pub place : ℕ
  pub entered : place_among entry (item_names m) ≡ Some place
  pub leaves : LeavesAt m place args answer

-- the code of a refusal of what is needed
abbrev pub fault_code : FixFault → Code
fault_code fix.TooManyDemands = code.TooManyDemands
fault_code fix.TooMuchCode = code.TooMuchCode
fault_code fix.OutOfMemory = code.OutOfMemory

-- the one file replaced, where the shelf tells
abbrev pub Put : Option FileMap → Option FileMap → List ℕ → List ℕ → Type 0
Put None new name text = Unit {0}
Put (Some old) new name text = new ≡ Some (map.insert old name text)

-- A put of the output. After a failure the files may be others.
abbrev pub PutGives : Option FileMap → Option FileMap → List ℕ → List ℕ → List ℕ → Result (Unit {0}) Refusal → Type 0
PutGives old new outdir file text (Ok done) = Put old new (output_name outdir file) text
PutGives old new outdir file text (Err r) = Unit {0}

-- the codes that winnowing ends with in this form
abbrev pub CanEnd : Code → Type 0
CanEnd code.Done = Unit {0}
CanEnd code.OutOfMemory = Unit {0}
CanEnd code.ReadFault = Unit {0}
CanEnd code.WriteFault = Unit {0}
CanEnd code.Absent = Unit {0}
CanEnd code.NotInSubset = Unit {0}
CanEnd code.TooManyDemands = Unit {0}
CanEnd code.TooMuchCode = Unit {0}
CanEnd other = ⊥

-- the codes that a reading step ends with, where it does
abbrev pub CanStop : Option Code → Type 0
CanStop None = Unit {0}
CanStop (Some code.OutOfMemory) = Unit {0}
CanStop (Some code.ReadFault) = Unit {0}
CanStop (Some code.Absent) = Unit {0}
CanStop (Some code.NotInSubset) = Unit {0}
CanStop (Some other) = ⊥
