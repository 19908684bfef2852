-- What winnowing answers and leaves, as a function of the files, and what the program does with its words.
use Rattle.std.specs.Prelude.{◌≡◌, ℕ, Bool, true, false, List, [], ◌∷◌, ◌++◌, length, Option, Some, None, Result, Ok, Err}
use Rattle.std.specs.FinMap as map
use Rattle.ir_types.specs.declared.scalar.Known.{Known}
use Rattle.occam_base.specs.declared.code.Code.{Code}
use Rattle.occam_base.specs.declared.code.Code.TheVariants as code
use Rattle.occam_base.specs.Files.{FileMap, file_of}
use Rattle.ir_syntax.specs.declared.item.Module.{Module}
use Rattle.name_table.specs.Places.{place_among}
use Rattle.straight_form.specs.Form.{IsStraightForm}
use Rattle.straight_form.specs.Counts.{instruction_count}
use Rattle.ir_writer.specs.Modules.{item_names, module_text}
use Rattle.straight_plan.specs.declared.cut.Ask.{Ask}
use Rattle.straight_plan.specs.declared.cut.Cut.{Cut}
use Rattle.straight_plan.specs.Asked.{root}
use Rattle.straight_plan.specs.Left.{AreTooMany, IsTooMuch, IsPlanned, left_module, originals, clones}
use Rattle.program_loader.specs.declared.refusal.Detail.TheVariants as detail
use Rattle.program_loader.specs.declared.refusal.Refusal.{Refusal}
use Rattle.program_loader.specs.Refusing.{refusal}
use Rattle.occam_tool.specs.declared.job.Report.{Report}
use Rattle.occam_tool.specs.Manifests.{IsSingleManifest}

-- The manifest's file is held, and names this module, this entry and its arguments.
abbrev pub NamesModule : FileMap → List ℕ → List ℕ → List ℕ → List Known → Type 0
NamesModule files manifest file entry args = (text : List ℕ) × (file_of files manifest ≡ Some text) × IsSingleManifest text file entry args

-- Why a manifest is refused.
pub data RefusesManifest (files : FileMap) (manifest : List ℕ) (r : Refusal) : Type 0 where
  ManifestAbsent : file_of files manifest ≡ None → r ≡ refusal code.Absent (detail.File manifest) → RefusesManifest files manifest r
  NotSingle : (text : List ℕ) → file_of files manifest ≡ Some text → ((file entry : List ℕ) (args : List Known) → IsSingleManifest text file entry args → ⊥)
      → r ≡ refusal code.NotInSubset (detail.At manifest 0) → RefusesManifest files manifest r

-- Why a module is refused.
pub data RefusesModule (files : FileMap) (file entry : List ℕ) (args : List Known) (r : Refusal) : Type 0 where
  ModuleAbsent : file_of files file ≡ None → r ≡ refusal code.Absent (detail.File file) → RefusesModule files file entry args r
  NotStraight : (text : List ℕ) → file_of files file ≡ Some text → ((m : Module) → IsStraightForm text entry (length args) m → ⊥)
      → r ≡ refusal code.NotInSubset (detail.At file 0) → RefusesModule files file entry args r

-- The module's file is held, and its text is of the form and spells the module, whose entry stands at a place.
pub record Reads (files : FileMap) (file entry : List ℕ) (args : List Known) (m : Module) (place : ℕ) : Type 0 where
  pub text : List ℕ
  pub held : file_of files file ≡ Some text
  pub form : IsStraightForm text entry (length args) m
  pub entered : place_among entry (item_names m) ≡ Some place

-- what is asked for from outside: the entry with its arguments
abbrev pub start_of : Module → ℕ → List Known → Ask
start_of m place args = root m.items place args

-- Why what is needed is refused.
pub data RefusesPlan (m : Module) (start : Ask) (r : Refusal) : Type 0 where
  TooMany : AreTooMany m.items start → r ≡ refusal code.TooManyDemands detail.Nothing → RefusesPlan m start r
  TooMuch : IsTooMuch m.items start → r ≡ refusal code.TooMuchCode detail.Nothing → RefusesPlan m start r

-- The counts of a module and of what is left of it.
abbrev pub report_of : Module → Ask → List Cut → Report
report_of m start plan = record {
  modules = 1;
  originals = originals start plan;
  clones = clones start plan;
  globals = 0;
  instructions = instruction_count (left_module m start plan);
  before = instruction_count m;
}

-- What is written: the file of each output with its bytes, in order.
abbrev pub Outputs : Type 0
Outputs = List (List ℕ × List ℕ)

abbrev pub put_all : Outputs → FileMap → FileMap
put_all [] files = files
put_all (output ∷ outputs) files = put_all outputs (map.insert files output.0 output.1)

-- OUTDIR/name
abbrev pub output_name : List ℕ → List ℕ → List ℕ
output_name outdir file = outdir ++ 47 ∷ file

-- What winnowing of a manifest answers over these files, and what it writes.
pub data Winnows (files : FileMap) (manifest outdir : List ℕ) (answer : Result Report Refusal) (outputs : Outputs) : Type 0 where
  ManifestRefused : (r : Refusal) → RefusesManifest files manifest r → answer ≡ Err r → outputs ≡ [] → Winnows files manifest outdir answer outputs
  ModuleRefused : (file entry : List ℕ) (args : List Known) (r : Refusal) → NamesModule files manifest file entry args → RefusesModule files file entry args r → answer ≡ Err r → outputs ≡ []
      → Winnows files manifest outdir answer outputs
  PlanRefused : (file entry : List ℕ) (args : List Known) (m : Module) (place : ℕ) (r : Refusal) → NamesModule files manifest file entry args → Reads files file entry args m place
      → RefusesPlan m (start_of m place args) r → answer ≡ Err r → outputs ≡ [] → Winnows files manifest outdir answer outputs
  Written : (file entry : List ℕ) (args : List Known) (m : Module) (place : ℕ) (plan : List Cut) → NamesModule files manifest file entry args → Reads files file entry args m place
      → IsPlanned m.items (start_of m place args) plan → answer ≡ Ok (report_of m (start_of m place args) plan)
      → outputs ≡ (output_name outdir file, module_text (left_module m (start_of m place args) plan)) ∷ [] → Winnows files manifest outdir answer outputs

-- Answers that the files alone don't give: memory, and faults of the outside.
abbrev pub is_free : Code → Bool
is_free code.OutOfMemory = true
is_free code.ReadFault = true
is_free code.WriteFault = true
is_free code.PrintFault = true
is_free code.SourceFault = true
is_free other = false

-- The files go from old to new as winnowing says.
abbrev pub Leaves : FileMap → Option FileMap → List ℕ → List ℕ → Result Report Refusal → Type 0
Leaves old new manifest outdir answer = (outputs : Outputs) × Winnows old manifest outdir answer outputs × (new ≡ Some (put_all outputs old))
