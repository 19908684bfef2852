-- How the steps of winnowing end, together.
use Rattle.std.proofs.Common.{◌≡◌, ◌∙◌, ℕ, ◌⊎◌, inl, inr, true, false, List, [], ◌∷◌, Option, Some, None, Result, Ok, Err, refl, sym, ap, subst}
use Rattle.std.specs.Prelude.{IfSome}
use Rattle.std.specs.FinMap as map
use Rattle.occam_base.specs.declared.code.Code.{Code}
use Rattle.occam_base.specs.declared.code.Code.TheVariants as code
use Rattle.program_loader.specs.declared.refusal.Detail.TheVariants as detail
use Rattle.occam_base.specs.Files.{FileMap}
use Rattle.ir_syntax.specs.declared.item.Module.{Module}
use Rattle.fixed_point.specs.declared.fault.FixFault.{FixFault}
use Rattle.fixed_point.specs.declared.fault.FixFault.TheVariants as fix
use Rattle.ir_types.specs.declared.scalar.Known.{Known}
use Rattle.name_table.specs.Places.{place_among}
use Rattle.ir_writer.specs.Modules.{item_names, module_text}
use Rattle.straight_plan.specs.Left.{left_module}
use Rattle.program_loader.specs.declared.refusal.Refusal.{Refusal}
use Rattle.occam_tool.specs.declared.plan.Plan.{Plan}
use Rattle.occam_tool.specs.declared.left.Left.{Left}
use Rattle.program_loader.specs.Refusing.{refusal}
use Rattle.occam_tool.specs.Outcome.{Winnows, is_free, output_name, start_of, Reads, Leaves}
use Rattle.occam_tool.specs.Outcome.RefusesPlan.{TooMany, TooMuch}
use Rattle.occam_tool.specs.Outcome.Winnows.{ManifestRefused, ModuleRefused, PlanRefused, Written}
use Rattle.occam_tool.specs.Steps.{PlanGives, ModuleGives, Put, LeftGives, LeavesAt, fault_code, CanStop, CanEnd}

pub can_end : (c : Code) → CanStop (Some c) → CanEnd c
can_end code.OutOfMemory h = tt
can_end code.ReadFault h = tt
can_end code.Absent h = tt
can_end code.NotInSubset h = tt
can_end code.Done h = absurd h
can_end code.Usage h = absurd h
can_end code.WriteFault h = absurd h
can_end code.PrintFault h = absurd h
can_end code.SourceFault h = absurd h
can_end code.TooLarge h = absurd h
can_end code.NotJson h = absurd h
can_end code.BadManifest h = absurd h
can_end code.BadByte h = absurd h
can_end code.IllTyped h = absurd h
can_end code.NotDefinite h = absurd h
can_end code.TwoDefinitions h = absurd h
can_end code.NoDefinition h = absurd h
can_end code.TypeClash h = absurd h
can_end code.NoEntry h = absurd h
can_end code.EntryShape h = absurd h
can_end code.NoExport h = absurd h
can_end code.ExportShape h = absurd h
can_end code.TooManyDemands h = absurd h
can_end code.TooMuchCode h = absurd h
can_end code.NameClash h = absurd h

-- a reading step never ends with a write fault
pub no_write : (c : Code) → CanStop (Some c) → c ≡ code.WriteFault → ⊥
no_write c h e = let P : Code → Type 0 = λ x. CanStop (Some x) in subst P e h

pub no_done : (c : Code) → CanStop (Some c) → c ≡ code.Done → ⊥
no_done c h e = let P : Code → Type 0 = λ x. CanStop (Some x) in subst P e h

not_free : (r : Refusal) (P : Type 0) → (is_free r.code ≡ true) ⊎ P → is_free r.code ≡ false → P
not_free r P (inl h) f = absurd (let e : true ≡ false = sym h ∙ f in cc)
not_free r P (inr h) f = h

pub manifest_ends : (old new : Option FileMap) (manifest outdir : List ℕ) (r : Refusal) → PlanGives old manifest (Err r) → new ≡ old → is_free r.code ≡ false →
    IfSome old (λ files. Leaves files new manifest outdir (Err r))
manifest_ends None new manifest outdir r h e f = tt
manifest_ends (Some files) new manifest outdir r h e f = ([], ManifestRefused r (not_free r _ h f) refl refl, e)

pub module_ends : (old mid new : Option FileMap) (manifest outdir : List ℕ) (plan : Plan) (r : Refusal) → PlanGives old manifest (Ok plan) → mid ≡ old → ModuleGives mid plan (Err r) → new ≡ mid →
    is_free r.code ≡ false → IfSome old (λ files. Leaves files new manifest outdir (Err r))
module_ends None mid new manifest outdir plan r named same h e f = tt
module_ends (Some files) mid new manifest outdir plan r named same h e f =
    let gives : ModuleGives (Some files) plan (Err r) = subst (λ m. ModuleGives m plan (Err r)) same h in
    ([], ModuleRefused plan.file plan.entry plan.args r named (not_free r _ gives f) refl refl, e ∙ same)

-- what was read, where the shelf tells
reads_of : (files : FileMap) (plan : Plan) (m : Module) (place : ℕ) → ModuleGives (Some files) plan (Ok m) → place_among plan.entry (item_names m) ≡ Some place → Reads files plan.file plan.entry plan.args m place
reads_of files plan m place gives entered = record { text = gives.0; held = gives.1; form = gives.2; entered = entered }

-- the same for the entry and arguments of the plan
at_plan : (plan : Plan) (m : Module) (entry : List ℕ) (args : List Known) (answer : Result Left FixFault) → entry ≡ plan.entry → args ≡ plan.args → LeftGives m entry args answer → LeftGives m plan.entry plan.args answer
at_plan plan m entry args answer n a h = subst (λ x. LeftGives m plan.entry x answer) a (subst (λ x. LeftGives m x args answer) n h)

plan_refused : (files : FileMap) (manifest outdir : List ℕ) (plan : Plan) (m : Module) (fault : FixFault) (place : ℕ) → PlanGives (Some files) manifest (Ok plan)
    → Reads files plan.file plan.entry plan.args m place → LeavesAt m place plan.args (Err fault) → is_free (fault_code fault) ≡ false
    → Winnows files manifest outdir (Err (refusal (fault_code fault) detail.Nothing)) []
plan_refused files manifest outdir plan m fix.TooManyDemands place named reads leaves f = PlanRefused plan.file plan.entry plan.args m place _ named reads (TooMany leaves refl) refl refl
plan_refused files manifest outdir plan m fix.TooMuchCode place named reads leaves f = PlanRefused plan.file plan.entry plan.args m place _ named reads (TooMuch leaves refl) refl refl
plan_refused files manifest outdir plan m fix.OutOfMemory place named reads leaves f = absurd (cc)

pub planned_ends : (old mid new : Option FileMap) (manifest outdir entry : List ℕ) (args : List Known) (plan : Plan) (m : Module) (fault : FixFault) (r : Refusal) → PlanGives old manifest (Ok plan) → mid ≡ old
    → ModuleGives mid plan (Ok m) → new ≡ mid → entry ≡ plan.entry → args ≡ plan.args → LeftGives m entry args (Err fault) → r ≡ refusal (fault_code fault) detail.Nothing → is_free r.code ≡ false →
    IfSome old (λ files. Leaves files new manifest outdir (Err r))
planned_ends None mid new manifest outdir entry args plan m fault r named same h e n a left is f = tt
planned_ends (Some files) mid new manifest outdir entry args plan m fault r named same h e n a left is f =
    let gives : ModuleGives (Some files) plan (Ok m) = subst (λ x. ModuleGives x plan (Ok m)) same h in
    let here = at_plan plan m entry args (Err fault) n a left in
    let free : is_free (fault_code fault) ≡ false = sym (ap (λ (x : Refusal). is_free x.code) is) ∙ f in
    let refused = plan_refused files manifest outdir plan m fault here.place named (reads_of files plan m here.place gives here.entered) here.leaves free in
    ([], subst (λ x. Winnows files manifest outdir (Err x) []) (sym is) refused, e ∙ same)

pub written_ends : (old mid late new : Option FileMap) (manifest outdir entry : List ℕ) (args : List Known) (plan : Plan) (m : Module) (left : Left) → PlanGives old manifest (Ok plan) → mid ≡ old
    → ModuleGives mid plan (Ok m) → late ≡ mid → entry ≡ plan.entry → args ≡ plan.args → LeftGives m entry args (Ok left) → Put late new (output_name outdir plan.file) left.text →
    IfSome old (λ files. Leaves files new manifest outdir (Ok left.report))
written_ends None mid late new manifest outdir entry args plan m left named same h e n a is put = tt
written_ends (Some files) mid late new manifest outdir entry args plan m left named same h e n a is put =
    let gives : ModuleGives (Some files) plan (Ok m) = subst (λ x. ModuleGives x plan (Ok m)) same h in
    let here = at_plan plan m entry args (Ok left) n a is in
    let start = start_of m here.place plan.args in
    let changed : Put (Some files) new (output_name outdir plan.file) left.text = subst (λ x. Put x new (output_name outdir plan.file) left.text) (e ∙ same) put in (
      (output_name outdir plan.file, module_text (left_module m start here.leaves.plan)) ∷ [],
      Written plan.file plan.entry plan.args m here.place here.leaves.plan named (reads_of files plan m here.place gives here.entered) here.leaves.planned (ap (λ r. Ok r) here.leaves.written.report) refl,
      changed ∙ ap (λ t. Some (map.insert files (output_name outdir plan.file) t)) here.leaves.written.text,
    )

pub fault_can_end : (fault : FixFault) (r : Refusal) → r ≡ refusal (fault_code fault) detail.Nothing → CanEnd r.code
fault_can_end fix.TooManyDemands r e = subst (λ (x : Refusal). CanEnd x.code) (sym e) tt
fault_can_end fix.TooMuchCode r e = subst (λ (x : Refusal). CanEnd x.code) (sym e) tt
fault_can_end fix.OutOfMemory r e = subst (λ (x : Refusal). CanEnd x.code) (sym e) tt
