-- Why a file is refused.
use Rattle.std.proofs.Common.{◌≡◌, ◌∙◌, ℕ, ◌<◌, ◌⊎◌, inl, inr, true, List, length, Option, Some, None, Result, Ok, Err, refl, sym, ap, subst, arith}
use Rattle.occam_base.specs.declared.code.Code.TheVariants as code
use Rattle.occam_base.specs.Files.{FileMap, file_of}
use Rattle.ir_syntax.specs.declared.item.Module.{Module}
use Rattle.straight_form.specs.Form.{IsStraightForm}
use Rattle.program_loader.specs.declared.refusal.Detail.TheVariants as detail
use Rattle.program_loader.specs.declared.refusal.Refusal.{Refusal}
use Rattle.occam_tool.specs.declared.plan.Plan.{Plan}
use Rattle.program_loader.specs.declared.reading.Stop.{Stop}
use Rattle.program_loader.specs.declared.reading.Stop.TheVariants as stop
use Rattle.occam_tool.specs.Manifests.{PlanOf}
use Rattle.program_loader.specs.Reading.{WholeGives, WholeOf}
use Rattle.program_loader.specs.Refusing.{refusal}
use Rattle.occam_tool.specs.Outcome.{is_free}
use Rattle.occam_tool.specs.Outcome.RefusesManifest.{NotSingle}
use Rattle.occam_tool.specs.Outcome.RefusesModule.{NotStraight}
use Rattle.occam_tool.specs.Steps.{PlanGives, ModuleGives}

abbrev OrMemory : Refusal → Refusal → Type 0
OrMemory r wanted = (r ≡ wanted) ⊎ (r ≡ refusal code.OutOfMemory detail.Nothing)

-- want of memory is free
or_free : (r wanted : Refusal) (P : Type 0) → OrMemory r wanted → (r ≡ wanted → P) → (is_free r.code ≡ true) ⊎ P
or_free r wanted P (inl e) f = inr (f e)
or_free r wanted P (inr e) f = inl (ap (λ (x : Refusal). is_free x.code) e)

-- a file that is past the limit is there, and is longer
large_file : (o : Option (List ℕ)) (limit : ℕ) → WholeGives o limit (Err stop.TooLarge) → (file : List ℕ) × (o ≡ Some file) × (limit < length file)
large_file None limit h = absurd h
large_file (Some file) limit h = (file, refl, h)

-- a file that was read is there
read_file : (o : Option (List ℕ)) (limit : ℕ) (text : List ℕ) → WholeGives o limit (Ok text) → o ≡ Some text
read_file None limit text h = absurd h
read_file (Some file) limit text h = ap (λ f. Some f) (sym h.0)

absent_file : (o : Option (List ℕ)) (limit : ℕ) → WholeGives o limit (Err stop.Absent) → o ≡ None
absent_file None limit h = refl
absent_file (Some file) limit h = absurd h

-- the fact about what was read, at the name itself
at_name : (files : Option FileMap) (read name file : List ℕ) (limit : ℕ) (a b : Result (List ℕ) Stop) → read ≡ name → name ≡ file → a ≡ b → WholeOf files read limit a → WholeOf files file limit b
at_name files read name file limit a b e n is h = subst (WholeOf files file limit) is (subst (λ m. WholeOf files m limit a) (e ∙ n) h)

at_detail : (r : Refusal) (name file : List ℕ) → name ≡ file → OrMemory r (refusal code.NotInSubset (detail.At name 0)) → OrMemory r (refusal code.NotInSubset (detail.At file 0))
at_detail r name file n h = subst (λ m. OrMemory r (refusal code.NotInSubset (detail.At m 0))) n h

plan_large_told : (files : Option FileMap) (manifest : List ℕ) (r : Refusal) → WholeOf files manifest 1048576 (Err stop.TooLarge)
    → OrMemory r (refusal code.NotInSubset (detail.At manifest 0)) → PlanGives files manifest (Err r)
plan_large_told None manifest r h is = tt
plan_large_told (Some files) manifest r h is =
    let found = large_file (file_of files manifest) 1048576 h in
    or_free r _ _ is (λ same. NotSingle found.0 found.1 (λ file entry args single. omega (arith, single.size, found.2)) same)

plan_other_told : (files : Option FileMap) (manifest text : List ℕ) (r : Refusal) → WholeOf files manifest 1048576 (Ok text) → PlanOf text None
    → OrMemory r (refusal code.NotInSubset (detail.At manifest 0)) → PlanGives files manifest (Err r)
plan_other_told None manifest text r h other is = tt
plan_other_told (Some files) manifest text r h other is =
    let found = read_file (file_of files manifest) 1048576 text h in
    or_free r _ _ is (λ same. NotSingle text found other same)

module_large_told : (files : Option FileMap) (plan : Plan) (r : Refusal) → WholeOf files plan.file 16777216 (Err stop.TooLarge)
    → OrMemory r (refusal code.NotInSubset (detail.At plan.file 0)) → ModuleGives files plan (Err r)
module_large_told None plan r h is = tt
module_large_told (Some files) plan r h is =
    let found = large_file (file_of files plan.file) 16777216 h in
    or_free r _ _ is (λ same. NotStraight found.0 found.1 (λ m form. omega (arith, form.size, found.2)) same)

module_other_told : (files : Option FileMap) (plan : Plan) (text : List ℕ) (r : Refusal) → WholeOf files plan.file 16777216 (Ok text)
    → ((m : Module) → IsStraightForm text plan.entry (length plan.args) m → ⊥) → OrMemory r (refusal code.NotInSubset (detail.At plan.file 0)) → ModuleGives files plan (Err r)
module_other_told None plan text r h other is = tt
module_other_told (Some files) plan text r h other is =
    let found = read_file (file_of files plan.file) 16777216 text h in
    or_free r _ _ is (λ same. NotStraight text found other same)

too_large : (e : Stop) → e ≡ stop.TooLarge → (let a : Result (List ℕ) Stop = Err e in a ≡ Err stop.TooLarge)
too_large e is = ap (λ x. Err x) is

pub plan_large : (files : Option FileMap) (manifest read name : List ℕ) (e : Stop) (r : Refusal) → read ≡ name → name ≡ manifest → e ≡ stop.TooLarge → WholeOf files read 1048576 (Err e)
    → OrMemory r (refusal code.NotInSubset (detail.At name 0)) → PlanGives files manifest (Err r)
plan_large files manifest read name e r same is large h refused =
    plan_large_told files manifest r (at_name files read name manifest 1048576 (Err e) (Err stop.TooLarge) same is (too_large e large) h) (at_detail r name manifest is refused)

pub plan_other : (files : Option FileMap) (manifest read name text seen : List ℕ) (plan : Option Plan) (r : Refusal) → read ≡ name → name ≡ manifest → seen ≡ text → plan ≡ None
    → WholeOf files read 1048576 (Ok text) → PlanOf seen plan → OrMemory r (refusal code.NotInSubset (detail.At name 0)) → PlanGives files manifest (Err r)
plan_other files manifest read name text seen plan r same is shown none h other refused =
    plan_other_told files manifest text r (at_name files read name manifest 1048576 (Ok text) (Ok text) same is refl h)
    (subst (λ s. PlanOf s None) shown (subst (PlanOf seen) none other)) (at_detail r name manifest is refused)

pub module_large : (files : Option FileMap) (plan : Plan) (read name : List ℕ) (e : Stop) (r : Refusal) → read ≡ name → name ≡ plan.file → e ≡ stop.TooLarge → WholeOf files read 16777216 (Err e)
    → OrMemory r (refusal code.NotInSubset (detail.At name 0)) → ModuleGives files plan (Err r)
module_large files plan read name e r same is large h refused =
    module_large_told files plan r (at_name files read name plan.file 16777216 (Err e) (Err stop.TooLarge) same is (too_large e large) h) (at_detail r name plan.file is refused)

pub module_other : (files : Option FileMap) (plan : Plan) (read name text seen entry : List ℕ) (count : ℕ) (r : Refusal) → read ≡ name → name ≡ plan.file → seen ≡ text → entry ≡ plan.entry → count ≡ length plan.args
    → WholeOf files read 16777216 (Ok text) → ((m : Module) → IsStraightForm seen entry count m → ⊥) → OrMemory r (refusal code.NotInSubset (detail.At name 0)) → ModuleGives files plan (Err r)
module_other files plan read name text seen entry count r same is shown entered counted h other refused =
    module_other_told files plan text r (at_name files read name plan.file 16777216 (Ok text) (Ok text) same is refl h)
    (λ m form. other m (subst (λ s. IsStraightForm s entry count m) (sym shown) (subst (λ n. IsStraightForm text n count m) (sym entered) (subst (λ k. IsStraightForm text plan.entry k m) (sym counted) form)))) (at_detail r name plan.file is refused)
