-- The outcome of the words is one.
use Rattle.std.proofs.Common.{◌≡◌, ◌∙◌, ℕ, ℤ, List, [], ◌∷◌, length, map, Option, Some, None, Result, Ok, Err, sym, ap, subst}
use Rattle.ir_types.specs.declared.scalar.Known.{Known}
use Rattle.manifest.specs.declared.fault.Manifest.{Manifest}
use Rattle.manifest.specs.Manifest.{HasManifest}
use Rattle.occam_base.specs.declared.code.Code.{Code}
use Rattle.occam_base.specs.Files.{FileMap, file_of}
use Rattle.ir_syntax.specs.declared.item.Item.{Item}
use Rattle.ir_syntax.specs.declared.item.Module.{Module}
use Rattle.straight_form.specs.Form.{IsStraightForm}
use Rattle.name_table.specs.Places.{place_among}
use Rattle.ir_writer.specs.Modules.{item_names, module_text}
use Rattle.straight_plan.specs.declared.cut.Ask.{Ask}
use Rattle.straight_plan.specs.declared.cut.Cut.{Cut}
use Rattle.straight_plan.specs.Left.{AreTooMany, IsTooMuch, IsPlanned, IsLeastPlan, left_module}
use Rattle.program_loader.specs.declared.refusal.Refusal.{Refusal}
use Rattle.occam_tool.specs.declared.job.Report.{Report}
use Rattle.occam_tool.specs.Manifests.{IsSingleManifest, known_arg}
use Rattle.occam_tool.specs.Lines.{answer_code, winnow_line, check_line}
use Rattle.occam_tool.specs.Outcome.{NamesModule, Outputs, Winnows, RefusesManifest, RefusesModule, RefusesPlan, Reads, start_of, report_of, output_name}
use Rattle.occam_tool.specs.Outcome.Winnows.{ManifestRefused, ModuleRefused, PlanRefused, Written}
use Rattle.occam_tool.specs.Outcome.RefusesManifest.{ManifestAbsent, NotSingle}
use Rattle.occam_tool.specs.Outcome.RefusesModule.{ModuleAbsent, NotStraight}
use Rattle.occam_tool.specs.Outcome.RefusesPlan.{TooMany, TooMuch}
use Rattle.ir_syntax.specs.Programs.{ProgramData}
use Rattle.program_loader.specs.Loading.{IsLoaded, RefusesLoading}
use Rattle.occam_tool.specs.declared.job.Checked.{Checked}
use Rattle.occam_tool.specs.Counts.{counts_of}
use Rattle.occam_tool.specs.Checkings.{Checks}
use Rattle.command_words.specs.Words.{Command, command_of, IsRun}
use Rattle.command_words.specs.Words.Command.{Winnow, Check, Run}
use Rattle.occam_tool.specs.Program.{IsOutcome}
use Rattle.occam_tool.specs.Program.IsOutcome.{OfNoCommand, OfWinnow, OfCheck, OfRun}

-- the laws that it rests on
pub record OneLaws : Type 0 where
  pub one_module : (text entry : List ℕ) (count : ℕ) (m n : Module) → IsStraightForm text entry count m → IsStraightForm text entry count n → m ≡ n
  pub one_manifest : (text : List ℕ) (m n : Manifest) → HasManifest text m → HasManifest text n → m ≡ n
  pub one_plan : (items : List Item) (start : Ask) (p q : List Cut) → IsLeastPlan items start p → IsLeastPlan items start q → p ≡ q
  pub not_many : (items : List Item) (start : Ask) (plan : List Cut) → IsPlanned items start plan → AreTooMany items start → ⊥
  pub not_much : (items : List Item) (start : Ask) (plan : List Cut) → IsPlanned items start plan → IsTooMuch items start → ⊥
  pub not_both : (items : List Item) (start : Ask) → IsTooMuch items start → AreTooMany items start → ⊥
  pub one_loaded : (files : FileMap) (name : List ℕ) (m n : Manifest) (p q : ProgramData) → IsLoaded files name m p → IsLoaded files name n q → p.modules ≡ q.modules
  pub one_refusal : (files : FileMap) (name : List ℕ) (r s : Refusal) → RefusesLoading files name r → RefusesLoading files name s → r ≡ s
  pub not_refused : (files : FileMap) (name : List ℕ) (m : Manifest) (p : ProgramData) (r : Refusal) → IsLoaded files name m p → RefusesLoading files name r → ⊥

one_some : {X : Type 0} (x y : X) → Some x ≡ Some y → x ≡ y
one_some x y e = cc

one_head : {X : Type 0} (x y : X) → x ∷ [] ≡ y ∷ [] → x ≡ y
one_head x y e = cc

no_none : {X : Type 0} {P : Type 0} (x : X) → None ≡ Some x → P
no_none x e = absurd (cc)

-- one text is held under a name
one_text : (files : FileMap) (file text other : List ℕ) → file_of files file ≡ Some text → file_of files file ≡ Some other → text ≡ other
one_text files file text other a b = one_some text other (sym a ∙ b)

-- ---- what a manifest names is one

abbrev SameNames : (file entry : List ℕ) (args : List Known) (f e : List ℕ) (a : List Known) → Type 0
SameNames file entry args f e a = (file ≡ f) × (entry ≡ e) × (args ≡ a)

one_plan : OneLaws → (text file entry : List ℕ) (args : List Known) (f e : List ℕ) (a : List Known) → IsSingleManifest text file entry args → IsSingleManifest text f e a → SameNames file entry args f e a
one_plan laws text file entry args f e a x y =
    let same : x.manifest ≡ y.manifest = laws.one_manifest text x.manifest y.manifest x.is y.is in (
      one_head file f (sym x.single.one_module ∙ ap (λ (m : Manifest). m.modules) same ∙ y.single.one_module),
      sym x.single.entry_is ∙ ap (λ (m : Manifest). m.entry) same ∙ y.single.entry_is,
      x.single.args_are ∙ ap (λ (m : Manifest). map known_arg m.args) same ∙ sym y.single.args_are,
    )

one_name : OneLaws → (files : FileMap) (manifest file entry : List ℕ) (args : List Known) (f e : List ℕ) (a : List Known) → NamesModule files manifest file entry args → NamesModule files manifest f e a
    → SameNames file entry args f e a
one_name laws files manifest file entry args f e a x y =
    one_plan laws x.0 file entry args f e a x.2 (subst (λ t. IsSingleManifest t f e a) (sym (one_text files manifest x.0 y.0 x.1 y.1)) y.2)

-- what holds of the one holds of the other
moved : (P : List ℕ → List ℕ → List Known → Type 0) (file entry : List ℕ) (args : List Known) (f e : List ℕ) (a : List Known) → SameNames file entry args f e a → P f e a → P file entry args
moved P file entry args f e a same h = subst (λ x. P file entry x) (sym same.2) (subst (λ x. P file x a) (sym same.1) (subst (λ x. P x e a) (sym same.0) h))

-- a manifest that names a module isn't refused
no_refusal : {P : Type 0} (files : FileMap) (manifest file entry : List ℕ) (args : List Known) (r : Refusal) → NamesModule files manifest file entry args → RefusesManifest files manifest r → P
no_refusal files manifest file entry args r names (ManifestAbsent h e) = no_none names.0 (sym h ∙ names.1)
no_refusal files manifest file entry args r names (NotSingle text h none e) =
    absurd (none file entry args (subst (λ t. IsSingleManifest t file entry args) (one_text files manifest names.0 text names.1 h) names.2))

one_manifest_refusal : (files : FileMap) (manifest : List ℕ) (r q : Refusal) → RefusesManifest files manifest r → RefusesManifest files manifest q → r ≡ q
one_manifest_refusal files manifest r q (ManifestAbsent h e) (ManifestAbsent i d) = e ∙ sym d
one_manifest_refusal files manifest r q (ManifestAbsent h e) (NotSingle text i none d) = no_none text (sym h ∙ i)
one_manifest_refusal files manifest r q (NotSingle text h none e) (ManifestAbsent i d) = no_none text (sym i ∙ h)
one_manifest_refusal files manifest r q (NotSingle text h none e) (NotSingle other i nor d) = e ∙ sym d

-- ---- what is read is one

one_module_refusal : (files : FileMap) (file entry : List ℕ) (args : List Known) (r q : Refusal) → RefusesModule files file entry args r → RefusesModule files file entry args q → r ≡ q
one_module_refusal files file entry args r q (ModuleAbsent h e) (ModuleAbsent i d) = e ∙ sym d
one_module_refusal files file entry args r q (ModuleAbsent h e) (NotStraight text i none d) = no_none text (sym h ∙ i)
one_module_refusal files file entry args r q (NotStraight text h none e) (ModuleAbsent i d) = no_none text (sym i ∙ h)
one_module_refusal files file entry args r q (NotStraight text h none e) (NotStraight other i nor d) = e ∙ sym d

-- a module of the form isn't refused
no_module_refusal : {P : Type 0} (files : FileMap) (file entry : List ℕ) (args : List Known) (m : Module) (place : ℕ) (r : Refusal) → Reads files file entry args m place
    → RefusesModule files file entry args r → P
no_module_refusal files file entry args m place r reads (ModuleAbsent h e) = no_none reads.text (sym h ∙ reads.held)
no_module_refusal files file entry args m place r reads (NotStraight other h none e) =
    absurd (none m (subst (λ t. IsStraightForm t entry (length args) m) (one_text files file reads.text other reads.held h) reads.form))

one_reading : OneLaws → (files : FileMap) (file entry : List ℕ) (args : List Known) (m n : Module) (p q : ℕ) → Reads files file entry args m p → Reads files file entry args n q → (m ≡ n) × (p ≡ q)
one_reading laws files file entry args m n p q a b =
    let texts : b.text ≡ a.text = one_text files file b.text a.text b.held a.held in
    let modules : m ≡ n = laws.one_module a.text entry (length args) m n a.form (subst (λ t. IsStraightForm t entry (length args) n) texts b.form) in
    (modules, one_some p q (sym a.entered ∙ ap (λ (x : Module). place_among entry (item_names x)) modules ∙ b.entered))

-- ---- what is needed is one

one_plan_refusal : OneLaws → (m : Module) (start : Ask) (r q : Refusal) → RefusesPlan m start r → RefusesPlan m start q → r ≡ q
one_plan_refusal laws m start r q (TooMany h e) (TooMany i d) = e ∙ sym d
one_plan_refusal laws m start r q (TooMany h e) (TooMuch i d) = absurd (laws.not_both m.items start i h)
one_plan_refusal laws m start r q (TooMuch h e) (TooMany i d) = absurd (laws.not_both m.items start h i)
one_plan_refusal laws m start r q (TooMuch h e) (TooMuch i d) = e ∙ sym d

no_plan_refusal : {P : Type 0} → OneLaws → (m : Module) (start : Ask) (plan : List Cut) (r : Refusal) → IsPlanned m.items start plan → RefusesPlan m start r → P
no_plan_refusal laws m start plan r planned (TooMany h e) = absurd (laws.not_many m.items start plan planned h)
no_plan_refusal laws m start plan r planned (TooMuch h e) = absurd (laws.not_much m.items start plan planned h)

-- the same of a module that was read, at the same names
at_reading : OneLaws → (P : Module → ℕ → Type 0) (files : FileMap) (file entry : List ℕ) (args : List Known) (m n : Module) (p q : ℕ) → Reads files file entry args m p → Reads files file entry args n q → P n q → P m p
at_reading laws P files file entry args m n p q a b h =
    let same = one_reading laws files file entry args m n p q a b in subst (λ x. P x p) (sym same.0) (subst (λ x. P n x) (sym same.1) h)

-- ---- winnowing

abbrev Same : (a b : Result Report Refusal) (o p : Outputs) → Type 0
Same a b o p = (a ≡ b) × (o ≡ p)

-- what is read, and why what is needed is refused
abbrev Refused : FileMap → Refusal → Module → ℕ → List ℕ → List ℕ → List Known → Type 0
Refused files r m place file entry args = Reads files file entry args m place × RefusesPlan m (start_of m place args) r

abbrev Planned : FileMap → Module → ℕ → List Cut → List ℕ → List ℕ → List Known → Type 0
Planned files m place plan file entry args = Reads files file entry args m place × IsPlanned m.items (start_of m place args) plan

both_refused : OneLaws → (files : FileMap) (file entry : List ℕ) (args : List Known) (m n : Module) (p k : ℕ) (r q : Refusal) → Refused files r m p file entry args → Refused files q n k file entry args → r ≡ q
both_refused laws files file entry args m n p k r q a b =
    one_plan_refusal laws m (start_of m p args) r q a.1 (at_reading laws (λ x y. RefusesPlan x (start_of x y args) q) files file entry args m n p k a.0 b.0 b.1)

one_refused : {P : Type 0} → OneLaws → (files : FileMap) (file entry : List ℕ) (args : List Known) (m n : Module) (p k : ℕ) (r : Refusal) (plan : List Cut) → Refused files r m p file entry args
    → Planned files n k plan file entry args → P
one_refused laws files file entry args m n p k r plan a b =
    no_plan_refusal laws m (start_of m p args) plan r (at_reading laws (λ x y. IsPlanned x.items (start_of x y args) plan) files file entry args m n p k a.0 b.0 b.1) a.1

-- what is left, as the answer and the output say
abbrev Done : List ℕ → List ℕ → List Known → Module → ℕ → List Cut → Result Report Refusal × Outputs
Done outdir file args m place plan = (Ok (report_of m (start_of m place args) plan), (output_name outdir file, module_text (left_module m (start_of m place args) plan)) ∷ [])

both_planned : OneLaws → (files : FileMap) (outdir file entry : List ℕ) (args : List Known) (m n : Module) (p k : ℕ) (plan other : List Cut) → Planned files m p plan file entry args
    → Planned files n k other file entry args → Done outdir file args m p plan ≡ Done outdir file args n k other
both_planned laws files outdir file entry args m n p k plan other a b =
    let same = one_reading laws files file entry args m n p k a.0 b.0 in
    let here : IsPlanned m.items (start_of m p args) other = at_reading laws (λ x y. IsPlanned x.items (start_of x y args) other) files file entry args m n p k a.0 b.0 b.1 in
    let plans : plan ≡ other = laws.one_plan m.items (start_of m p args) plan other a.1.least here.least in
    λ i. Done outdir file args (same.0 i) (same.1 i) (plans i)

one_winnowing : OneLaws → (files : FileMap) (manifest outdir : List ℕ) (a b : Result Report Refusal) (o p : Outputs) → Winnows files manifest outdir a o → Winnows files manifest outdir b p → Same a b o p
one_winnowing laws files manifest outdir a b o p (ManifestRefused r h e n) (ManifestRefused q i d k) = (e ∙ ap (λ x. Err x) (one_manifest_refusal files manifest r q h i) ∙ sym d, n ∙ sym k)
one_winnowing laws files manifest outdir a b o p (ManifestRefused r h e n) (ModuleRefused file entry args q names i d k) = no_refusal files manifest file entry args r names h
one_winnowing laws files manifest outdir a b o p (ManifestRefused r h e n) (PlanRefused file entry args m place q names reads i d k) = no_refusal files manifest file entry args r names h
one_winnowing laws files manifest outdir a b o p (ManifestRefused r h e n) (Written file entry args m place plan names reads planned d k) = no_refusal files manifest file entry args r names h
one_winnowing laws files manifest outdir a b o p (ModuleRefused file entry args r names h e n) (ManifestRefused q i d k) = no_refusal files manifest file entry args q names i
one_winnowing laws files manifest outdir a b o p (ModuleRefused file entry args r names h e n) (ModuleRefused f g x q there i d k) =
    let back = moved (λ c d y. RefusesModule files c d y q) file entry args f g x (one_name laws files manifest file entry args f g x names there) i in
    (e ∙ ap (λ y. Err y) (one_module_refusal files file entry args r q h back) ∙ sym d, n ∙ sym k)
one_winnowing laws files manifest outdir a b o p (ModuleRefused file entry args r names h e n) (PlanRefused f g x m place q there reads i d k) =
    let back = moved (λ c d y. Reads files c d y m place) file entry args f g x (one_name laws files manifest file entry args f g x names there) reads in
    no_module_refusal files file entry args m place r back h
one_winnowing laws files manifest outdir a b o p (ModuleRefused file entry args r names h e n) (Written f g x m place plan there reads planned d k) =
    let back = moved (λ c d y. Reads files c d y m place) file entry args f g x (one_name laws files manifest file entry args f g x names there) reads in
    no_module_refusal files file entry args m place r back h
one_winnowing laws files manifest outdir a b o p (PlanRefused file entry args m place r names reads h e n) (ManifestRefused q i d k) = no_refusal files manifest file entry args q names i
one_winnowing laws files manifest outdir a b o p (PlanRefused file entry args m place r names reads h e n) (ModuleRefused f g x q there i d k) =
    let back = moved (λ c d y. RefusesModule files c d y q) file entry args f g x (one_name laws files manifest file entry args f g x names there) i in
    no_module_refusal files file entry args m place q reads back
one_winnowing laws files manifest outdir a b o p (PlanRefused file entry args m place r names reads h e n) (PlanRefused f g x u v q there holds i d k) =
    let back = moved (Refused files q u v) file entry args f g x (one_name laws files manifest file entry args f g x names there) (holds, i) in
    (e ∙ ap (λ y. Err y) (both_refused laws files file entry args m u place v r q (reads, h) back) ∙ sym d, n ∙ sym k)
one_winnowing laws files manifest outdir a b o p (PlanRefused file entry args m place r names reads h e n) (Written f g x u v plan there holds planned d k) =
    let back = moved (Planned files u v plan) file entry args f g x (one_name laws files manifest file entry args f g x names there) (holds, planned) in
    one_refused laws files file entry args m u place v r plan (reads, h) back
one_winnowing laws files manifest outdir a b o p (Written file entry args m place plan names reads planned e n) (ManifestRefused q i d k) = no_refusal files manifest file entry args q names i
one_winnowing laws files manifest outdir a b o p (Written file entry args m place plan names reads planned e n) (ModuleRefused f g x q there i d k) =
    let back = moved (λ c d y. RefusesModule files c d y q) file entry args f g x (one_name laws files manifest file entry args f g x names there) i in
    no_module_refusal files file entry args m place q reads back
one_winnowing laws files manifest outdir a b o p (Written file entry args m place plan names reads planned e n) (PlanRefused f g x u v q there holds i d k) =
    let back = moved (Refused files q u v) file entry args f g x (one_name laws files manifest file entry args f g x names there) (holds, i) in
    one_refused laws files file entry args u m v place q plan back (reads, planned)
one_winnowing laws files manifest outdir a b o p (Written file entry args m place plan names reads planned e n) (Written f g x u v other there holds right d k) =
    let same = one_name laws files manifest file entry args f g x names there in
    let back = moved (Planned files u v other) file entry args f g x same (holds, right) in
    let here : Done outdir file args m place plan ≡ Done outdir file args u v other = both_planned laws files outdir file entry args m u place v plan other (reads, planned) back in
    let whole : Done outdir file args m place plan ≡ Done outdir f x u v other = here ∙ (λ i. Done outdir (same.0 i) (same.2 i) u v other) in
    (e ∙ ap (λ (y : Result Report Refusal × Outputs). y.0) whole ∙ sym d, n ∙ ap (λ (y : Result Report Refusal × Outputs). y.1) whole ∙ sym k)

-- ---- checking

one_checking : OneLaws → (files : FileMap) (manifest : List ℕ) (a b : Result Checked Refusal) → Checks files manifest a → Checks files manifest b → a ≡ b
one_checking laws files manifest (Ok a) (Ok b) x y =
    let modules = laws.one_loaded files manifest x.deployment y.deployment x.program y.program x.loaded y.loaded in
    ap (λ c. Ok c) (x.counts_are ∙ ap counts_of modules ∙ sym y.counts_are)
one_checking laws files manifest (Ok a) (Err r) x y = absurd (laws.not_refused files manifest x.deployment x.program r x.loaded y)
one_checking laws files manifest (Err r) (Ok b) x y = absurd (laws.not_refused files manifest y.deployment y.program r y.loaded x)
one_checking laws files manifest (Err r) (Err s) x y = ap (λ c. Err c) (laws.one_refusal files manifest r s x y)

-- ---- the words

abbrev SameOutcome : (s t : Code) (o p : Outputs) (k l : List ℕ) → Type 0
SameOutcome s t o p k l = (s ≡ t) × (o ≡ p) × (k ≡ l)

one_command : (words : List (List ℕ)) (a b : Option Command) → command_of words ≡ a → command_of words ≡ b → a ≡ b
one_command words a b e d = sym e ∙ d

manifest_of : Option Command → List ℕ
manifest_of None = []
manifest_of (Some (Winnow m o)) = m
manifest_of (Some (Check m)) = m
manifest_of (Some (Run m n z)) = m

folder_of : Option Command → List ℕ
folder_of None = []
folder_of (Some (Winnow m o)) = o
folder_of (Some (Check m)) = []
folder_of (Some (Run m n z)) = []

same_winnow : OneLaws → (files : FileMap) (s t : Code) (o p : Outputs) (k l : List ℕ) (m d n e : List ℕ) (a b : Result Report Refusal) → m ≡ n → d ≡ e
    → Winnows files m d a o → Winnows files n e b p → s ≡ answer_code a → t ≡ answer_code b → k ≡ winnow_line a → l ≡ winnow_line b → SameOutcome s t o p k l
same_winnow laws files s t o p k l m d n e a b same_name same_folder x y sa tb ka lb =
    let back : Winnows files m d b p = subst (λ c. Winnows files c d b p) (sym same_name) (subst (λ c. Winnows files n c b p) (sym same_folder) y) in
    let same = one_winnowing laws files m d a b o p x back in
    (sa ∙ ap answer_code same.0 ∙ sym tb, same.1, ka ∙ ap winnow_line same.0 ∙ sym lb)

same_check : OneLaws → (files : FileMap) (s t : Code) (o p : Outputs) (k l : List ℕ) (m n : List ℕ) (a b : Result Checked Refusal) → m ≡ n
    → Checks files m a → Checks files n b → o ≡ [] → p ≡ [] → s ≡ answer_code a → t ≡ answer_code b → k ≡ check_line a → l ≡ check_line b → SameOutcome s t o p k l
same_check laws files s t o p k l m n a b names x y oe pe sa tb ka lb =
    let same = one_checking laws files m a b x (subst (λ c. Checks files c b) (sym names) y) in
    (sa ∙ ap answer_code same ∙ sym tb, oe ∙ sym pe, ka ∙ ap check_line same ∙ sym lb)

not_run : {P : Type 0} → (words : List (List ℕ)) (m : List ℕ) (n : ℕ) (z : List ℤ) → (IsRun (command_of words) → ⊥) → command_of words ≡ Some (Run m n z) → P
not_run words m n z other e = absurd (other (subst IsRun (sym e) tt))

pub one_outcome : OneLaws → (words : List (List ℕ)) (files : FileMap) (source : Option (List ℕ)) (s t : Code) (o p : Outputs) (k l : List ℕ) → (IsRun (command_of words) → ⊥)
    → IsOutcome words files source s o k → IsOutcome words files source t p l
    → (s ≡ t) × (o ≡ p) × (k ≡ l)
unfolding manifest_of folder_of
one_outcome laws words files source s t o p k l other (OfNoCommand c se oe ke) (OfNoCommand d te pe le) = (se ∙ sym te, oe ∙ sym pe, ke ∙ sym le)
one_outcome laws words files source s t o p k l other (OfNoCommand c se oe ke) (OfWinnow n e b d y te le) = absurd (let clash : None ≡ Some (Winnow n e) = sym c ∙ d in cc)
one_outcome laws words files source s t o p k l other (OfNoCommand c se oe ke) (OfCheck n b d y pe te le) = absurd (let clash : None ≡ Some (Check n) = sym c ∙ d in cc)
one_outcome laws words files source s t o p k l other (OfWinnow m f a c x se ke) (OfNoCommand d te pe le) = absurd (let clash : None ≡ Some (Winnow m f) = sym d ∙ c in cc)
one_outcome laws words files source s t o p k l other (OfWinnow m f a c x se ke) (OfWinnow n e b d y te le) =
    let same = one_command words (Some (Winnow m f)) (Some (Winnow n e)) c d in
    same_winnow laws files s t o p k l m f n e a b (ap manifest_of same) (ap folder_of same) x y se te ke le
one_outcome laws words files source s t o p k l other (OfWinnow m f a c x se ke) (OfCheck n b d y pe te le) = absurd (let clash : Some (Winnow m f) ≡ Some (Check n) = sym c ∙ d in cc)
one_outcome laws words files source s t o p k l other (OfCheck m a c x oe se ke) (OfNoCommand d te pe le) = absurd (let clash : None ≡ Some (Check m) = sym d ∙ c in cc)
one_outcome laws words files source s t o p k l other (OfCheck m a c x oe se ke) (OfWinnow n e b d y te le) = absurd (let clash : Some (Check m) ≡ Some (Winnow n e) = sym c ∙ d in cc)
one_outcome laws words files source s t o p k l other (OfCheck m a c x oe se ke) (OfCheck n b d y pe te le) =
    same_check laws files s t o p k l m n a b (ap manifest_of (one_command words (Some (Check m)) (Some (Check n)) c d)) x y oe pe se te ke le
one_outcome laws words files source s t o p k l other (OfRun m n z a x c r oe se ke) second = not_run words m n z other c
one_outcome laws words files source s t o p k l other first (OfRun m n z a x c r oe se ke) = not_run words m n z other c
