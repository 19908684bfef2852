-- What winnowing wrote means what it was given.
use Rattle.std.proofs.Common.{◌≡◌, ◌∙◌, ℕ, ◌<◌, ◌≤◌, ◌/◌, ◌^◌, ◌⊎◌, true, false, List, [], ◌∷◌, map, Option, Some, None, Result, Err, All, IsTrue, length, slice_get, refl, sym, ap, subst}
use Rattle.std.specs.Prelude.{IfSome, IsSome}
use Rattle.std.proofs.lemmas.List.Elements.{recursion_from_All, All-from_recursion}
use Rattle.ir_types.specs.declared.scalar.Known.{Known}
use Rattle.occam_base.specs.declared.code.Code.{Code}
use Rattle.occam_base.specs.declared.code.Code.TheVariants as code
use Rattle.occam_base.specs.Files.{FileMap}
use Rattle.ir_syntax.specs.declared.item.Module.{Module}
use Rattle.ir_syntax.specs.Formed.{Formed}
use Rattle.ir_syntax.specs.FormedBody.{item_name}
use Rattle.ir_syntax.specs.Straight.{IsStraight}
use Rattle.demands.specs.Names.{are_unknown}
use Rattle.demands.specs.Demands.{IsFunctionFor}
use Rattle.name_table.specs.Places.{place_among}
use Rattle.straight_form.specs.Form.{IsStraightForm}
use Rattle.straight_form.specs.Names.{is_plain_name}
use Rattle.ir_parser.specs.Spelled.{Spells}
use Rattle.ir_writer.specs.Modules.{item_names, module_text}
use Rattle.ir_writer.specs.Ranges.{AreBytes, InRange}
use Rattle.straight_plan.specs.declared.cut.Ask.{Ask}
use Rattle.straight_plan.specs.declared.cut.Cut.{Cut}
use Rattle.straight_plan.specs.Asked.{is_copied}
use Rattle.straight_plan.specs.Left.{IsLeastPlan, IsPlan, IsPlanned, left_module}
use Rattle.straight_reader.specs.Entered.{HasEntry}
use Rattle.straight_leave.specs.Entries.{IsNotNamed}
use Rattle.straight_leave.specs.PlainNames.{HaveNoCopyNames, HaveNoReservedNames}
use Rattle.straight_meaning.specs.declared.session.Session.{Session}
use Rattle.straight_meaning.specs.declared.session.Phase.TheVariants as phase
use Rattle.straight_meaning.specs.Run.{Moment, moment, run, Conforms, begun}
use Rattle.straight_meaning.specs.Kept.{Agree, kept_steps, longest_block}
use Rattle.straight_meaning.specs.Lawful.{IsFor}
use Rattle.program_loader.specs.declared.refusal.Refusal.{Refusal}
use Rattle.occam_tool.specs.declared.job.Report.{Report}
use Rattle.occam_tool.specs.Entering.{IsKnownWord, AreWords}
use Rattle.occam_tool.specs.Manifests.{IsWord, known_arg}
use Rattle.command_words.specs.Words.{command_of}
use Rattle.command_words.specs.Words.Command.{Winnow}
use Rattle.occam_tool.specs.Lines.{answer_code}
use Rattle.occam_tool.specs.Outcome.{Outputs, NamesModule, Reads, Winnows, RefusesManifest, RefusesModule, RefusesPlan, start_of, put_all}
use Rattle.occam_tool.specs.Outcome.Winnows.{ManifestRefused, ModuleRefused, PlanRefused, Written}
use Rattle.occam_tool.specs.Outcome.RefusesManifest.{ManifestAbsent, NotSingle}
use Rattle.occam_tool.specs.Outcome.RefusesModule.{ModuleAbsent, NotStraight}
use Rattle.occam_tool.specs.Outcome.RefusesPlan.{TooMany, TooMuch}
use Rattle.occam_tool.specs.Winnowings.{WinnowEnds}
use Rattle.occam_tool.specs.Keeping.{Keeps}
use Rattle.occam_tool.proofs.TakenArguments.{takes_at}
use Rattle.occam_tool.proofs.KnownArguments.{known_words}
use Rattle.occam_tool.proofs.Roots.{root_function, root_copied, root_named}
use Rattle.occam_tool.proofs.LeftFormed.{few_plan}
use Rattle.occam_tool.proofs.LeftNames.{left_bytes, no_copies, no_intrinsics, names_apart}

-- the laws that the promise rests on
pub record Laws : Type 0 where
  -- of the text that was read
  pub straight : (text entry : List ℕ) (count : ℕ) (m : Module) → IsStraightForm text entry count m → IsStraight m
  pub entered : (text entry : List ℕ) (count : ℕ) (m : Module) → IsStraightForm text entry count m → HasEntry m entry count
  pub plain : (text entry : List ℕ) (count : ℕ) (m : Module) → IsStraightForm text entry count m → All (λ i. IsTrue (is_plain_name (item_name i))) m.items
  -- of the least plan, and of what it leaves
  pub is_plan : (m : Module) (start : Ask) (plan : List Cut) → IsStraight m → IsFunctionFor start.pattern (slice_get m.items start.place)
      → (is_copied m.items start.place ≡ false → are_unknown start.pattern ≡ true) → IsNotNamed m.items start → IsLeastPlan m.items start plan → IsPlan m.items start plan
  pub left_straight : (m : Module) (start : Ask) (plan : List Cut) → IsStraight m → HaveNoCopyNames m.items → IsPlan m.items start plan → IsNotNamed m.items start → length plan < 2 ^ 32
      → IsStraight (left_module m start plan)
  pub left_names : (m : Module) (start : Ask) (plan : List Cut) → HaveNoReservedNames m.items → HaveNoReservedNames (left_module m start plan).items
  -- of straight modules
  pub formed : (m : Module) → IsStraight m → HaveNoReservedNames m.items → Formed m
  pub in_range : (m : Module) → IsStraight m → All (λ i. AreBytes (item_name i)) m.items → InRange m
  -- of the text that is written
  pub spells : (m : Module) → Formed m → InRange m → Spells (module_text m) m
  pub one : (text : List ℕ) (m n : Module) → Spells text m → Spells text n → m ≡ n
  -- of runs
  pub agree : (m : Module) (entry : ℕ) (args : List Known) (start : Ask) (plan : List Cut) (s : Session) → IsFor m entry args start plan → Conforms entry args s → Agree m (left_module m start plan) start plan s
  pub bound : (m : Module) (entry : ℕ) (args : List Known) (start : Ask) (plan : List Cut) (s : Session) (n : ℕ) → IsFor m entry args start plan → Conforms entry args s
      → begun m s n / longest_block m ≤ kept_steps m start plan s n
  pub goes_on : (m : Module) (entry : ℕ) (args : List Known) (s : Session) (n : ℕ) → IsStraight m → IsFunctionFor args (slice_get m.items entry) → Conforms entry args s → IsSome (run m s n)
  pub never_undefined : (m : Module) (entry : ℕ) (args : List Known) (s : Session) (n : ℕ) (x : Moment) → IsStraight m → IsFunctionFor args (slice_get m.items entry) → Conforms entry args s → moment m s n ≡ Some x
      → (x.phase ≡ phase.Running) ⊎ (x.phase ≡ phase.Finished)

-- ---- arguments of the manifest

words_of : (files : FileMap) (manifest file entry : List ℕ) (args : List Known) → NamesModule files manifest file entry args → AreWords args
words_of files manifest file entry args names =
    let single = names.2.single in
    let listed = names.2.manifest.args in
    subst AreWords (sym single.args_are) (All-from_recursion IsKnownWord (map known_arg listed) (known_words listed (recursion_from_All IsWord listed single.words)))

-- ---- no refusal is Done

not_done : {P : Type 0} (c d : Code) → c ≡ d → d ≡ code.Done → (c ≡ code.Done → ⊥) → P
not_done c d e f none = absurd (none (e ∙ f))

absent_not_done : code.Absent ≡ code.Done → ⊥
absent_not_done e = cc

outside_not_done : code.NotInSubset ≡ code.Done → ⊥
outside_not_done e = cc

many_not_done : code.TooManyDemands ≡ code.Done → ⊥
many_not_done e = cc

much_not_done : code.TooMuchCode ≡ code.Done → ⊥
much_not_done e = cc

code_is : (r q : Refusal) → r ≡ q → q.code ≡ r.code
code_is r q e = sym (ap (λ (x : Refusal). x.code) e)

manifest_not_done : {P : Type 0} → (files : FileMap) (manifest : List ℕ) (r : Refusal) → RefusesManifest files manifest r → r.code ≡ code.Done → P
manifest_not_done files manifest r (ManifestAbsent h e) d = not_done _ r.code (code_is r _ e) d absent_not_done
manifest_not_done files manifest r (NotSingle text h n e) d = not_done _ r.code (code_is r _ e) d outside_not_done

module_not_done : {P : Type 0} → (files : FileMap) (file entry : List ℕ) (args : List Known) (r : Refusal) → RefusesModule files file entry args r → r.code ≡ code.Done → P
module_not_done files file entry args r (ModuleAbsent h e) d = not_done _ r.code (code_is r _ e) d absent_not_done
module_not_done files file entry args r (NotStraight text h n e) d = not_done _ r.code (code_is r _ e) d outside_not_done

plan_not_done : {P : Type 0} → (m : Module) (start : Ask) (r : Refusal) → RefusesPlan m start r → r.code ≡ code.Done → P
plan_not_done m start r (TooMany h e) d = not_done _ r.code (code_is r _ e) d many_not_done
plan_not_done m start r (TooMuch h e) d = not_done _ r.code (code_is r _ e) d much_not_done

refused_code : (answer : Result Report Refusal) (r : Refusal) → answer ≡ Err r → answer_code answer ≡ code.Done → r.code ≡ code.Done
refused_code answer r e d = sym (ap answer_code e) ∙ d

-- ---- what was written

takes_of : (laws : Laws) (files : FileMap) (manifest file entry : List ℕ) (args : List Known) (m : Module) (place : ℕ) → NamesModule files manifest file entry args → Reads files file entry args m place
    → IsFunctionFor args (slice_get m.items place)
takes_of laws files manifest file entry args m place names reads =
    let count = length args in
    takes_at m entry args (laws.entered reads.text entry count m reads.form) (laws.straight reads.text entry count m reads.form) (words_of files manifest file entry args names)
    place (item_names m) (place_among entry (item_names m)) reads.entered refl refl (m ∷ []) refl

is_for : (laws : Laws) (files : FileMap) (manifest file entry : List ℕ) (args : List Known) (m : Module) (place : ℕ) (plan : List Cut) → NamesModule files manifest file entry args → Reads files file entry args m place
    → IsPlanned m.items (start_of m place args) plan → IsFor m place args (start_of m place args) plan
is_for laws files manifest file entry args m place plan names reads planned =
    let count = length args in
    let straight = laws.straight reads.text entry count m reads.form in
    let takes = takes_of laws files manifest file entry args m place names reads in
    record {
      straight = straight;
      apart = names_apart m.items (laws.plain reads.text entry count m reads.form);
      takes = takes;
      rooted = refl;
      planned = laws.is_plan m (start_of m place args) plan straight (root_function m.items place args takes) (root_copied m.items place args) (root_named m.items place args) planned.least;
    }

left_is_straight : (laws : Laws) (m : Module) (place : ℕ) (args : List Known) (plan : List Cut) → All (λ i. IsTrue (is_plain_name (item_name i))) m.items → IsFor m place args (start_of m place args) plan
    → length plan ≤ 65536 → IsStraight (left_module m (start_of m place args) plan)
left_is_straight laws m place args plan plain h few =
    laws.left_straight m (start_of m place args) plan h.straight (no_copies m.items plain) h.planned (root_named m.items place args) (few_plan (length plan) few)

left_spelled : (laws : Laws) (m : Module) (place : ℕ) (args : List Known) (plan : List Cut) → All (λ i. IsTrue (is_plain_name (item_name i))) m.items → IsFor m place args (start_of m place args) plan
    → length plan ≤ 65536 → Spells (module_text (left_module m (start_of m place args) plan)) (left_module m (start_of m place args) plan)
left_spelled laws m place args plan plain h few =
    let start = start_of m place args in
    let left = left_module m start plan in
    let straight = left_is_straight laws m place args plan plain h few in
    laws.spells left (laws.formed left straight (laws.left_names m start plan (no_intrinsics m.items plain))) (laws.in_range left straight (left_bytes m start plan plain h.planned))

keeps_of : (laws : Laws) (words : List (List ℕ)) (files : FileMap) (new : Option FileMap) (manifest outdir : List ℕ) (answer : Result Report Refusal) (outputs : Outputs)
    → Winnows files manifest outdir answer outputs → command_of words ≡ Some (Winnow manifest outdir) → answer_code answer ≡ code.Done → new ≡ Some (put_all outputs files) → Keeps words files new
keeps_of laws words files new manifest outdir answer outputs (ManifestRefused r h a n) c d e = manifest_not_done files manifest r h (refused_code answer r a d)
keeps_of laws words files new manifest outdir answer outputs (ModuleRefused file entry args r names h a n) c d e = module_not_done files file entry args r h (refused_code answer r a d)
keeps_of laws words files new manifest outdir answer outputs (PlanRefused file entry args m place r names reads h a n) c d e = plan_not_done m (start_of m place args) r h (refused_code answer r a d)
keeps_of laws words files new manifest outdir answer outputs (Written file entry args m place plan names reads planned a puts) c d e =
    let start = start_of m place args in
    let left = left_module m start plan in
    let plain = laws.plain reads.text entry (length args) m reads.form in
    let lawful = is_for laws files manifest file entry args m place plan names reads planned in
    let spelled = left_spelled laws m place args plan plain lawful planned.few in
    record {
      manifest = manifest;
      outdir = outdir;
      file = file;
      entry = entry;
      args = args;
      place = place;
      written = module_text left;
      original = m;
      plan = plan;
      left = left;
      command = c;
      names = names;
      held = reads;
      planned = planned;
      left_is = refl;
      put = e ∙ ap (λ o. Some (put_all o files)) puts;
      spells = spelled;
      only = λ other h. laws.one (module_text left) other left h spelled;
      straight = left_is_straight laws m place args plan plain lawful planned.few;
      agree = λ s conforms. laws.agree m place args start plan s lawful conforms;
      goes_on = λ s n conforms. laws.goes_on m place args s n lawful.straight lawful.takes conforms;
      never_undefined = λ s n x conforms at. laws.never_undefined m place args s n x lawful.straight lawful.takes conforms at;
      bound = λ s n conforms. laws.bound m place args start plan s n lawful conforms;
    }

pub kept_command : (laws : Laws) (files new : Option FileMap) (words : List (List ℕ)) (m o : List ℕ) (taken taken_new : Option (List ℕ)) (faults faults_new : ℕ) (status : Code)
    → command_of words ≡ Some (Winnow m o) → IfSome files (λ f. WinnowEnds f new m o taken taken_new faults faults_new status) → status ≡ code.Done → IfSome files (λ f. Keeps words f new)
kept_command laws None new words m o taken taken_new faults faults_new status e h d = tt
kept_command laws (Some files) new words m o taken taken_new faults faults_new status e h d =
    keeps_of laws words files new m o h.answer h.leaves.0 h.leaves.1 e (sym h.status_is ∙ d) h.leaves.2
