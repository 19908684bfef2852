-- From what winnowing answers to the outcome of the words.
use Rattle.std.proofs.Common.{◌≡◌, ◌≢◌, ◌∙◌, ℕ, ◌⊎◌, inl, inr, true, false, List, [], Option, Some, None, Result, Ok, Err, refl, sym, ap, subst}
use Rattle.std.specs.Prelude.{IfSome}
use Rattle.occam_base.specs.declared.code.Code.{Code}
use Rattle.occam_base.specs.declared.code.Code.TheVariants as code
use Rattle.occam_base.specs.Counts.{Rose}
use Rattle.occam_base.specs.Files.{FileMap}
use Rattle.program_loader.specs.declared.refusal.Detail.TheVariants as detail
use Rattle.program_loader.specs.declared.refusal.Refusal.{Refusal}
use Rattle.program_runner.specs.Running.{Took}
use Rattle.occam_tool.specs.declared.job.Report.{Report}
use Rattle.command_words.specs.Words.{command_of}
use Rattle.command_words.specs.Words.Command.{Winnow, Check}
use Rattle.occam_tool.specs.Lines.{report_line, refusal_line, winnow_line, check_line, checked_line}
use Rattle.program_loader.specs.Refusing.{refusal}
use Rattle.occam_tool.specs.Outcome.{is_free, Leaves}
use Rattle.occam_tool.specs.Program.{Ends, TakesRefusal, NamesFile}
use Rattle.occam_tool.specs.Program.IsOutcome.{OfNoCommand, OfWinnow, OfCheck}
use Rattle.occam_tool.specs.declared.job.Checked.{Checked}
use Rattle.program_loader.specs.Refusing.{CanRefuse}
use Rattle.program_loader.specs.Loading.{IsUnread}
use Rattle.occam_tool.specs.Checkings.{Checks, CheckEnds}
use Rattle.occam_tool.specs.Winnowings.{WinnowEnds}

pub unlike : {P : Type 0} → (c other : Code) → is_free c ≡ false → is_free other ≡ true → c ≡ other → P
unlike c other f t e = absurd (let clash : true ≡ false = sym t ∙ sym (ap is_free e) ∙ f in cc)

pub done_status : (status : Code) → is_free status ≡ false → (status ≡ code.Done) ⊎ ((status ≡ code.OutOfMemory) ⊎ (status ≡ code.PrintFault)) → status ≡ code.Done
done_status status f (inl e) = e
done_status status f (inr (inl e)) = unlike status code.OutOfMemory f refl e
done_status status f (inr (inr e)) = unlike status code.PrintFault f refl e

at_job : (files : FileMap) (new : Option FileMap) (m o jm jo : List ℕ) (answer : Result Report Refusal) → jm ≡ m → jo ≡ o → Leaves files new jm jo answer → Leaves files new m o answer
at_job files new m o jm jo answer a b h = subst (λ x. Leaves files new m x answer) b (subst (λ x. Leaves files new x jo answer) a h)

pub done_ends : (files new : Option FileMap) (m o jm jo : List ℕ) (taken taken_new : Option (List ℕ)) (faults faults_new : ℕ) (report : Report) (status : Code) → (jm ≡ m) × (jo ≡ o)
    → IfSome files (λ f. Leaves f new jm jo (Ok report)) → (status ≡ code.Done) ⊎ ((status ≡ code.OutOfMemory) ⊎ (status ≡ code.PrintFault))
    → (status ≡ code.Done → Took taken taken_new (report_line report)) → is_free status ≡ false
    → IfSome files (λ f. WinnowEnds f new m o taken taken_new faults faults_new status)
done_ends None new m o jm jo taken taken_new faults faults_new report status job leaves is takes f = tt
done_ends (Some files) new m o jm jo taken taken_new faults faults_new report status job leaves is takes f =
    let done = done_status status f is in
    record { answer = Ok report; leaves = at_job files new m o jm jo (Ok report) job.0 job.1 leaves; status_is = done; taken_is = λ h. takes done }

pub refused_status : (status wanted : Code) → is_free status ≡ false → (status ≡ wanted) ⊎ (status ≡ code.OutOfMemory) → status ≡ wanted
refused_status status wanted f (inl e) = e
refused_status status wanted f (inr e) = unlike status code.OutOfMemory f refl e

refused_taken : (taken taken_new : Option (List ℕ)) (faults faults_new : ℕ) (line : List ℕ) (status : Code) → status ≢ code.Done → status ≢ code.OutOfMemory
    → (status ≢ code.OutOfMemory → (Rose faults faults_new → ⊥) → Took taken taken_new line)
    → (status ≡ code.Done) ⊎ (Rose faults faults_new → ⊥) → Took taken taken_new line
refused_taken taken taken_new faults faults_new line status other some takes (inl e) = absurd (other e)
refused_taken taken taken_new faults faults_new line status other some takes (inr h) = takes some h

pub refused_ends : (files new : Option FileMap) (m o jm jo : List ℕ) (taken taken_new : Option (List ℕ)) (faults faults_new : ℕ) (r : Refusal) (status : Code) → (jm ≡ m) × (jo ≡ o)
    → (is_free r.code ≡ false → IfSome files (λ f. Leaves f new jm jo (Err r))) → r.code ≢ code.Done → (status ≡ r.code) ⊎ (status ≡ code.OutOfMemory)
    → (status ≢ code.OutOfMemory → (Rose faults faults_new → ⊥) → Took taken taken_new (refusal_line r)) → is_free status ≡ false
    → IfSome files (λ f. WinnowEnds f new m o taken taken_new faults faults_new status)
refused_ends None new m o jm jo taken taken_new faults faults_new r status job leaves other is takes f = tt
refused_ends (Some files) new m o jm jo taken taken_new faults faults_new r status job leaves other is takes f =
    let same = refused_status status r.code f is in
    record {
      answer = Err r;
      leaves = at_job files new m o jm jo (Err r) job.0 job.1 (leaves (ap is_free (sym same) ∙ f));
      status_is = same;
      taken_is = refused_taken taken taken_new faults faults_new (refusal_line r) status (λ e. other (sym same ∙ e)) (λ e. unlike status code.OutOfMemory f refl e) takes;
    }

pub told_winnow : (files new : Option FileMap) (words : List (List ℕ)) (m o : List ℕ) (source taken taken_new : Option (List ℕ)) (faults faults_new : ℕ) (status : Code) → command_of words ≡ Some (Winnow m o)
    → IfSome files (λ f. WinnowEnds f new m o taken taken_new faults faults_new status)
    → IfSome files (λ f. Ends words f new source taken taken_new faults faults_new status)
told_winnow None new words m o source taken taken_new faults faults_new status e h = tt
told_winnow (Some files) new words m o source taken taken_new faults faults_new status e h = record {
  outputs = h.leaves.0;
  printed = winnow_line h.answer;
  outcome = OfWinnow m o h.answer e h.leaves.1 h.status_is refl;
  files_are = h.leaves.2;
  taken_is = h.taken_is;
}

pub told_check : (files new : Option FileMap) (words : List (List ℕ)) (m : List ℕ) (source taken taken_new : Option (List ℕ)) (faults faults_new : ℕ) (status : Code) → command_of words ≡ Some (Check m)
    → IfSome files (λ f. CheckEnds f new m taken taken_new faults faults_new status)
    → IfSome files (λ f. Ends words f new source taken taken_new faults faults_new status)
told_check None new words m source taken taken_new faults faults_new status e h = tt
told_check (Some files) new words m source taken taken_new faults faults_new status e h = record {
  outputs = [];
  printed = check_line h.answer;
  outcome = OfCheck m h.answer e h.checks refl h.status_is refl;
  files_are = h.files_are;
  taken_is = h.taken_is;
}

-- ---- from what checking answers

pub checked_ends : (files new : Option FileMap) (m name : List ℕ) (taken taken_new : Option (List ℕ)) (faults faults_new : ℕ) (counts : Checked) (status : Code) → name ≡ m → new ≡ files
    → IfSome files (λ f. Checks f name (Ok counts)) → (status ≡ code.Done) ⊎ ((status ≡ code.OutOfMemory) ⊎ (status ≡ code.PrintFault))
    → (status ≡ code.Done → Took taken taken_new (checked_line counts)) → is_free status ≡ false
    → IfSome files (λ f. CheckEnds f new m taken taken_new faults faults_new status)
checked_ends None new m name taken taken_new faults faults_new counts status same kept checks is takes f = tt
checked_ends (Some files) new m name taken taken_new faults faults_new counts status same kept checks is takes f =
    let done = done_status status f is in
    record { answer = Ok counts; checks = subst (λ x. Checks files x (Ok counts)) same checks; files_are = kept; status_is = done; taken_is = λ h. takes done }

-- a refusal of loading is never Done
pub can_not_be : (c : Code) → CanRefuse c → c ≡ code.Done → ⊥
can_not_be c h e = let P : Code → Type 0 = λ x. CanRefuse x in subst P e h

pub check_refused_ends : (files new : Option FileMap) (m name : List ℕ) (taken taken_new : Option (List ℕ)) (faults faults_new : ℕ) (r : Refusal) (status : Code) → name ≡ m → new ≡ files
    → (is_free r.code ≡ false → IfSome files (λ f. Checks f name (Err r))) → CanRefuse r.code → (status ≡ r.code) ⊎ (status ≡ code.OutOfMemory)
    → (status ≢ code.OutOfMemory → (Rose faults faults_new → ⊥) → Took taken taken_new (refusal_line r)) → is_free status ≡ false
    → IfSome files (λ f. CheckEnds f new m taken taken_new faults faults_new status)
check_refused_ends None new m name taken taken_new faults faults_new r status same kept checks can is takes f = tt
check_refused_ends (Some files) new m name taken taken_new faults faults_new r status same kept checks can is takes f =
    let here = refused_status status r.code f is in
    record {
      answer = Err r;
      checks = subst (λ x. Checks files x (Err r)) same (checks (ap is_free (sym here) ∙ f));
      files_are = kept;
      status_is = here;
      taken_is = refused_taken taken taken_new faults faults_new (refusal_line r) status (λ e. can_not_be r.code can (sym here ∙ e)) (λ e. unlike status code.OutOfMemory f refl e) takes;
    }

-- the status of a refusal of loading
pub can_check : (r : Refusal) (status : Code) → CanRefuse r.code → (status ≡ r.code) ⊎ (status ≡ code.OutOfMemory) → (status ≡ code.Done) ⊎ ((status ≡ code.PrintFault) ⊎ CanRefuse status)
can_check r status can (inl e) = inr (inr (subst CanRefuse (sym e) can))
can_check r status can (inr e) = inr (inr (subst CanRefuse (sym e) tt))

pub never_usage : (r : Refusal) (status : Code) → CanRefuse r.code → (status ≡ r.code) ⊎ (status ≡ code.OutOfMemory) → status ≢ code.Usage
never_usage r status can (inl e) u = subst CanRefuse (sym e ∙ u) can
never_usage r status can (inr e) u = let clash : code.OutOfMemory ≡ code.Usage = sym e ∙ u in cc

pub never_memory : {P : Type 0} → (status : Code) → status ≡ code.ReadFault → status ≡ code.OutOfMemory → P
never_memory status e d = absurd (let clash : code.ReadFault ≡ code.OutOfMemory = sym e ∙ d in cc)

pub of_read : (status wanted : Code) → status ≡ code.ReadFault → (status ≡ wanted) ⊎ (status ≡ code.OutOfMemory) → wanted ≡ code.ReadFault
of_read status wanted e (inl d) = sym d ∙ e
of_read status wanted e (inr d) = never_memory status e d

-- the file whose reading failed is named
pub unread_told : (files : Option FileMap) (m name : List ℕ) (taken taken_new : Option (List ℕ)) (faults faults_new : ℕ) (r : Refusal) (status : Code) → name ≡ m
    → (r.code ≡ code.ReadFault → IfSome files (λ f. IsUnread f name r)) → (status ≡ r.code) ⊎ (status ≡ code.OutOfMemory)
    → (status ≢ code.OutOfMemory → (Rose faults faults_new → ⊥) → Took taken taken_new (refusal_line r)) → status ≡ code.ReadFault → (Rose faults faults_new → ⊥)
    → IfSome files (λ f. NamesFile f m taken taken_new)
unread_told None m name taken taken_new faults faults_new r status same unread is takes e quiet = tt
unread_told (Some files) m name taken taken_new faults faults_new r status same unread is takes e quiet =
    (r, subst (λ x. IsUnread files x r) same (unread (of_read status r.code e is)), takes (λ d. never_memory status e d) quiet)

abbrev usage : Refusal
usage = refusal code.Usage detail.Nothing

not_done : (status : Code) → status ≡ code.Usage → status ≢ code.Done
not_done status e d = let clash : code.Usage ≡ code.Done = sym e ∙ d in cc

pub told_usage : (files : Option FileMap) (words : List (List ℕ)) (source taken taken_new : Option (List ℕ)) (faults faults_new : ℕ) (status : Code) → command_of words ≡ None
    → (status ≡ code.Usage) ⊎ (status ≡ code.OutOfMemory)
    → (status ≢ code.OutOfMemory → (Rose faults faults_new → ⊥) → Took taken taken_new (refusal_line usage)) → is_free status ≡ false
    → IfSome files (λ f. Ends words f files source taken taken_new faults faults_new status)
told_usage None words source taken taken_new faults faults_new status e is takes f = tt
told_usage (Some files) words source taken taken_new faults faults_new status e is takes f =
    let same = refused_status status code.Usage f is in
    record {
      outputs = [];
      printed = refusal_line usage;
      outcome = OfNoCommand e same refl refl;
      files_are = refl;
      taken_is = refused_taken taken taken_new faults faults_new (refusal_line usage) status (not_done status same) (λ e. unlike status code.OutOfMemory f refl e) takes;
    }

pub usage_taken : (taken taken_new : Option (List ℕ)) (status : Code) → (status ≡ code.Usage) ⊎ (status ≡ code.OutOfMemory) → status ≢ code.OutOfMemory
    → Took taken taken_new (refusal_line usage) → TakesRefusal taken taken_new status
usage_taken taken taken_new status (inl e) some takes = (usage, sym e, takes)
usage_taken taken taken_new status (inr e) some takes = absurd (some e)
