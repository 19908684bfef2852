-- From what running gives to what `run` ends with, and to the outcome of the words.
use Rattle.std.proofs.Common.{◌≡◌, ◌≢◌, ◌∙◌, ℕ, ℤ, ◌⊎◌, inl, inr, true, false, List, [], ◌++◌, Option, Some, None, Result, Ok, Err, refl, sym, ap, subst, append_assoc}
use Rattle.std.specs.Prelude.{IfSome}
use Rattle.occam_base.specs.declared.code.Code.{Code}
use Rattle.occam_base.specs.declared.code.Code.TheVariants as code
use Rattle.occam_base.specs.Counts.{Rose}
use Rattle.occam_base.specs.Files.{FileMap}
use Rattle.program_loader.specs.declared.refusal.Detail.TheVariants as detail
use Rattle.program_loader.specs.declared.refusal.Refusal.{Refusal}
use Rattle.program_loader.specs.Refusing.{refusal, CanRefuse}
use Rattle.linker.specs.declared.fault.LinkFault.TheVariants as link
use Rattle.program_loader.specs.Loading.{IsUnread}
use Rattle.program_loader.specs.Loading.IsUnread.{ManifestUnread, ModuleUnread}
use Rattle.program_runner.specs.declared.ended.Ended.{Ended}
use Rattle.program_runner.specs.Lines.{ended_line}
use Rattle.program_runner.specs.Running.{Took, RefusesRun, IsEntryRun, IsEntryFront, IsBreak, RunGives, CanRefuseRun}
use Rattle.program_runner.specs.Running.RefusesRun.{LoadingRefused, WordsRefused}
use Rattle.program_runner.specs.Running.RunGives.{Ran, Refused, Unread, Broke, Starved}
use Rattle.command_words.specs.Words.{Command, command_of, IsRun as IsRunning}
use Rattle.command_words.specs.Words.Command.{Winnow, Check, Run}
use Rattle.occam_tool.specs.Lines.{refusal_line, run_line}
use Rattle.occam_tool.specs.Outcome.{is_free}
use Rattle.occam_tool.specs.Program.{Ends, CanExit, TakesRefusal, NamesFile, NamesUnread, BreaksRun, CutsRun}
use Rattle.occam_tool.specs.Program.IsOutcome.{OfRun}
use Rattle.occam_tool.specs.Runnings.{RunEnds, TookFront, SourceBroke, SinkBroke}
use Rattle.occam_tool.specs.Runnings.SinkBroke.{InText, InLine}
use Rattle.occam_tool.proofs.LoadedChecks.{unfree, unread_free, refused_settled, link_settled}
use Rattle.occam_tool.proofs.Outcomes.{unlike, done_status, refused_status, can_not_be, never_memory}

-- ---- what a sink took, one text after another

pub took_both : (first second third : Option (List ℕ)) (text more : List ℕ) → Took first second text → Took second third more → Took first third (text ++ more)
took_both None second third text more a b = tt
took_both (Some taken) second third text more a b =
    let then : Took (Some (taken ++ text)) third more = subst (λ s. Took s third more) a b in then ∙ ap (λ l. Some l) (append_assoc taken text more)

-- nothing, and then a text
took_nothing : (first second third : Option (List ℕ)) (more : List ℕ) → Took first second [] → Took second third more → Took first third more
took_nothing first second third more a b = took_both first second third [] more a b

-- ---- what an answer that is known tells of what was given

unlike_answers : {P : Type 0} (r : Refusal) (ended : Ended) → (let a : Result Ended Refusal = Ok ended in a ≡ Err r) → P
unlike_answers r ended e = absurd (cc)

same_ended : (a b : Ended) → (let x : Result Ended Refusal = Ok a in x ≡ Ok b) → a ≡ b
same_ended a b e = cc

same_refusal : (a b : Refusal) → (let x : Result Ended Refusal = Err a in x ≡ Err b) → a ≡ b
same_refusal a b e = cc

-- a run, and what the sink has of it
abbrev IsRun : FileMap → List ℕ → ℕ → List ℤ → (source taken taken_new : Option (List ℕ)) → Ended → Type 0
IsRun files name n words source taken taken_new ended = (text : List ℕ) × IsEntryRun files name n words source ended text × Took taken taken_new text

ran : (files : FileMap) (name : List ℕ) (n : ℕ) (words : List ℤ) (source taken taken_new : Option (List ℕ)) (ended : Ended) → RunGives files name n words source taken taken_new (Ok ended)
    → IsRun files name n words source taken taken_new ended
ran files name n words source taken taken_new ended (Ran other text is took e) = (text, subst (λ x. IsEntryRun files name n words source x text) (sym (same_ended ended other e)) is, took)
ran files name n words source taken taken_new ended (Refused r is took e) = unlike_answers r ended e
ran files name n words source taken taken_new ended (Unread r is took e) = unlike_answers r ended e
ran files name n words source taken taken_new ended (Broke failed text break is took e) = unlike_answers (refusal failed detail.Nothing) ended e
ran files name n words source taken taken_new ended (Starved text is took e) = unlike_answers (refusal code.OutOfMemory detail.Nothing) ended e

-- a break is free
free_break : {P : Type 0} → (failed : Code) → IsBreak failed → is_free failed ≡ false → P
free_break failed (inl e) f = unlike failed code.SourceFault f refl e
free_break failed (inr e) f = unlike failed code.PrintFault f refl e

-- a refusal whose code isn't free, and nothing taken
refused : (files : FileMap) (name : List ℕ) (n : ℕ) (words : List ℤ) (source taken taken_new : Option (List ℕ)) (r : Refusal) → RunGives files name n words source taken taken_new (Err r) → is_free r.code ≡ false
    → RefusesRun files name words r × Took taken taken_new []
refused files name n words source taken taken_new r (Ran other text is took e) f = unlike_answers r other (sym e)
refused files name n words source taken taken_new r (Refused q is took e) f = (subst (RefusesRun files name words) (sym (same_refusal r q e)) is, took)
refused files name n words source taken taken_new r (Unread q is took e) f = unread_free files name q is (ap (λ (x : Refusal). is_free x.code) (sym (same_refusal r q e)) ∙ f)
refused files name n words source taken taken_new r (Broke failed text break is took e) f = free_break failed break (ap (λ (x : Refusal). is_free x.code) (sym (same_refusal r _ e)) ∙ f)
refused files name n words source taken taken_new r (Starved text is took e) f = unfree r (refusal code.OutOfMemory detail.Nothing) (same_refusal r _ e) refl f

-- ---- what `run` ends with

pub ran_ends : (files new : Option FileMap) (m name : List ℕ) (n : ℕ) (words given : List ℤ) (source taken taken_mid taken_new : Option (List ℕ)) (faults faults_new : ℕ) (ended : Ended) (status : Code) → name ≡ m → given ≡ words → new ≡ files
    → IfSome files (λ f. RunGives f name n given source taken taken_mid (Ok ended)) → (status ≡ code.Done) ⊎ ((status ≡ code.OutOfMemory) ⊎ (status ≡ code.PrintFault))
    → (status ≡ code.Done → Took taken_mid taken_new (ended_line ended)) → is_free status ≡ false
    → IfSome files (λ f. RunEnds f new m n words source taken taken_new faults faults_new status)
ran_ends None new m name n words given source taken taken_mid taken_new faults faults_new ended status same args kept gives is takes f = tt
ran_ends (Some files) new m name n words given source taken taken_mid taken_new faults faults_new ended status same args kept gives is takes f =
    let done = done_status status f is in
    let run = ran files m n words source taken taken_mid ended (subst (λ x. RunGives files x n words source taken taken_mid (Ok ended)) same (subst (λ x. RunGives files name n x source taken taken_mid (Ok ended)) args gives)) in
    record { answer = Ok ended; text = run.0; runs = run.1; files_are = kept; status_is = done; taken_is = λ h. took_both taken taken_mid taken_new run.0 (ended_line ended) run.2 (takes done) }

-- a refusal of running is never Done
run_not_done : (c : Code) → CanRefuseRun c → c ≡ code.Done → ⊥
run_not_done c (inl can) e = can_not_be c can e
run_not_done c (inr (inl b)) e = let clash : code.SourceFault ≡ code.Done = sym b ∙ e in cc
run_not_done c (inr (inr b)) e = let clash : code.PrintFault ≡ code.Done = sym b ∙ e in cc

refused_taken_run : (taken taken_mid taken_new : Option (List ℕ)) (faults faults_mid faults_new : ℕ) (line : List ℕ) (status : Code) → status ≢ code.Done → status ≢ code.OutOfMemory → faults_mid ≡ faults → Took taken taken_mid []
    → (status ≢ code.OutOfMemory → (Rose faults_mid faults_new → ⊥) → Took taken_mid taken_new line)
    → (status ≡ code.Done) ⊎ (Rose faults faults_new → ⊥) → Took taken taken_new ([] ++ line)
refused_taken_run taken taken_mid taken_new faults faults_mid faults_new line status other some stays before takes (inl e) = absurd (other e)
refused_taken_run taken taken_mid taken_new faults faults_mid faults_new line status other some stays before takes (inr h) =
    took_nothing taken taken_mid taken_new line before (takes some (subst (λ k. Rose k faults_new → ⊥) (sym stays) h))

pub refused_run_ends : (files new : Option FileMap) (m name : List ℕ) (n : ℕ) (words given : List ℤ) (source taken taken_mid taken_new : Option (List ℕ)) (faults faults_mid faults_new : ℕ) (r : Refusal) (status : Code) → name ≡ m → given ≡ words → new ≡ files
    → IfSome files (λ f. RunGives f name n given source taken taken_mid (Err r)) → CanRefuseRun r.code → (status ≡ r.code) ⊎ (status ≡ code.OutOfMemory)
    → (r.code ≢ code.PrintFault → faults_mid ≡ faults)
    → (r.code ≢ code.PrintFault → status ≢ code.OutOfMemory → (Rose faults_mid faults_new → ⊥) → Took taken_mid taken_new (refusal_line r)) → is_free status ≡ false
    → IfSome files (λ f. RunEnds f new m n words source taken taken_new faults faults_new status)
refused_run_ends None new m name n words given source taken taken_mid taken_new faults faults_mid faults_new r status same args kept gives can is stays takes f = tt
refused_run_ends (Some files) new m name n words given source taken taken_mid taken_new faults faults_mid faults_new r status same args kept gives can is stays takes f =
    let here = refused_status status r.code f is in
    let unfree_code : is_free r.code ≡ false = ap is_free (sym here) ∙ f in
    let run = refused files m n words source taken taken_mid r (subst (λ x. RunGives files x n words source taken taken_mid (Err r)) same (subst (λ x. RunGives files name n x source taken taken_mid (Err r)) args gives)) unfree_code in
    let no_print : r.code ≢ code.PrintFault = λ e. unlike r.code code.PrintFault unfree_code refl e in
    record {
      answer = Err r;
      text = [];
      runs = (run.0, refl);
      files_are = kept;
      status_is = here;
      taken_is = refused_taken_run taken taken_mid taken_new faults faults_mid faults_new (refusal_line r) status (λ e. run_not_done r.code can (sym here ∙ e)) (λ e. unlike status code.OutOfMemory f refl e) (stays no_print) run.1 (takes no_print);
    }

-- ---- statuses

pub can_run : (r : Refusal) (status : Code) → CanRefuseRun r.code → (status ≡ r.code) ⊎ (status ≡ code.OutOfMemory) → (status ≡ code.Done) ⊎ CanRefuseRun status
can_run r status can (inl e) = inr (subst CanRefuseRun (sym e) can)
can_run r status can (inr e) = inr (inl (subst CanRefuse (sym e) tt))

not_usage : (c : Code) → CanRefuseRun c → c ≢ code.Usage
not_usage c (inl can) u = subst CanRefuse u can
not_usage c (inr (inl b)) u = let clash : code.SourceFault ≡ code.Usage = sym b ∙ u in cc
not_usage c (inr (inr b)) u = let clash : code.PrintFault ≡ code.Usage = sym b ∙ u in cc

pub run_never_usage : (r : Refusal) (status : Code) → CanRefuseRun r.code → (status ≡ r.code) ⊎ (status ≡ code.OutOfMemory) → status ≢ code.Usage
run_never_usage r status can (inl e) u = not_usage r.code can (sym e ∙ u)
run_never_usage r status can (inr e) u = let clash : code.OutOfMemory ≡ code.Usage = sym e ∙ u in cc

-- the status is a code that isn't want of memory, so it is that of the refusal
pub of_code : (status wanted at : Code) → code.OutOfMemory ≢ at → status ≡ at → (status ≡ wanted) ⊎ (status ≡ code.OutOfMemory) → wanted ≡ at
of_code status wanted at other e (inl d) = sym d ∙ e
of_code status wanted at other e (inr d) = absurd (other (sym d ∙ e))

pub memory_is_no_source : code.OutOfMemory ≢ code.SourceFault
memory_is_no_source e = absurd (cc)

pub memory_is_no_print : code.OutOfMemory ≢ code.PrintFault
memory_is_no_print e = absurd (cc)

source_is_no_print : code.SourceFault ≢ code.PrintFault
source_is_no_print e = absurd (cc)

read_is_no_print : code.ReadFault ≢ code.PrintFault
read_is_no_print e = absurd (cc)

read_is_no_source : code.ReadFault ≢ code.SourceFault
read_is_no_source e = absurd (cc)

pub memory_is_no_read : code.OutOfMemory ≢ code.ReadFault
memory_is_no_read e = absurd (cc)

shape_is_no_want : (symbol : List ℕ) → link.EntryShape symbol ≡ link.OutOfMemory → ⊥
shape_is_no_want symbol e = absurd (cc)

read_is_no_break : {P : Type 0} → (failed : Code) → IsBreak failed → failed ≡ code.ReadFault → P
read_is_no_break failed (inl b) e = absurd (let clash : code.SourceFault ≡ code.ReadFault = sym b ∙ e in cc)
read_is_no_break failed (inr b) e = absurd (let clash : code.PrintFault ≡ code.ReadFault = sym b ∙ e in cc)

-- ---- a fault of reading

run_settled : {P : Type 0} → (files : FileMap) (name : List ℕ) (words : List ℤ) (r : Refusal) → RefusesRun files name words r → is_free r.code ≡ true → P
run_settled files name words r (LoadingRefused h) d = refused_settled files name r h d
run_settled files name words r (WordsRefused m p loaded misfit e) d = link_settled (link.EntryShape m.entry) r (λ x. shape_is_no_want m.entry x) e d

unread_code : (files : FileMap) (name : List ℕ) (r : Refusal) → IsUnread files name r → r.code ≡ code.ReadFault
unread_code files name r (ManifestUnread e) = ap (λ (x : Refusal). x.code) e
unread_code files name r (ModuleUnread m file bytes deployed comes e) = ap (λ (x : Refusal). x.code) e

-- the refusal of a file that can't be read, and nothing taken
unread : (files : FileMap) (name : List ℕ) (n : ℕ) (words : List ℤ) (source taken taken_new : Option (List ℕ)) (r : Refusal) → RunGives files name n words source taken taken_new (Err r) → r.code ≡ code.ReadFault
    → IsUnread files name r × Took taken taken_new []
unread files name n words source taken taken_new r (Ran other text is took e) d = unlike_answers r other (sym e)
unread files name n words source taken taken_new r (Refused q is took e) d = run_settled files name words q is (ap is_free (ap (λ (x : Refusal). x.code) (sym (same_refusal r q e)) ∙ d))
unread files name n words source taken taken_new r (Unread q is took e) d = (subst (IsUnread files name) (sym (same_refusal r q e)) is, took)
unread files name n words source taken taken_new r (Broke failed text break is took e) d = read_is_no_break failed break (ap (λ (x : Refusal). x.code) (sym (same_refusal r _ e)) ∙ d)
unread files name n words source taken taken_new r (Starved text is took e) d = absurd (memory_is_no_read (ap (λ (x : Refusal). x.code) (sym (same_refusal r _ e)) ∙ d))

pub run_unread : (files : Option FileMap) (m name : List ℕ) (n : ℕ) (words : List ℤ) (source taken taken_mid taken_new : Option (List ℕ)) (faults faults_mid faults_new : ℕ) (r : Refusal) (status : Code) → name ≡ m
    → IfSome files (λ f. RunGives f name n words source taken taken_mid (Err r)) → (status ≡ r.code) ⊎ (status ≡ code.OutOfMemory)
    → (r.code ≢ code.PrintFault → faults_mid ≡ faults)
    → (r.code ≢ code.PrintFault → status ≢ code.OutOfMemory → (Rose faults_mid faults_new → ⊥) → Took taken_mid taken_new (refusal_line r))
    → status ≡ code.ReadFault → (Rose faults faults_new → ⊥) → IfSome files (λ f. NamesFile f m taken taken_new)
run_unread None m name n words source taken taken_mid taken_new faults faults_mid faults_new r status same gives is stays takes e quiet = tt
run_unread (Some files) m name n words source taken taken_mid taken_new faults faults_mid faults_new r status same gives is stays takes e quiet =
    let read : r.code ≡ code.ReadFault = of_code status r.code code.ReadFault memory_is_no_read e is in
    let found = unread files name n words source taken taken_mid r gives read in
    let no_print : r.code ≢ code.PrintFault = λ d. read_is_no_print (sym read ∙ d) in (
      r,
      subst (λ x. IsUnread files x r) same found.0,
      took_nothing taken taken_mid taken_new (refusal_line r) found.1 (takes no_print (λ d. never_memory status e d) (subst (λ k. Rose k faults_new → ⊥) (sym (stays no_print)) quiet)),
    )

-- ---- faults of the source and of the sink

-- a front of the run, which the sink has, before a refusal of this code
abbrev IsBroken : FileMap → List ℕ → ℕ → List ℤ → (source taken taken_new : Option (List ℕ)) → Refusal → Code → Type 0
IsBroken files name n words source taken taken_new r at = (text : List ℕ) × IsEntryFront files name n words source text × Took taken taken_new text × (r ≡ refusal at detail.Nothing)

broken : (files : FileMap) (name : List ℕ) (n : ℕ) (words : List ℤ) (source taken taken_new : Option (List ℕ)) (r : Refusal) (at : Code) → is_free at ≡ true → code.ReadFault ≢ at → code.OutOfMemory ≢ at
    → RunGives files name n words source taken taken_new (Err r) → r.code ≡ at → IsBroken files name n words source taken taken_new r at
broken files name n words source taken taken_new r at free no_read no_want (Ran other text is took e) d = unlike_answers r other (sym e)
broken files name n words source taken taken_new r at free no_read no_want (Refused q is took e) d =
    run_settled files name words q is (ap is_free (ap (λ (x : Refusal). x.code) (sym (same_refusal r q e)) ∙ d) ∙ free)
broken files name n words source taken taken_new r at free no_read no_want (Unread q is took e) d =
    absurd (no_read (sym (unread_code files name q is) ∙ ap (λ (x : Refusal). x.code) (sym (same_refusal r q e)) ∙ d))
broken files name n words source taken taken_new r at free no_read no_want (Broke failed text break is took e) d =
    let same = same_refusal r (refusal failed detail.Nothing) e in
    (text, is, took, same ∙ ap (λ c. refusal c detail.Nothing) (ap (λ (x : Refusal). x.code) (sym same) ∙ d))
broken files name n words source taken taken_new r at free no_read no_want (Starved text is took e) d =
    absurd (no_want (ap (λ (x : Refusal). x.code) (sym (same_refusal r _ e)) ∙ d))

pub source_broke : (files : Option FileMap) (m name : List ℕ) (n : ℕ) (words : List ℤ) (source taken taken_mid taken_new : Option (List ℕ)) (faults faults_mid faults_new : ℕ) (r : Refusal) (status : Code) → name ≡ m
    → IfSome files (λ f. RunGives f name n words source taken taken_mid (Err r)) → (status ≡ r.code) ⊎ (status ≡ code.OutOfMemory)
    → (r.code ≢ code.PrintFault → faults_mid ≡ faults)
    → (r.code ≢ code.PrintFault → status ≢ code.OutOfMemory → (Rose faults_mid faults_new → ⊥) → Took taken_mid taken_new (refusal_line r))
    → status ≡ code.SourceFault → (Rose faults faults_new → ⊥) → IfSome files (λ f. SourceBroke f m n words source taken taken_new)
source_broke None m name n words source taken taken_mid taken_new faults faults_mid faults_new r status same gives is stays takes e quiet = tt
source_broke (Some files) m name n words source taken taken_mid taken_new faults faults_mid faults_new r status same gives is stays takes e quiet =
    let failed : r.code ≡ code.SourceFault = of_code status r.code code.SourceFault memory_is_no_source e is in
    let found = broken files name n words source taken taken_mid r code.SourceFault refl read_is_no_source memory_is_no_source gives failed in
    let no_print : r.code ≢ code.PrintFault = λ d. source_is_no_print (sym failed ∙ d) in
    let line : Took taken_mid taken_new (refusal_line r) = takes no_print (λ d. memory_is_no_source (sym d ∙ e)) (subst (λ k. Rose k faults_new → ⊥) (sym (stays no_print)) quiet) in (
      found.0,
      subst (λ x. IsEntryFront files x n words source found.0) same found.1,
      took_both taken taken_mid taken_new found.0 _ found.2 (subst (λ x. Took taken_mid taken_new (refusal_line x)) found.3 line),
    )

pub sink_broke : (files : Option FileMap) (m name : List ℕ) (n : ℕ) (words : List ℤ) (source taken taken_mid taken_new : Option (List ℕ)) (r : Refusal) (status : Code) → name ≡ m
    → IfSome files (λ f. RunGives f name n words source taken taken_mid (Err r)) → (status ≡ r.code) ⊎ (status ≡ code.OutOfMemory)
    → (r.code ≡ code.PrintFault → taken_new ≡ taken_mid)
    → status ≡ code.PrintFault → IfSome files (λ f. SinkBroke f m n words source taken taken_new)
sink_broke None m name n words source taken taken_mid taken_new r status same gives is cut e = tt
sink_broke (Some files) m name n words source taken taken_mid taken_new r status same gives is cut e =
    let failed : r.code ≡ code.PrintFault = of_code status r.code code.PrintFault memory_is_no_print e is in
    let found = broken files name n words source taken taken_mid r code.PrintFault refl read_is_no_print memory_is_no_print gives failed in
    InText found.0 (subst (λ x. IsEntryFront files x n words source found.0) same found.1) (subst (λ x. Took taken x found.0) (sym (cut failed)) found.2)

-- the print of the last line failed
pub line_broke : (files : Option FileMap) (m name : List ℕ) (n : ℕ) (words : List ℤ) (source taken taken_mid taken_new : Option (List ℕ)) (ended : Ended) → name ≡ m
    → IfSome files (λ f. RunGives f name n words source taken taken_mid (Ok ended)) → TookFront taken_mid taken_new (ended_line ended) → IfSome files (λ f. SinkBroke f m n words source taken taken_new)
line_broke None m name n words source taken taken_mid taken_new ended same gives front = tt
line_broke (Some files) m name n words source taken taken_mid taken_new ended same gives front =
    let found = ran files m n words source taken taken_mid ended (subst (λ x. RunGives files x n words source taken taken_mid (Ok ended)) same gives) in
    InLine ended found.0 front.0 found.1 (took_both taken taken_mid taken_new found.0 _ found.2 front.1)

-- ---- lines of refusals, where nothing was written

untouched : (r : Refusal) (status : Code) → CanRefuseRun r.code → status ≡ r.code → status ≢ code.PrintFault → status ≢ code.SourceFault → CanRefuse r.code
untouched r status (inl can) e no_print no_source = can
untouched r status (inr (inl b)) e no_print no_source = absurd (no_source (e ∙ b))
untouched r status (inr (inr b)) e no_print no_source = absurd (no_print (e ∙ b))

pub run_refusal : (taken taken_mid taken_new : Option (List ℕ)) (faults faults_mid faults_new : ℕ) (r : Refusal) (status : Code) → CanRefuseRun r.code → (status ≡ r.code) ⊎ (status ≡ code.OutOfMemory)
    → (CanRefuse r.code → r.code ≢ code.OutOfMemory → taken_mid ≡ taken) → (r.code ≢ code.PrintFault → faults_mid ≡ faults)
    → (r.code ≢ code.PrintFault → status ≢ code.OutOfMemory → (Rose faults_mid faults_new → ⊥) → Took taken_mid taken_new (refusal_line r))
    → status ≢ code.PrintFault → status ≢ code.SourceFault → status ≢ code.OutOfMemory → (Rose faults faults_new → ⊥) → TakesRefusal taken taken_new status
run_refusal taken taken_mid taken_new faults faults_mid faults_new r status can (inl e) nothing stays takes no_print no_source some quiet =
    let print : r.code ≢ code.PrintFault = λ d. no_print (e ∙ d) in
    let same = nothing (untouched r status can e no_print no_source) (λ d. some (e ∙ d)) in
    (r, sym e, subst (λ x. Took x taken_new (refusal_line r)) same (takes print some (subst (λ k. Rose k faults_new → ⊥) (sym (stays print)) quiet)))
run_refusal taken taken_mid taken_new faults faults_mid faults_new r status can (inr e) nothing stays takes no_print no_source some quiet = absurd (some e)

-- ---- the words

pub told_run : (files new : Option FileMap) (words : List (List ℕ)) (m : List ℕ) (n : ℕ) (args : List ℤ) (source taken taken_new : Option (List ℕ)) (faults faults_new : ℕ) (status : Code) → command_of words ≡ Some (Run m n args)
    → IfSome files (λ f. RunEnds f new m n args source taken taken_new faults faults_new status)
    → IfSome files (λ f. Ends words f new source taken taken_new faults faults_new status)
told_run None new words m n args source taken taken_new faults faults_new status e h = tt
told_run (Some files) new words m n args source taken taken_new faults faults_new status e h = record {
  outputs = [];
  printed = h.text ++ run_line h.answer;
  outcome = OfRun m n args h.answer h.text e h.runs refl h.status_is refl;
  files_are = h.files_are;
  taken_is = h.taken_is;
}

pub told_unread : (files : Option FileMap) (command : Option Command) (m : List ℕ) (n : ℕ) (args : List ℤ) (taken taken_new : Option (List ℕ)) → command ≡ Some (Run m n args)
    → IfSome files (λ f. NamesFile f m taken taken_new) → IfSome files (λ f. NamesUnread command f taken taken_new)
told_unread None command m n args taken taken_new e h = tt
told_unread (Some files) command m n args taken taken_new e h = subst (λ c. NamesUnread c files taken taken_new) (sym e) h

pub told_source : (files : Option FileMap) (command : Option Command) (m : List ℕ) (n : ℕ) (args : List ℤ) (source taken taken_new : Option (List ℕ)) → command ≡ Some (Run m n args)
    → IfSome files (λ f. SourceBroke f m n args source taken taken_new) → IfSome files (λ f. BreaksRun command f source taken taken_new)
told_source None command m n args source taken taken_new e h = tt
told_source (Some files) command m n args source taken taken_new e h = subst (λ c. BreaksRun c files source taken taken_new) (sym e) h

pub told_sink : (files : Option FileMap) (command : Option Command) (m : List ℕ) (n : ℕ) (args : List ℤ) (source taken taken_new : Option (List ℕ)) → command ≡ Some (Run m n args)
    → IfSome files (λ f. SinkBroke f m n args source taken taken_new) → IfSome files (λ f. CutsRun command f source taken taken_new)
told_sink None command m n args source taken taken_new e h = tt
told_sink (Some files) command m n args source taken taken_new e h = subst (λ c. CutsRun c files source taken taken_new) (sym e) h

-- other commands have nothing of a run
pub cut_not : (files : Option FileMap) (command : Option Command) (source taken taken_new : Option (List ℕ)) → (IsRunning command → ⊥) → IfSome files (λ f. CutsRun command f source taken taken_new)
cut_not None command source taken taken_new other = tt
cut_not (Some files) None source taken taken_new other = tt
cut_not (Some files) (Some (Winnow m o)) source taken taken_new other = tt
cut_not (Some files) (Some (Check m)) source taken taken_new other = tt
cut_not (Some files) (Some (Run m n args)) source taken taken_new other = absurd (other tt)

-- ---- want of memory

pub can_starve : (command : Option Command) → CanExit command code.OutOfMemory
can_starve None = inr refl
can_starve (Some (Winnow m o)) = tt
can_starve (Some (Check m)) = inr (inr tt)
can_starve (Some (Run m n args)) = inr (inl tt)

-- ---- counts of faults

same_code : (a b : Code) → (let x : Option Code = Some a in x ≡ Some b) → a ≡ b
same_code a b e = cc

-- what holds unless the code is a fault of printing, as the code of an answer
pub stays_but_print : {X : Type 0} → (a : Code) → ((let x : Option Code = Some a in x ≢ Some code.PrintFault) → X) → a ≢ code.PrintFault → X
stays_but_print a h other = h (λ e. other (same_code a code.PrintFault e))

pub falls_with_print : (faults faults_mid faults_new : ℕ) (a status : Code) → (status ≡ a) ⊎ (status ≡ code.OutOfMemory) → ((let x : Option Code = Some a in x ≡ Some code.PrintFault) → Rose faults faults_mid)
    → (a ≡ code.PrintFault → faults_new ≡ faults_mid) → status ≡ code.PrintFault → Rose faults faults_new
falls_with_print faults faults_mid faults_new a status is rose cut e =
    let failed : a ≡ code.PrintFault = of_code status a code.PrintFault memory_is_no_print e is in
    subst (λ k. Rose faults k) (sym (cut failed)) (rose (ap (λ c. Some c) failed))

pub falls_with_source : {X : Type 0} → (a status : Code) → (status ≡ a) ⊎ (status ≡ code.OutOfMemory) → ((let x : Option Code = Some a in x ≡ Some code.SourceFault) → X) → status ≡ code.SourceFault → X
falls_with_source a status is rose e = rose (ap (λ c. Some c) (of_code status a code.SourceFault memory_is_no_source e is))

pub source_is_quiet : {X : Type 0} → (a status : Code) → (status ≡ a) ⊎ (status ≡ code.OutOfMemory) → ((let x : Option Code = Some a in x ≢ Some code.SourceFault) → X) → status ≢ code.SourceFault → status ≢ code.OutOfMemory → X
source_is_quiet a status (inl d) stays other some = stays (λ e. other (d ∙ same_code a code.SourceFault e))
source_is_quiet a status (inr d) stays other some = absurd (some d)
