-- From what loading gives to what checking answers.
use Rattle.std.proofs.Common.{◌≡◌, ◌∙◌, ℕ, ◌⊎◌, inl, inr, true, false, List, Option, Some, None, Ok, Err, refl, sym, ap, subst}
use Rattle.std.specs.Prelude.{IfSome}
use Rattle.occam_base.specs.declared.code.Code.TheVariants as code
use Rattle.occam_base.specs.Files.{FileMap}
use Rattle.linker.specs.declared.fault.LinkFault.{LinkFault}
use Rattle.linker.specs.declared.fault.LinkFault.TheVariants as link
use Rattle.program_loader.specs.declared.refusal.Detail.TheVariants as detail
use Rattle.program_loader.specs.declared.refusal.Refusal.{Refusal}
use Rattle.program_loader.specs.declared.loading.Loaded.{Loaded}
use Rattle.program_loader.specs.Refusing.{refusal}
use Rattle.program_loader.specs.Loading.{Gives, IsUnread, RefusesLoading, StopsReading, RefusesManifest, RefusesText, link_refusal}
use Rattle.program_loader.specs.Loading.IsUnread.{ManifestUnread, ModuleUnread}
use Rattle.program_loader.specs.Loading.RefusesLoading.{ManifestRefused, FileRefused, ModuleRefused, LinkRefused}
use Rattle.program_loader.specs.Loading.RefusesManifest.{ManifestAbsent, ManifestTooLarge, NotJson, BadManifest}
use Rattle.program_loader.specs.Loading.RefusesText.{BadByte, NotInSubset, IllTyped, NotDefinite}
use Rattle.occam_tool.specs.declared.job.Checked.{Checked}
use Rattle.occam_tool.specs.Outcome.{is_free}
use Rattle.occam_tool.specs.Counts.{counts_of}
use Rattle.occam_tool.specs.Checkings.{Checks}

pub clash : {P : Type 0} → true ≡ false → P
clash e = absurd (cc)

-- a code that is free, of a refusal whose code isn't
pub unfree : {P : Type 0} → (r wanted : Refusal) → r ≡ wanted → is_free wanted.code ≡ true → is_free r.code ≡ false → P
unfree r wanted e t f = clash (sym t ∙ sym (ap (λ (x : Refusal). is_free x.code) e) ∙ f)

pub unread_free : {P : Type 0} → (files : FileMap) (name : List ℕ) (r : Refusal) → IsUnread files name r → is_free r.code ≡ false → P
unread_free files name r (ManifestUnread e) f = unfree r (refusal code.ReadFault (detail.File name)) e refl f
unread_free files name r (ModuleUnread m file bytes deployed comes e) f = unfree r (refusal code.ReadFault (detail.File file)) e refl f

refused_by : (files : FileMap) (name : List ℕ) (r : Refusal) → RefusesLoading files name r ⊎ (IsUnread files name r ⊎ (r ≡ refusal code.OutOfMemory detail.Nothing)) → is_free r.code ≡ false → RefusesLoading files name r
refused_by files name r (inl h) f = h
refused_by files name r (inr (inl h)) f = unread_free files name r h f
refused_by files name r (inr (inr e)) f = unfree r (refusal code.OutOfMemory detail.Nothing) e refl f

pub refused_checks : (files : Option FileMap) (read name : List ℕ) (r : Refusal) → read ≡ name → IfSome files (λ f. Gives f read (Err r)) → is_free r.code ≡ false → IfSome files (λ f. Checks f name (Err r))
refused_checks None read name r same h f = tt
refused_checks (Some files) read name r same h f = subst (λ n. RefusesLoading files n r) same (refused_by files read r h f)

pub loaded_checks : (files : Option FileMap) (read name : List ℕ) (loaded : Loaded) (counts : Checked) → read ≡ name → IfSome files (λ f. Gives f read (Ok loaded)) → counts ≡ counts_of loaded.program.modules
    → IfSome files (λ f. Checks f name (Ok counts))
loaded_checks None read name loaded counts same h e = tt
loaded_checks (Some files) read name loaded counts same h e =
    subst (λ n. Checks files n (Ok counts)) same (record { deployment = loaded.manifest; program = loaded.program; loaded = h; counts_are = e })

-- ---- what the files alone refuse has no code that is free

settled : {P : Type 0} → (r wanted : Refusal) → r ≡ wanted → is_free r.code ≡ true → is_free wanted.code ≡ false → P
settled r wanted e d f = clash (sym d ∙ ap (λ (x : Refusal). is_free x.code) e ∙ f)

stops_settled : {P : Type 0} → (o : Option (List ℕ)) (bytes : ℕ) (name : List ℕ) (r : Refusal) → StopsReading o bytes name r → is_free r.code ≡ true → P
stops_settled None bytes name r h d = settled r (refusal code.Absent (detail.File name)) h d refl
stops_settled (Some text) bytes name r h d = settled r (refusal code.TooLarge (detail.File name)) h.1 d refl

manifest_settled : {P : Type 0} → (files : FileMap) (name : List ℕ) (r : Refusal) → RefusesManifest files name r → is_free r.code ≡ true → P
manifest_settled files name r (ManifestAbsent h e) d = settled r (refusal code.Absent (detail.File name)) e d refl
manifest_settled files name r (ManifestTooLarge text h l e) d = settled r (refusal code.TooLarge (detail.File name)) e d refl
manifest_settled files name r (NotJson text h n e) d = settled r (refusal code.NotJson detail.Nothing) e d refl
manifest_settled files name r (BadManifest text key h b e) d = settled r (refusal code.BadManifest (detail.Key key)) e d refl

text_settled : {P : Type 0} → (name text : List ℕ) (r : Refusal) → RefusesText name text r → is_free r.code ≡ true → P
text_settled name text r (BadByte at h e) d = settled r (refusal code.BadByte (detail.At name at)) e d refl
text_settled name text r (NotInSubset entity h e) d = settled r (refusal code.NotInSubset (detail.At name entity)) e d refl
text_settled name text r (IllTyped m item symbol s h n e) d = settled r (refusal code.IllTyped (detail.Of name symbol)) e d refl
text_settled name text r (NotDefinite m item symbol s t h n e) d = settled r (refusal code.NotDefinite (detail.Of name symbol)) e d refl

pub link_settled : {P : Type 0} → (f : LinkFault) (r : Refusal) → (f ≡ link.OutOfMemory → ⊥) → r ≡ link_refusal f → is_free r.code ≡ true → P
link_settled (link.TwoDefinitions s) r h e d = settled r (link_refusal (link.TwoDefinitions s)) e d refl
link_settled (link.NoDefinition s) r h e d = settled r (link_refusal (link.NoDefinition s)) e d refl
link_settled (link.TypeClash s) r h e d = settled r (link_refusal (link.TypeClash s)) e d refl
link_settled (link.NoEntry s) r h e d = settled r (link_refusal (link.NoEntry s)) e d refl
link_settled (link.EntryShape s) r h e d = settled r (link_refusal (link.EntryShape s)) e d refl
link_settled (link.NoExport s) r h e d = settled r (link_refusal (link.NoExport s)) e d refl
link_settled (link.ExportShape s) r h e d = settled r (link_refusal (link.ExportShape s)) e d refl
link_settled link.OutOfMemory r h e d = absurd (h refl)

pub refused_settled : {P : Type 0} → (files : FileMap) (name : List ℕ) (r : Refusal) → RefusesLoading files name r → is_free r.code ≡ true → P
refused_settled files name r (ManifestRefused h) d = manifest_settled files name r h d
refused_settled files name r (FileRefused m deployed h) d = stops_settled _ h.bytes h.name r h.why d
refused_settled files name r (ModuleRefused m texts deployed are h) d = text_settled h.name h.text r h.refuses d
refused_settled files name r (LinkRefused m texts modules f deployed are sound other cause e) d = link_settled f r other e d

-- ---- a fault of reading

unread_by : (files : FileMap) (name : List ℕ) (r : Refusal) → RefusesLoading files name r ⊎ (IsUnread files name r ⊎ (r ≡ refusal code.OutOfMemory detail.Nothing)) → r.code ≡ code.ReadFault → IsUnread files name r
unread_by files name r (inl h) d = refused_settled files name r h (ap is_free d)
unread_by files name r (inr (inl h)) d = h
unread_by files name r (inr (inr e)) d = absurd (let clash : code.OutOfMemory ≡ code.ReadFault = sym (ap (λ (x : Refusal). x.code) e) ∙ d in cc)

pub checks_unread : (files : Option FileMap) (read name : List ℕ) (r : Refusal) → read ≡ name → IfSome files (λ f. Gives f read (Err r)) → r.code ≡ code.ReadFault → IfSome files (λ f. IsUnread f name r)
checks_unread None read name r same h d = tt
checks_unread (Some files) read name r same h d = subst (λ n. IsUnread files n r) same (unread_by files read r h d)
