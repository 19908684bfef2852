-- What the steps of loading answer over the files of a shelf, where it tells them.
use Rattle.std.specs.Prelude.{◌≡◌, ◌≢◌, ◌⊎◌, ℕ, ◌+◌, ◌<◌, ◌≤◌, List, [], ◌∷◌, ◌++◌, All, length, sum_by, Option, Some, None, Result, Ok, Err}
use Rattle.std.specs.List.{AllZip}
use Rattle.occam_base.specs.declared.code.Code.TheVariants as code
use Rattle.occam_base.specs.Files.{FileMap, file_of}
use Rattle.ir_syntax.specs.declared.item.Module.{Module}
use Rattle.ir_syntax.specs.Refusals.{Deployment}
use Rattle.ir_syntax.specs.Typed.{Typed}
use Rattle.ir_syntax.specs.Definite.{Definite}
use Rattle.ir_check.specs.IllTyped.{IsFirstIllTyped}
use Rattle.ir_paths.specs.FirstIndefinite.{IsFirstIndefinite}
use Rattle.manifest.specs.declared.fault.Manifest.{Manifest}
use Rattle.manifest.specs.declared.fault.Key.{Key}
use Rattle.manifest.specs.Manifest.{HasManifest, HasFirstBroken}
use Rattle.manifest.specs.Json.{HasNoValue}
use Rattle.linker.specs.declared.fault.LinkFault.{LinkFault}
use Rattle.linker.specs.declared.fault.LinkFault.TheVariants as link
use Rattle.linker.specs.Linking.{IsCause}
use Rattle.program_loader.specs.declared.reading.Stop.{Stop}
use Rattle.program_loader.specs.declared.reading.Stop.TheVariants as stop
use Rattle.program_loader.specs.declared.judging.Judged.{Judged}
use Rattle.program_loader.specs.declared.judging.Judged.TheVariants.{Sound, Refused}
use Rattle.program_loader.specs.declared.walking.Walk.{Walk}
use Rattle.program_loader.specs.declared.refusal.Detail.TheVariants as detail
use Rattle.program_loader.specs.declared.refusal.Refusal.{Refusal}
use Rattle.program_loader.specs.Refusing.{refusal}
use Rattle.program_loader.specs.Loading.{module_limit, modules_limit, IsDeployed, RefusesManifest, ComesAfterTexts, RefusesFile, StopsReading, AreTexts, IsSound, IsNamed, RefusesText, RefusesModule, link_refusal}

-- ---- a text

-- the refusal of a file that isn't read
abbrev pub stop_refusal : Stop → List ℕ → Refusal
stop_refusal stop.Failed name = refusal code.ReadFault (detail.File name)
stop_refusal stop.Absent name = refusal code.Absent (detail.File name)
stop_refusal stop.TooLarge name = refusal code.TooLarge (detail.File name)
stop_refusal stop.OutOfMemory name = refusal code.OutOfMemory detail.Nothing

-- Why a file that is held, or isn't, isn't read as a text of at most so many bytes.
abbrev pub StopsAt : Option (List ℕ) → ℕ → List ℕ → Refusal → Type 0
StopsAt None limit name r = r ≡ refusal code.Absent (detail.File name)
StopsAt (Some text) limit name r = (limit < length text) × (r ≡ refusal code.TooLarge (detail.File name))

-- A read failed, or memory was refused.
abbrev pub IsFree : List ℕ → Refusal → Type 0
IsFree name r = (r ≡ refusal code.ReadFault (detail.File name)) ⊎ (r ≡ refusal code.OutOfMemory detail.Nothing)

abbrev pub TextGives : Option (List ℕ) → ℕ → List ℕ → Result (List ℕ) Refusal → Type 0
TextGives file limit name (Ok text) = (file ≡ Some text) × (length text ≤ limit)
TextGives file limit name (Err r) = StopsAt file limit name r ⊎ IsFree name r

abbrev pub TextOf : Option FileMap → ℕ → List ℕ → Result (List ℕ) Refusal → Type 0
TextOf None limit name answer = Unit {0}
TextOf (Some files) limit name answer = TextGives (file_of files name) limit name answer

-- ---- the manifest

-- what a manifest's text answers
abbrev pub ManifestGives : List ℕ → Result Manifest Refusal → Type 0
ManifestGives text (Ok m) = HasManifest text m
ManifestGives text (Err r) = (HasNoValue text × (r ≡ refusal code.NotJson detail.Nothing))
    ⊎ (((key : Key) × HasFirstBroken text key × (r ≡ refusal code.BadManifest (detail.Key key))) ⊎ (r ≡ refusal code.OutOfMemory detail.Nothing))

abbrev pub DeploymentGives : FileMap → List ℕ → Result Manifest Refusal → Type 0
DeploymentGives files name (Ok m) = IsDeployed files name m
DeploymentGives files name (Err r) = RefusesManifest files name r ⊎ IsFree name r

abbrev pub DeploymentOf : Option FileMap → List ℕ → Result Manifest Refusal → Type 0
DeploymentOf None name answer = Unit {0}
DeploymentOf (Some files) name answer = DeploymentGives files name answer

-- ---- a module

-- what a text of a module is
abbrev pub IsJudged : List ℕ → List ℕ → Judged → Type 0
IsJudged name text (Sound m) = IsSound text m
IsJudged name text (Refused r) = RefusesText name text r

-- The first item that isn't well typed, or where all are, the first that isn't definite, refuses the module.
pub data RefusesChecks (name : List ℕ) (m : Module) (r : Refusal) : Type 0 where
  IllTyped : (item : ℕ) (symbol : List ℕ) → IsFirstIllTyped m.items item → IsNamed m.items item symbol → r ≡ refusal code.IllTyped (detail.Of name symbol) → RefusesChecks name m r
  NotDefinite : (item : ℕ) (symbol : List ℕ) → Typed m → IsFirstIndefinite m.items item → IsNamed m.items item symbol → r ≡ refusal code.NotDefinite (detail.Of name symbol) → RefusesChecks name m r

-- what a module that is spelled is
abbrev pub IsChecked : List ℕ → Module → Judged → Type 0
IsChecked name m (Sound n) = (n ≡ m) × Typed m × Definite m
IsChecked name m (Refused r) = RefusesChecks name m r

-- ---- the modules

-- the text is the file of the name, where the shelf tells
abbrev pub IsHeld : Option FileMap → List ℕ → List ℕ → Type 0
IsHeld None name text = Unit {0}
IsHeld (Some files) name text = file_of files name ≡ Some text

-- what is found with one more text: its module too, or its refusal, or the one that was there
abbrev pub GoesOn : List ℕ → List ℕ → Result (List Module) Refusal → Result (List Module) Refusal → Type 0
GoesOn name text (Ok modules) (Ok more) = (m : Module) × IsSound text m × (more ≡ modules ++ m ∷ [])
GoesOn name text (Ok modules) (Err r) = RefusesText name text r
GoesOn name text (Err r) next = next ≡ Err r

-- One more file is read, within what room is left.
pub record IsNext (files : Option FileMap) (name : List ℕ) (walk next : Walk) : Type 0 where
  pub text : List ℕ
  pub held : IsHeld files name text
  pub each : length text ≤ module_limit
  pub together : walk.bytes + length text ≤ modules_limit
  pub bytes : next.bytes ≡ walk.bytes + length text
  pub found : GoesOn name text walk.found next.found

-- Why the next file ends the walk.
abbrev pub EndsWalk : Option FileMap → List ℕ → ℕ → Refusal → Type 0
EndsWalk None name bytes r = Unit {0}
EndsWalk (Some files) name bytes r = StopsReading (file_of files name) bytes name r ⊎ IsFree name r

abbrev pub NextOf : Option FileMap → List ℕ → Walk → Result Walk Refusal → Type 0
NextOf files name walk (Ok next) = IsNext files name walk next
NextOf files name walk (Err r) = EndsWalk files name walk.bytes r

-- The files are read with these texts, one for each name, each within its limit and all within theirs.
pub record AreRead (files : Option FileMap) (names texts : List (List ℕ)) : Type 0 where
  pub held : AllZip (IsHeld files) names texts
  pub each : All (λ text. length text ≤ module_limit) texts
  pub together : sum_by length texts ≤ modules_limit

pub record AreSoundTexts (files : Option FileMap) (names : List (List ℕ)) (modules : List Module) : Type 0 where
  pub texts : List (List ℕ)
  pub read : AreRead files names texts
  pub sound : AllZip IsSound texts modules

-- Why no modules are read: the first file that stops the reading, or the first module that isn't sound, or a read that
-- failed, or want of memory.
pub data RefusesModules (files : FileMap) (names : List (List ℕ)) (r : Refusal) : Type 0 where
  File : RefusesFile files names r → RefusesModules files names r
  Text : (texts : List (List ℕ)) → AreTexts files names texts → RefusesModule names texts r → RefusesModules files names r
  Unread : (file : List ℕ) (bytes : ℕ) → ComesAfterTexts files names file bytes → r ≡ refusal code.ReadFault (detail.File file) → RefusesModules files names r
  Memory : r ≡ refusal code.OutOfMemory detail.Nothing → RefusesModules files names r

abbrev pub WhyNoModules : Option FileMap → List (List ℕ) → Refusal → Type 0
WhyNoModules None names r = Unit {0}
WhyNoModules (Some files) names r = RefusesModules files names r

abbrev pub ModulesOf : Option FileMap → List (List ℕ) → Result (List Module) Refusal → Type 0
ModulesOf files names (Ok modules) = AreSoundTexts files names modules
ModulesOf files names (Err r) = WhyNoModules files names r

-- ---- linking

-- Linking refuses the modules, or memory was refused.
abbrev pub IsUnlinked : List Module → Deployment → Refusal → Type 0
IsUnlinked modules d r = ((f : LinkFault) × (f ≢ link.OutOfMemory) × IsCause modules d f × (r ≡ link_refusal f)) ⊎ (r ≡ refusal code.OutOfMemory detail.Nothing)
