-- What loading answers, step by step.
use Rattle.std.proofs.Common.{◌≡◌, inl, inr, List, ℕ, Option, Some, None, Result, Ok, Err, sym, subst}
use Rattle.std.specs.Prelude.{IfSome}
use Rattle.std.specs.List.{AllZip}
use Rattle.occam_base.specs.Files.{FileMap}
use Rattle.ir_syntax.specs.declared.item.Module.{Module}
use Rattle.ir_syntax.specs.Programs.{ProgramData, Linked}
use Rattle.linker.specs.Linking.{deployment_of}
use Rattle.manifest.specs.declared.fault.Manifest.{Manifest}
use Rattle.program_loader.specs.declared.loading.Loaded.{Loaded}
use Rattle.program_loader.specs.declared.refusal.Refusal.{Refusal}
use Rattle.program_loader.specs.Loading.{IsDeployed, AreTexts, IsSound, IsLoaded, Gives}
use Rattle.program_loader.specs.Loading.{RefusesLoading as loading}
use Rattle.program_loader.specs.Loading.{IsUnread as unread}
use Rattle.program_loader.specs.Steps.{AreRead, AreSoundTexts, RefusesModules, WhyNoModules, DeploymentOf, IsUnlinked}
use Rattle.program_loader.specs.Steps.{RefusesModules as modules}

-- what loading gives, where the shelf tells its files
abbrev pub GivesOf : Option FileMap → List ℕ → Result Loaded Refusal → Type 0
GivesOf files name answer = IfSome files (λ (held : FileMap). Gives held name answer)

pub no_deployment : (files : Option FileMap) (name : List ℕ) (r : Refusal) → DeploymentOf files name (Err r) → GivesOf files name (Err r)
no_deployment None name r h = tt
no_deployment (Some files) name r (inl h) = inl (loading.ManifestRefused h)
no_deployment (Some files) name r (inr (inl h)) = inr (inl (unread.ManifestUnread h))
no_deployment (Some files) name r (inr (inr h)) = inr (inr h)

no_modules_of : (files : FileMap) (name : List ℕ) (m : Manifest) (r : Refusal) → IsDeployed files name m → RefusesModules files m.modules r → Gives files name (Err r)
no_modules_of files name m r deployed (modules.File h) = inl (loading.FileRefused m deployed h)
no_modules_of files name m r deployed (modules.Text texts are h) = inl (loading.ModuleRefused m texts deployed are h)
no_modules_of files name m r deployed (modules.Unread file bytes comes h) = inr (inl (unread.ModuleUnread m file bytes deployed comes h))
no_modules_of files name m r deployed (modules.Memory h) = inr (inr h)

pub no_modules : (files : Option FileMap) (name : List ℕ) (m : Manifest) (r : Refusal) → DeploymentOf files name (Ok m) → WhyNoModules files m.modules r → GivesOf files name (Err r)
no_modules None name m r deployed h = tt
no_modules (Some files) name m r deployed h = no_modules_of files name m r deployed h

are_texts : (files : FileMap) (names texts : List (List ℕ)) → AreRead (Some files) names texts → AreTexts files names texts
are_texts files names texts h = record { held = h.held; each = h.each; together = h.together }

not_linked_of : (files : FileMap) (name : List ℕ) (m : Manifest) (ms : List Module) (r : Refusal) → IsDeployed files name m → AreSoundTexts (Some files) m.modules ms → IsUnlinked ms (deployment_of m) r → Gives files name (Err r)
not_linked_of files name m ms r deployed h (inl why) = inl (loading.LinkRefused m h.texts ms why.0 deployed (are_texts files m.modules h.texts h.read) h.sound why.1 why.2 why.3)
not_linked_of files name m ms r deployed h (inr why) = inr (inr why)

pub not_linked : (files : Option FileMap) (name : List ℕ) (m : Manifest) (ms : List Module) (r : Refusal) → DeploymentOf files name (Ok m) → AreSoundTexts files m.modules ms → IsUnlinked ms (deployment_of m) r → GivesOf files name (Err r)
not_linked None name m ms r deployed h why = tt
not_linked (Some files) name m ms r deployed h why = not_linked_of files name m ms r deployed h why

loaded_of : (files : FileMap) (name : List ℕ) (m : Manifest) (ms : List Module) (p : ProgramData) → IsDeployed files name m → AreSoundTexts (Some files) m.modules ms → Linked ms (deployment_of m) p → IsLoaded files name m p
loaded_of files name m ms p deployed h linked = record {
  deployed = deployed;
  texts = h.texts;
  are_texts = are_texts files m.modules h.texts h.read;
  sound = subst (AllZip IsSound h.texts) (sym linked.modules_are) h.sound;
  linked = subst (λ (l : List Module). Linked l (deployment_of m) p) (sym linked.modules_are) linked;
}

pub is_loaded : (files : Option FileMap) (name : List ℕ) (m : Manifest) (ms : List Module) (p : ProgramData) → DeploymentOf files name (Ok m) → AreSoundTexts files m.modules ms → Linked ms (deployment_of m) p
    → IfSome files (λ (held : FileMap). IsLoaded held name m p)
is_loaded None name m ms p deployed h linked = tt
is_loaded (Some files) name m ms p deployed h linked = loaded_of files name m ms p deployed h linked

-- ---- the same, where the shelf was read before

pub modules_refused : (files now : Option FileMap) (name : List ℕ) (m : Manifest) (names : List (List ℕ)) (r : Refusal) → now ≡ files → names ≡ m.modules → DeploymentOf files name (Ok m) → WhyNoModules now names r → GivesOf files name (Err r)
modules_refused files now name m names r told same deployed h =
    no_modules files name m r deployed (subst (λ f. WhyNoModules f m.modules r) told (subst (λ (l : List (List ℕ)). WhyNoModules now l r) same h))

texts_at : (files now : Option FileMap) (m : Manifest) (names : List (List ℕ)) (ms : List Module) → now ≡ files → names ≡ m.modules → AreSoundTexts now names ms → AreSoundTexts files m.modules ms
texts_at files now m names ms told same h = subst (λ f. AreSoundTexts f m.modules ms) told (subst (λ (l : List (List ℕ)). AreSoundTexts now l ms) same h)

pub link_refused : (files now : Option FileMap) (name : List ℕ) (m : Manifest) (names : List (List ℕ)) (ms : List Module) (r : Refusal) → now ≡ files → names ≡ m.modules → DeploymentOf files name (Ok m) → AreSoundTexts now names ms
    → IsUnlinked ms (deployment_of m) r → GivesOf files name (Err r)
link_refused files now name m names ms r told same deployed h why = not_linked files name m ms r deployed (texts_at files now m names ms told same h) why

pub loaded : (files now : Option FileMap) (name : List ℕ) (m : Manifest) (names : List (List ℕ)) (ms : List Module) (p : ProgramData) → now ≡ files → names ≡ m.modules → DeploymentOf files name (Ok m) → AreSoundTexts now names ms
    → Linked ms (deployment_of m) p → IfSome files (λ (held : FileMap). IsLoaded held name m p)
loaded files now name m names ms p told same deployed h linked = is_loaded files name m ms p deployed (texts_at files now m names ms told same h) linked
