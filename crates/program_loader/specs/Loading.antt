-- The program of a manifest over the files of a shelf: its manifest, its modules, and what they are linked to; and the
-- first cause why there is none.
use Rattle.std.specs.Prelude.{◌≡◌, ◌≢◌, ◌⊎◌, ℕ, ◌+◌, ◌<◌, ◌≤◌, List, ◌∷◌, ◌++◌, All, length, slice_get, sum_by, take, Option, Some, None, Result, Ok, Err}
use Rattle.std.specs.List.{AllZip}
use Rattle.occam_base.specs.declared.code.Code.TheVariants as code
use Rattle.occam_base.specs.Files.{FileMap, file_of}
use Rattle.ir_syntax.specs.declared.item.Item.{Item}
use Rattle.ir_syntax.specs.declared.item.Module.{Module}
use Rattle.ir_syntax.specs.FormedBody.{item_name}
use Rattle.ir_syntax.specs.Typed.{Typed}
use Rattle.ir_syntax.specs.Definite.{Definite}
use Rattle.ir_syntax.specs.Programs.{ProgramData, Linked}
use Rattle.ir_lexer.specs.Tokens.{IsBadByte}
use Rattle.ir_parser.specs.Spelled.{Spells, IsNotInSubset}
use Rattle.ir_check.specs.IllTyped.{IsFirstIllTyped}
use Rattle.ir_paths.specs.FirstIndefinite.{IsFirstIndefinite}
use Rattle.ir_writer.specs.Names.{name_text}
use Rattle.manifest.specs.declared.fault.Manifest.{Manifest}
use Rattle.manifest.specs.declared.fault.Key.{Key}
use Rattle.manifest.specs.Manifest.{HasManifest, HasFirstBroken}
use Rattle.manifest.specs.Json.{HasNoValue}
use Rattle.linker.specs.declared.fault.LinkFault.{LinkFault}
use Rattle.linker.specs.declared.fault.LinkFault.TheVariants as link
use Rattle.linker.specs.Linking.{deployment_of, IsCause}
use Rattle.program_loader.specs.declared.refusal.Detail.TheVariants as detail
use Rattle.program_loader.specs.declared.refusal.Refusal.{Refusal}
use Rattle.program_loader.specs.declared.loading.Loaded.{Loaded}
use Rattle.program_loader.specs.Refusing.{refusal}

-- ---- limits, in bytes: 1 MiB, 16 MiB, 32 MiB

abbrev pub manifest_limit : ℕ
manifest_limit = 1048576

abbrev pub module_limit : ℕ
module_limit = 16777216

abbrev pub modules_limit : ℕ
modules_limit = 33554432

-- ---- the manifest

-- The manifest's file is held and within its limit.
pub record IsManifestFile (files : FileMap) (name text : List ℕ) : Type 0 where
  pub held : file_of files name ≡ Some text
  pub size : length text ≤ manifest_limit

-- Its text has this manifest.
pub record IsDeployed (files : FileMap) (name : List ℕ) (m : Manifest) : Type 0 where
  pub text : List ℕ
  pub file : IsManifestFile files name text
  pub is : HasManifest text m

-- Why a manifest's file is refused.
pub data RefusesManifest (files : FileMap) (name : List ℕ) (r : Refusal) : Type 0 where
  ManifestAbsent : file_of files name ≡ None → r ≡ refusal code.Absent (detail.File name) → RefusesManifest files name r
  ManifestTooLarge : (text : List ℕ) → file_of files name ≡ Some text → manifest_limit < length text → r ≡ refusal code.TooLarge (detail.File name) → RefusesManifest files name r
  NotJson : (text : List ℕ) → IsManifestFile files name text → HasNoValue text → r ≡ refusal code.NotJson detail.Nothing → RefusesManifest files name r
  BadManifest : (text : List ℕ) (key : Key) → IsManifestFile files name text → HasFirstBroken text key → r ≡ refusal code.BadManifest (detail.Key key) → RefusesManifest files name r

-- ---- the files of the modules

-- The files are held with these texts, one for each name, each within its limit and all within theirs.
pub record AreTexts (files : FileMap) (names texts : List (List ℕ)) : Type 0 where
  pub held : AllZip (λ name text. file_of files name ≡ Some text) names texts
  pub each : All (λ text. length text ≤ module_limit) texts
  pub together : sum_by length texts ≤ modules_limit

-- Why a file stops the reading, where those before it have so many bytes.
abbrev pub StopsReading : Option (List ℕ) → ℕ → List ℕ → Refusal → Type 0
StopsReading None before name r = r ≡ refusal code.Absent (detail.File name)
StopsReading (Some text) before name r = ((module_limit < length text) ⊎ (modules_limit < before + length text)) × (r ≡ refusal code.TooLarge (detail.File name))

-- The name stands in the list, and the files before it are held and within their limits.
pub record ComesAfterTexts (files : FileMap) (names : List (List ℕ)) (name : List ℕ) (bytes : ℕ) : Type 0 where
  pub before : List (List ℕ)
  pub after : List (List ℕ)
  pub stands : names ≡ before ++ name ∷ after
  pub texts : List (List ℕ)
  pub are_texts : AreTexts files before texts
  pub bytes_are : bytes ≡ sum_by length texts

-- The first file that isn't held, or is past a limit.
pub record RefusesFile (files : FileMap) (names : List (List ℕ)) (r : Refusal) : Type 0 where
  pub name : List ℕ
  pub bytes : ℕ
  pub comes : ComesAfterTexts files names name bytes
  pub why : StopsReading (file_of files name) bytes name r

-- ---- each module

-- The text spells the module, which is well typed and definite.
pub record IsSound (text : List ℕ) (m : Module) : Type 0 where
  pub spells : Spells text m
  pub typed : Typed m
  pub definite : Definite m

-- the item at a place has this name, as a text writes it
pub record IsNamed (items : List Item) (place : ℕ) (symbol : List ℕ) : Type 0 where
  pub found : Item
  pub stands : slice_get items place ≡ Some found
  pub written : symbol ≡ name_text (item_name found)

-- Why the module of a text is refused, the lowest status first.
pub data RefusesText (name text : List ℕ) (r : Refusal) : Type 0 where
  BadByte : (at : ℕ) → IsBadByte text at → r ≡ refusal code.BadByte (detail.At name at) → RefusesText name text r
  NotInSubset : (entity : ℕ) → IsNotInSubset text entity → r ≡ refusal code.NotInSubset (detail.At name entity) → RefusesText name text r
  IllTyped : (m : Module) (item : ℕ) (symbol : List ℕ) → Spells text m → IsFirstIllTyped m.items item → IsNamed m.items item symbol → r ≡ refusal code.IllTyped (detail.Of name symbol) → RefusesText name text r
  NotDefinite : (m : Module) (item : ℕ) (symbol : List ℕ) → Spells text m → Typed m → IsFirstIndefinite m.items item → IsNamed m.items item symbol → r ≡ refusal code.NotDefinite (detail.Of name symbol)
      → RefusesText name text r

abbrev pub IsSoundText : List ℕ → Type 0
IsSoundText text = (m : Module) × IsSound text m

-- The first module that is refused.
pub record RefusesModule (names texts : List (List ℕ)) (r : Refusal) : Type 0 where
  pub place : ℕ
  pub name : List ℕ
  pub text : List ℕ
  pub named : slice_get names place ≡ Some name
  pub stands : slice_get texts place ≡ Some text
  pub before : All IsSoundText (take place texts)
  pub refuses : RefusesText name text r

-- ---- linking

-- The refusal of a fault of linking. The symbol is written as in a module, without its sigil.
abbrev pub link_refusal : LinkFault → Refusal
link_refusal (link.TwoDefinitions symbol) = refusal code.TwoDefinitions (detail.Symbol (name_text symbol))
link_refusal (link.NoDefinition symbol) = refusal code.NoDefinition (detail.Symbol (name_text symbol))
link_refusal (link.TypeClash symbol) = refusal code.TypeClash (detail.Symbol (name_text symbol))
link_refusal (link.NoEntry symbol) = refusal code.NoEntry (detail.Symbol (name_text symbol))
link_refusal (link.EntryShape symbol) = refusal code.EntryShape (detail.Symbol (name_text symbol))
link_refusal (link.NoExport symbol) = refusal code.NoExport (detail.Symbol (name_text symbol))
link_refusal (link.ExportShape symbol) = refusal code.ExportShape (detail.Symbol (name_text symbol))
link_refusal link.OutOfMemory = refusal code.OutOfMemory detail.Nothing

-- ---- loading

-- The manifest's modules are held, sound, and linked to this program.
pub record IsLoaded (files : FileMap) (name : List ℕ) (m : Manifest) (p : ProgramData) : Type 0 where
  pub deployed : IsDeployed files name m
  pub texts : List (List ℕ)
  pub are_texts : AreTexts files m.modules texts
  pub sound : AllZip IsSound texts p.modules
  pub linked : Linked p.modules (deployment_of m) p

-- Why no program is loaded: the first cause in this order.
pub data RefusesLoading (files : FileMap) (name : List ℕ) (r : Refusal) : Type 0 where
  ManifestRefused : RefusesManifest files name r → RefusesLoading files name r
  FileRefused : (m : Manifest) → IsDeployed files name m → RefusesFile files m.modules r → RefusesLoading files name r
  ModuleRefused : (m : Manifest) (texts : List (List ℕ)) → IsDeployed files name m → AreTexts files m.modules texts → RefusesModule m.modules texts r → RefusesLoading files name r
  LinkRefused : (m : Manifest) (texts : List (List ℕ)) (modules : List Module) (f : LinkFault) → IsDeployed files name m → AreTexts files m.modules texts → AllZip IsSound texts modules
      → f ≢ link.OutOfMemory → IsCause modules (deployment_of m) f → r ≡ link_refusal f → RefusesLoading files name r

-- What loading answers over the files, memory and faults of reading aside.
abbrev pub Loads : FileMap → List ℕ → Result Loaded Refusal → Type 0
Loads files name (Ok loaded) = IsLoaded files name loaded.manifest loaded.program
Loads files name (Err r) = RefusesLoading files name r

-- The file whose reading failed: the manifest's, or a module's, before which every file is held and within its limits.
pub data IsUnread (files : FileMap) (name : List ℕ) (r : Refusal) : Type 0 where
  ManifestUnread : r ≡ refusal code.ReadFault (detail.File name) → IsUnread files name r
  ModuleUnread : (m : Manifest) (file : List ℕ) (bytes : ℕ) → IsDeployed files name m → ComesAfterTexts files m.modules file bytes → r ≡ refusal code.ReadFault (detail.File file) → IsUnread files name r

-- What loading gives: its answer over the files, or a fault of reading, or want of memory.
abbrev pub Gives : FileMap → List ℕ → Result Loaded Refusal → Type 0
Gives files name (Ok loaded) = IsLoaded files name loaded.manifest loaded.program
Gives files name (Err r) = RefusesLoading files name r ⊎ (IsUnread files name r ⊎ (r ≡ refusal code.OutOfMemory detail.Nothing))
