-- The manifest of a JSON value and of a text, and the first key whose rule is broken.
use Rattle.std.specs.Prelude.{◌≡◌, ℕ, ◌<◌, ◌≤◌, ◌^◌, ◌-◌, ◌⊎◌, ℤ, pos, negsuc, ◌≤ℤ◌, List, [], ◌∷◌, length, codes, Option, Some, None, IsSome, MatchOption, All, Result, Ok, Err}
use Rattle.serde_json.specs.Data.{Data, null}
use Rattle.serde_json.specs.Find.{get, as_object}
use Rattle.ir_types.specs.Names.{IsName}
use Rattle.manifest.specs.Names.{IsModuleName, AreDistinct}
use Rattle.manifest.specs.Json.{HasValue, HasNoValue, IsText, IsInteger, IsArrayOf, HoldsAtKey, HasOnlyKeys}
use Rattle.manifest.specs.declared.fault.Manifest.{Manifest}
use Rattle.manifest.specs.declared.fault.Key.{Key}
use Rattle.manifest.specs.declared.fault.Key.TheVariants.{Whole, Version, Modules, Entry, Exports, Outside, Other}
use Rattle.manifest.specs.declared.fault.ManifestFault.{ManifestFault}
use Rattle.manifest.specs.declared.fault.ManifestFault.TheVariants.{NotJson, BadManifest, OutOfMemory}

-- ---- the rule of each key

abbrev pub IsObject : Data → Type 0
IsObject value = IsSome (as_object value)

abbrev pub IsVersionOne : Data → Type 0
IsVersionOne value = HoldsAtKey (codes "version") (IsInteger (pos 1)) value

pub record AreModules (value : Data) (modules : List (List ℕ)) : Type 0 where
  pub listed : HoldsAtKey (codes "modules") (IsArrayOf IsText modules) value
  pub some : 1 ≤ length modules
  pub few : length modules ≤ 256
  pub distinct : AreDistinct modules
  pub named : All IsModuleName modules

-- `null` is an argument that is not known; an integer is from -2^63 to 2^64 - 1
abbrev pub IsArgument : Option ℤ → Data → Type 0
IsArgument None value = value ≡ null
IsArgument (Some n) value = IsInteger n value × (negsuc (2 ^ 63 - 1) ≤ℤ n) × (n ≤ℤ pos (2 ^ 64 - 1))

abbrev pub call_keys : List (List ℕ)
call_keys = codes "name" ∷ codes "args" ∷ []

-- an object with just a name and arguments
pub record IsCall (value : Data) (name : List ℕ) (args : List (Option ℤ)) : Type 0 where
  pub just : HasOnlyKeys call_keys value
  pub name_there : HoldsAtKey (codes "name") (IsText name) value
  pub args_there : HoldsAtKey (codes "args") (IsArrayOf IsArgument args) value
  pub named : IsName name
  pub few : length args ≤ 32

abbrev pub IsEntry : Data → List ℕ → List (Option ℤ) → Type 0
IsEntry value name args = HoldsAtKey (codes "entry") (λ entry. IsCall entry name args) value

-- the symbols that are listed at a key: none where it is missing
pub record AreSymbols (key : List ℕ) (value : Data) (names : List (List ℕ)) : Type 0 where
  pub listed : MatchOption (get key value) (names ≡ []) (IsArrayOf IsText names)
  pub distinct : AreDistinct names
  pub named : All IsName names

abbrev pub manifest_keys : List (List ℕ)
manifest_keys = codes "version" ∷ codes "modules" ∷ codes "entry" ∷ codes "exports" ∷ codes "outside" ∷ []

-- ---- the manifest of a value

pub record ManifestOf (value : Data) (manifest : Manifest) : Type 0 where
  pub whole : IsObject value
  pub version : IsVersionOne value
  pub modules : AreModules value manifest.modules
  pub entry : IsEntry value manifest.entry manifest.args
  pub exports : AreSymbols (codes "exports") value manifest.exports
  pub outside : AreSymbols (codes "outside") value manifest.outside
  pub others : HasOnlyKeys manifest_keys value

-- the value keeps the rule of the key
abbrev pub Keeps : Data → Key → Type 0
Keeps value Whole = IsObject value
Keeps value Version = IsVersionOne value
Keeps value Modules = (modules : List (List ℕ)) × AreModules value modules
Keeps value Entry = (name : List ℕ) × (args : List (Option ℤ)) × IsEntry value name args
Keeps value Exports = (names : List (List ℕ)) × AreSymbols (codes "exports") value names
Keeps value Outside = (names : List (List ℕ)) × AreSymbols (codes "outside") value names
Keeps value Other = HasOnlyKeys manifest_keys value

-- the place of a key in the order in which the rules are tested
abbrev pub rank : Key → ℕ
rank Whole = 0
rank Version = 1
rank Modules = 2
rank Entry = 3
rank Exports = 4
rank Outside = 5
rank Other = 6

-- the value breaks the rule of this key, and keeps those before it
pub record BreaksFirst (value : Data) (key : Key) : Type 0 where
  pub broken : ¬ Keeps value key
  pub kept : (earlier : Key) → rank earlier < rank key → Keeps value earlier

-- ---- the manifest of a text

abbrev pub HasManifest : List ℕ → Manifest → Type 0
HasManifest text manifest = (value : Data) × HasValue text value × ManifestOf value manifest

abbrev pub HasFirstBroken : List ℕ → Key → Type 0
HasFirstBroken text key = (value : Data) × HasValue text value × BreaksFirst value key

-- the answer that a text has; want of memory is none
abbrev pub IsAnswer : List ℕ → Result Manifest ManifestFault → Type 0
IsAnswer text (Ok manifest) = HasManifest text manifest
IsAnswer text (Err NotJson) = HasNoValue text
IsAnswer text (Err (BadManifest key)) = HasFirstBroken text key
IsAnswer text (Err OutOfMemory) = ⊥

-- the answer, unless memory was wanting
abbrev pub IsOrWantsMemory : Result Manifest ManifestFault → Result Manifest ManifestFault → Type 0
IsOrWantsMemory result answer = (result ≡ answer) ⊎ (result ≡ Err OutOfMemory)

-- the word of a key, as it stands in a manifest, or `whole` and `other`
abbrev pub key_word : Key → List ℕ
key_word Whole = codes "whole"
key_word Version = codes "version"
key_word Modules = codes "modules"
key_word Entry = codes "entry"
key_word Exports = codes "exports"
key_word Outside = codes "outside"
key_word Other = codes "other"
