-- What a JSON text and a JSON value have.
use Rattle.std.specs.Prelude.{◌≡◌, ℕ, ℤ, List, Some, option_and_then, IsSome, IsSomeAnd, Contains, IsUtf8}
use Rattle.std.specs.List.{AllZip}
use Rattle.serde_json.specs.Data.{Data, string, array}
use Rattle.serde_json.specs.Find.{get, as_number, as_integer}
use Rattle.serde_json.specs.Read.{read}
use Rattle.serde_json.specs.View.{items_of}

-- the text is UTF-8 and writes this value
abbrev pub HasValue : List ℕ → Data → Type 0
HasValue text value = IsUtf8 text × (read text ≡ Some value)

abbrev pub HasNoValue : List ℕ → Type 0
HasNoValue text = (value : Data) → ¬ HasValue text value

-- the value is the text of these bytes
abbrev pub IsText : List ℕ → Data → Type 0
IsText bytes value = value ≡ string bytes

-- the value is this integer. What is read as a float, as `1.0`, `1e0`, `-0` or 2^64, is none
abbrev pub IsInteger : ℤ → Data → Type 0
IsInteger n value = option_and_then as_integer (as_number value) ≡ Some n

-- the value is an array, and its items are these, one by one
abbrev pub IsArrayOf : {A : Type 0} → (A → Data → Type 0) → List A → Data → Type 0
IsArrayOf Is xs value = (items : List Data) × (value ≡ array (items_of items)) × AllZip Is xs items

-- the value has something at the key, which is so
abbrev pub HoldsAtKey : List ℕ → (Data → Type 0) → Data → Type 0
HoldsAtKey key Is value = IsSomeAnd (get key value) Is

-- the value has no key but these
abbrev pub HasOnlyKeys : List (List ℕ) → Data → Type 0
HasOnlyKeys keys value = (key : List ℕ) → IsSome (get key value) → Contains keys key
