-- How a value is read, step by step. The code goes by it; `Manifest` says what it finds.
use Rattle.std.specs.Prelude.{ℕ, ◌^◌, ◌-◌, ◌&&◌, ◌||◌, ◌==◌, ℤ, pos, negsuc, int_le, nat_lt, nat_le, List, [], ◌∷◌, length, codes, Bool, true, false, not, if◌then◌else◌, bytes_eq, Option, Some, None, is_some, option_map, option_and_then, Result, Ok, Err}
use Rattle.std.specs.Char.{is_ascii_alphanumeric}
use Rattle.std.specs.List.{list_all, list_any}
use Rattle.std.specs.Option.{option_map_or}
use Rattle.std.specs.Ordering.{int_eq}
use Rattle.std.specs.Set.{distinct_count}
use Rattle.serde_json.specs.Data.{Data, Items, no_items, item, Members, no_members, member}
use Rattle.serde_json.specs.Find.{get, as_null, as_number, as_integer, as_str, as_array, as_object}
use Rattle.ir_types.specs.Names.{is_name}
use Rattle.manifest.specs.Names.{parts}
use Rattle.manifest.specs.Manifest.{call_keys, manifest_keys}
use Rattle.manifest.specs.declared.fault.Manifest.{Manifest}
use Rattle.manifest.specs.declared.fault.Key.{Key}
use Rattle.manifest.specs.declared.fault.Key.TheVariants.{Whole, Version, Modules, Entry, Exports, Outside, Other}
use Rattle.manifest.specs.declared.fault.ManifestFault.{ManifestFault}
use Rattle.manifest.specs.declared.fault.ManifestFault.TheVariants.{BadManifest}

-- ---- names

-- whether the key is one of these
abbrev pub is_among : List (List ℕ) → List ℕ → Bool
is_among keys key = list_any (bytes_eq key) keys

abbrev pub is_module_byte : ℕ → Bool
is_module_byte byte = is_ascii_alphanumeric byte || list_any (λ mark. byte == mark) (codes "._/-")

abbrev pub is_part : List ℕ → Bool
is_part part = not (bytes_eq part []) && not (bytes_eq part (codes ".")) && not (bytes_eq part (codes ".."))

abbrev pub is_module_name : List ℕ → Bool
is_module_name name = nat_lt 0 (length name) && nat_le (length name) 255 && list_all is_module_byte name && list_all is_part (parts name)

abbrev pub are_distinct : List (List ℕ) → Bool
are_distinct names = distinct_count bytes_eq names == length names

-- ---- values

abbrev pub integer_of : Data → Option ℤ
integer_of value = option_and_then as_integer (as_number value)

-- each item, read the same way
abbrev pub each_of : {A : Type 0} → (Data → Option A) → Items → Option (List A)
each_of one no_items = Some []
each_of one (item d ds) = option_and_then (λ x. option_map (λ xs. x ∷ xs) (each_of one ds)) (one d)

abbrev pub argument_of : Data → Option (Option ℤ)
argument_of value =
    if is_some (as_null value) then Some None
    else option_and_then (λ n. if int_le (negsuc (2 ^ 63 - 1)) n && int_le n (pos (2 ^ 64 - 1)) then Some (Some n) else None) (integer_of value)

-- what was found, if it passes
abbrev pub passed : {A : Type 0} → (A → Bool) → Option A → Option A
passed test None = None
passed test (Some x) = if test x then Some x else None

-- each key passes
abbrev pub keys_pass : (List ℕ → Bool) → Members → Bool
keys_pass test no_members = true
keys_pass test (member key d ms) = test key && keys_pass test ms

abbrev pub members_pass : (List ℕ → Bool) → Option Members → Bool
members_pass test None = true
members_pass test (Some ms) = keys_pass test ms

-- ---- the keys of a manifest

abbrev pub is_version_one : Data → Bool
is_version_one value = option_map_or (λ n. int_eq n (pos 1)) (option_and_then integer_of (get (codes "version") value)) false

abbrev pub are_modules : List (List ℕ) → Bool
are_modules names = nat_lt 0 (length names) && nat_le (length names) 256 && list_all is_module_name names && are_distinct names

abbrev pub listed_texts : Data → Option (List (List ℕ))
listed_texts value = option_and_then (each_of as_str) (as_array value)

abbrev pub listed_arguments : Data → Option (List (Option ℤ))
listed_arguments value = option_and_then (each_of argument_of) (as_array value)

abbrev pub modules_of : Data → Option (List (List ℕ))
modules_of value = passed are_modules (option_and_then listed_texts (get (codes "modules") value))

abbrev pub name_of : Data → Option (List ℕ)
name_of call = passed is_name (option_and_then as_str (get (codes "name") call))

abbrev pub args_of : Data → Option (List (Option ℤ))
args_of call = passed (λ args. nat_le (length args) 32) (option_and_then listed_arguments (get (codes "args") call))

abbrev pub call_of : Data → Option (List ℕ × List (Option ℤ))
call_of call = if members_pass (is_among call_keys) (as_object call) then option_and_then (λ name. option_map (λ args. (name, args)) (args_of call)) (name_of call) else None

abbrev pub entry_of : Data → Option (List ℕ × List (Option ℤ))
entry_of value = option_and_then call_of (get (codes "entry") value)

abbrev pub are_symbols : List (List ℕ) → Bool
are_symbols names = list_all is_name names && are_distinct names

-- what stands at a key, or nothing where it is missing
abbrev pub texts_or_none : Option Data → Option (List (List ℕ))
texts_or_none None = Some []
texts_or_none (Some value) = listed_texts value

abbrev pub symbols_of : List ℕ → Data → Option (List (List ℕ))
symbols_of key value = passed are_symbols (texts_or_none (get key value))

-- ---- the answer

abbrev pub tested : Key → Bool → Result Manifest ManifestFault → Result Manifest ManifestFault
tested key true rest = rest
tested key false rest = Err (BadManifest key)

abbrev pub demanded : {A : Type 0} → Key → Option A → (A → Result Manifest ManifestFault) → Result Manifest ManifestFault
demanded key None rest = Err (BadManifest key)
demanded key (Some found) rest = rest found

abbrev pub answer_of : Data → Result Manifest ManifestFault
answer_of value =
    tested Whole (is_some (as_object value)) (
    tested Version (is_version_one value) (
    demanded Modules (modules_of value) (λ modules.
    demanded Entry (entry_of value) (λ entry.
    demanded Exports (symbols_of (codes "exports") value) (λ exports.
    demanded Outside (symbols_of (codes "outside") value) (λ outside.
    tested Other (members_pass (is_among manifest_keys) (as_object value)) (
    Ok (record { modules = modules; entry = entry.0; args = entry.1; exports = exports; outside = outside }))))))))
