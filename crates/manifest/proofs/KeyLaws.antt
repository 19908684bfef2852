-- What is read at each key of a manifest is what the rule of the key says.
use Rattle.std.proofs.Common.{◌≡◌, ℕ, ◌≤◌, ℤ, pos, List, [], length, codes, Option, Some, None, option_and_then, false, refl, sym, ap, true≢false}
use Rattle.std.specs.Prelude.{Decides, IsSomeAnd, MatchOption, All, nat_le}
use Rattle.std.specs.Option.{option_map_or}
use Rattle.std.specs.Ordering.{int_eq}
use Rattle.std.proofs.lemmas.Bool.Decides.{Decides-int_eq, Decides-and}
use Rattle.std.proofs.lemmas.Option.{none-some, same_Some}
use Rattle.serde_json.specs.Data.{Data}
use Rattle.serde_json.specs.Find.{get, as_str}
use Rattle.ir_types.specs.Names.{IsName, is_name}
use Rattle.manifest.specs.Names.{IsModuleName, AreDistinct}
use Rattle.manifest.specs.Json.{IsText, IsInteger, IsArrayOf, HoldsAtKey}
use Rattle.manifest.specs.Manifest.{IsVersionOne, AreModules, IsArgument, IsCall, IsEntry, AreSymbols, call_keys}
use Rattle.manifest.specs.Reading.{integer_of, argument_of, is_version_one, are_modules, is_module_name, listed_texts, listed_arguments, modules_of, name_of, args_of, call_of, entry_of, are_symbols, texts_or_none, symbols_of}
use Rattle.manifest.proofs.Found.{Finds, Finds-some, Finds-like, Finds-at, Finds-passed, Finds-pair, Finds-guarded}
use Rattle.manifest.proofs.NameLaws.{Decides-le, Decides-all, is_module_name-Decides, is_name-Decides, are_distinct-Decides}
use Rattle.manifest.proofs.JsonLaws.{as_str-Finds, argument_of-Finds, listed-Finds, only-Decides}

-- ---- version

one-Decides : (i : Option ℤ) → Decides (option_map_or (λ n. int_eq n (pos 1)) i false) (i ≡ Some (pos 1))
one-Decides None = (λ e. absurd (true≢false (sym e)), λ e. absurd (none-some (pos 1) e))
one-Decides (Some n) = (λ e. ap Some ((Decides-int_eq n (pos 1)).0 e), λ e. (Decides-int_eq n (pos 1)).1 (same_Some n (pos 1) e))

version-Decides : (o : Option Data) → Decides (option_map_or (λ n. int_eq n (pos 1)) (option_and_then integer_of o) false) (IsSomeAnd o (IsInteger (pos 1)))
version-Decides None = (λ e. absurd (true≢false (sym e)), λ h. absurd h)
version-Decides (Some d) = one-Decides (integer_of d)

pub is_version_one-Decides : (d : Data) → Decides (is_version_one d) (IsVersionOne d)
is_version_one-Decides d = version-Decides (get (codes "version") d)

-- ---- modules

texts-Finds : (d : Data) → Finds (listed_texts d) (λ names. IsArrayOf IsText names d)
texts-Finds d = listed-Finds as_str IsText as_str-Finds d

abbrev ModulesTest : List (List ℕ) → Type 0
ModulesTest names = (((1 ≤ length names) × (length names ≤ 256)) × All IsModuleName names) × AreDistinct names

are_modules-Decides : (names : List (List ℕ)) → Decides (are_modules names) (ModulesTest names)
are_modules-Decides names =
    Decides-and _ _ (Decides-and _ _ (Decides-and _ _ (Decides-le 1 (length names)) (Decides-le (length names) 256))
    (Decides-all is_module_name IsModuleName is_module_name-Decides names))
    (are_distinct-Decides names)

pub modules_of-Finds : (d : Data) → Finds (modules_of d) (AreModules d)
modules_of-Finds d =
    Finds-like (modules_of d) (λ names. HoldsAtKey (codes "modules") (IsArrayOf IsText names) d × ModulesTest names) (AreModules d)
    (λ names h. record { listed = h.0; some = h.1.0.0.0; few = h.1.0.0.1; named = h.1.0.1; distinct = h.1.1 })
    (λ names m. (m.listed, (((m.some, m.few), m.named), m.distinct)))
    (Finds-passed are_modules _ ModulesTest are_modules-Decides _ (Finds-at listed_texts (λ e names. IsArrayOf IsText names e) texts-Finds (get (codes "modules") d)))

-- ---- entry

name_of-Finds : (d : Data) → Finds (name_of d) (λ name. HoldsAtKey (codes "name") (IsText name) d × IsName name)
name_of-Finds d = Finds-passed is_name _ IsName is_name-Decides _ (Finds-at as_str (λ e name. IsText name e) as_str-Finds (get (codes "name") d))

args_of-Finds : (d : Data) → Finds (args_of d) (λ args. HoldsAtKey (codes "args") (IsArrayOf IsArgument args) d × (length args ≤ 32))
args_of-Finds d =
    Finds-passed (λ args. nat_le (length args) 32) _ (λ args. length args ≤ 32) (λ args. Decides-le (length args) 32) _
    (Finds-at listed_arguments (λ e args. IsArrayOf IsArgument args e) (λ e. listed-Finds argument_of IsArgument argument_of-Finds e) (get (codes "args") d))

abbrev Called : Data → List ℕ × List (Option ℤ) → Type 0
Called d call = IsCall d call.0 call.1

call_of-Finds : (d : Data) → Finds (call_of d) (Called d)
call_of-Finds d =
    Finds-like (call_of d) _ (Called d)
    (λ call h. record { just = h.0; name_there = h.1.0.0; named = h.1.0.1; args_there = h.1.1.0; few = h.1.1.1 })
    (λ call c. (c.just, ((c.name_there, c.named), (c.args_there, c.few))))
    (Finds-guarded _ _ (only-Decides call_keys d) _ _ (Finds-pair _ _ _ _ (name_of-Finds d) (args_of-Finds d)))

pub entry_of-Finds : (d : Data) → Finds (entry_of d) (λ call. IsEntry d call.0 call.1)
entry_of-Finds d = Finds-at call_of Called call_of-Finds (get (codes "entry") d)

-- ---- exports and outside

abbrev SymbolsTest : List (List ℕ) → Type 0
SymbolsTest names = All IsName names × AreDistinct names

are_symbols-Decides : (names : List (List ℕ)) → Decides (are_symbols names) (SymbolsTest names)
are_symbols-Decides names = Decides-and _ _ (Decides-all is_name IsName is_name-Decides names) (are_distinct-Decides names)

texts_or_none-Finds : (o : Option Data) → Finds (texts_or_none o) (λ names. MatchOption o (names ≡ []) (IsArrayOf IsText names))
texts_or_none-Finds None = Finds-some [] _ refl (λ names e. sym e)
texts_or_none-Finds (Some d) = texts-Finds d

pub symbols_of-Finds : (key : List ℕ) (d : Data) → Finds (symbols_of key d) (AreSymbols key d)
symbols_of-Finds key d =
    Finds-like (symbols_of key d) _ (AreSymbols key d)
    (λ names h. record { listed = h.0; named = h.1.0; distinct = h.1.1 })
    (λ names s. (s.listed, (s.named, s.distinct)))
    (Finds-passed are_symbols _ SymbolsTest are_symbols-Decides _ (texts_or_none-Finds (get key d)))
