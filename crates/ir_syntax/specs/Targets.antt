-- What each item of a program stands for: a definition, a function outside, a built-in function, an intrinsic, or nothing.
use Rattle.std.specs.Prelude.{◌≡◌, ◌⊎◌, ℕ, List, Option, None, Some, slice_get, option_and_then, map, length}
use Rattle.ir_syntax.specs.declared.symbol.Sym.{Sym}
use Rattle.ir_syntax.specs.declared.symbol.Target.{Target}
use Rattle.ir_syntax.specs.declared.symbol.Target.TheVariants as target
use Rattle.ir_syntax.specs.declared.item.Linkage.{Linkage}
use Rattle.ir_syntax.specs.declared.item.Linkage.TheVariants.{External, Internal, Private}
use Rattle.ir_syntax.specs.declared.item.Item.{Item}
use Rattle.ir_syntax.specs.declared.item.Module.{Module}
use Rattle.ir_syntax.specs.FormedBody.{item_name}
use Rattle.ir_syntax.specs.Builtins.{builtin_named}
use Rattle.ir_syntax.specs.Intrinsics.{intrinsic_named}
use Rattle.ir_syntax.specs.Symbols.{item_at, linkage_of, IsItemOf, IsDefinitionOf, IsUndefined, IsBefore}
use Rattle.ir_syntax.specs.Refusals.{IsListed}

-- What an external name without a definition stands for. A built-in function comes before a listed name, and an intrinsic,
-- whose name the LLVM Language Reference Manual reserves, is never outside.
abbrev pub StandsForUndefined : List Module → List (List ℕ) → List ℕ → Target → Type 0
StandsForUndefined modules outside name (target.Def symbol) = ⊥
StandsForUndefined modules outside name (target.Builtin builtin) = builtin_named name ≡ Some builtin
StandsForUndefined modules outside name (target.Intrinsic intrinsic) = intrinsic_named name ≡ Some intrinsic
StandsForUndefined modules outside name target.Outside = (builtin_named name ≡ None) × (intrinsic_named name ≡ None) × IsListed modules outside name
StandsForUndefined modules outside name target.Nothing = (builtin_named name ≡ None) × (intrinsic_named name ≡ None) × (IsListed modules outside name → ⊥)

-- What an external name stands for: a definition, where it has one.
abbrev pub StandsFor : List Module → List (List ℕ) → List ℕ → Target → Type 0
StandsFor modules outside name (target.Def symbol) = IsDefinitionOf modules name symbol
StandsFor modules outside name (target.Builtin builtin) = IsUndefined modules name × StandsForUndefined modules outside name (target.Builtin builtin)
StandsFor modules outside name (target.Intrinsic intrinsic) = IsUndefined modules name × StandsForUndefined modules outside name (target.Intrinsic intrinsic)
StandsFor modules outside name target.Outside = IsUndefined modules name × StandsForUndefined modules outside name target.Outside
StandsFor modules outside name target.Nothing = IsUndefined modules name × StandsForUndefined modules outside name target.Nothing

-- What the item that a symbol names stands for. A local one is its own definition.
abbrev pub IsTargetBy : List Module → List (List ℕ) → Sym → List ℕ → Linkage → Target → Type 0
IsTargetBy modules outside symbol name External to = StandsFor modules outside name to
IsTargetBy modules outside symbol name Internal to = to ≡ target.Def symbol
IsTargetBy modules outside symbol name Private to = to ≡ target.Def symbol

abbrev pub IsTarget : List Module → List (List ℕ) → Sym → Item → Target → Type 0
IsTarget modules outside symbol found to = IsTargetBy modules outside symbol (item_name found) (linkage_of found) to

-- ---- canonical symbols

-- The least item of an external name, by module and then by item.
pub record IsLeastItemOf (modules : List Module) (name : List ℕ) (symbol : Sym) : Type 0 where
  pub found : Item
  pub is_of : IsItemOf modules name symbol found
  pub least : (other : Sym) (other_found : Item) → IsItemOf modules name other other_found → IsBefore other symbol → ⊥

-- The definition, where there is one, and else the least item of the name.
abbrev pub StandsAs : List Module → List ℕ → Sym → Type 0
StandsAs modules name as_symbol = IsDefinitionOf modules name as_symbol ⊎ (IsUndefined modules name × IsLeastItemOf modules name as_symbol)

abbrev pub IsCanonicalBy : List Module → Sym → List ℕ → Linkage → Sym → Type 0
IsCanonicalBy modules symbol name External as_symbol = StandsAs modules name as_symbol
IsCanonicalBy modules symbol name Internal as_symbol = as_symbol ≡ symbol
IsCanonicalBy modules symbol name Private as_symbol = as_symbol ≡ symbol

abbrev pub IsCanonical : List Module → Sym → Item → Sym → Type 0
IsCanonical modules symbol found as_symbol = IsCanonicalBy modules symbol (item_name found) (linkage_of found) as_symbol

-- ---- one for each item

-- what stands at a symbol's place
abbrev pub entry_at : {A : Type 0} → List (List A) → Sym → Option A
entry_at entries symbol = option_and_then (λ row. slice_get row symbol.item) (slice_get entries symbol.module)

pub record HasEntry (A : Type 0) (entries : List (List A)) (symbol : Sym) (Is : A → Type 0) : Type 0 where
  pub entry : A
  pub stands : entry_at entries symbol ≡ Some entry
  pub is : Is entry

-- There is one entry for each item of each module, and each is what it must be.
pub record AreEntries (A : Type 0) (modules : List Module) (Is : Sym → Item → A → Type 0) (entries : List (List A)) : Type 0 where
  pub lengths : map length entries ≡ map (λ m. length m.items) modules
  pub each : (symbol : Sym) (found : Item) → item_at modules symbol ≡ Some found → HasEntry A entries symbol (Is symbol found)
