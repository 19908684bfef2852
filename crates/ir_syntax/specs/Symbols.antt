-- The symbols of whole programs: which item each names, and who sees it.
use Rattle.std.specs.Prelude.{◌≡◌, ℕ, ◌<◌, ◌⊎◌, Bool, true, false, IsTrue, is_some, List, Option, None, Some, IsSome, slice_get, option_and_then, option_map}
use Rattle.std.specs.List.{AllZip}
use Rattle.ir_types.specs.declared.scalar.Known.{Known}
use Rattle.ir_types.specs.declared.scalar.Known.TheVariants.{Unknown, Num, Null}
use Rattle.ir_syntax.specs.declared.symbol.Sym.{Sym}
use Rattle.ir_syntax.specs.declared.symbol.SymName.{SymName}
use Rattle.ir_syntax.specs.declared.item.Linkage.{Linkage}
use Rattle.ir_syntax.specs.declared.item.Linkage.TheVariants.{External, Internal, Private}
use Rattle.ir_syntax.specs.declared.item.Param.{Param}
use Rattle.ir_syntax.specs.declared.item.Func.{Func}
use Rattle.ir_syntax.specs.declared.item.Item.{Item}
use Rattle.ir_syntax.specs.declared.item.Item.TheVariants as item
use Rattle.ir_syntax.specs.declared.item.Module.{Module}
use Rattle.ir_syntax.specs.FormedBody.{item_name}
use Rattle.ir_syntax.specs.Suits.{is_number_of, is_pointer}

-- the item that a symbol names: none, where there is no such module, or no such item in it
abbrev pub item_at : List Module → Sym → Option Item
item_at modules symbol = option_and_then (λ m. slice_get m.items symbol.item) (slice_get modules symbol.module)

abbrev pub linkage_of : Item → Linkage
linkage_of (item.Var var) = var.linkage
linkage_of (item.Func func) = func.linkage

-- an initialiser makes a variable's definition, and a body a function's
abbrev pub is_defined : Item → Bool
is_defined (item.Var var) = is_some var.init
is_defined (item.Func func) = is_some func.body

-- every module sees the name; that of an internal or a private item is seen in its own module alone
abbrev pub is_external : Linkage → Bool
is_external External = true
is_external Internal = false
is_external Private = false

-- where a symbol is at home: a local one in its module, an external one nowhere
abbrev pub home_of : Linkage → ℕ → Option ℕ
home_of External place = None
home_of Internal place = Some place
home_of Private place = Some place

-- the symbol by name
abbrev pub symbol_name : List Module → Sym → Option SymName
symbol_name modules symbol = option_map (λ found. record { home = home_of (linkage_of found) symbol.module; name = item_name found }) (item_at modules symbol)

-- ---- external names

-- The symbol names an item of the external name.
pub record IsItemOf (modules : List Module) (name : List ℕ) (symbol : Sym) (found : Item) : Type 0 where
  pub stands : item_at modules symbol ≡ Some found
  pub external : linkage_of found ≡ External
  pub named : item_name found ≡ name

-- It names one that is defined.
pub record IsDefinitionOf (modules : List Module) (name : List ℕ) (symbol : Sym) : Type 0 where
  pub found : Item
  pub is_of : IsItemOf modules name symbol found
  pub defined : IsTrue (is_defined found)

-- No item of the external name is defined.
abbrev pub IsUndefined : List Module → List ℕ → Type 0
IsUndefined modules name = (symbol : Sym) → IsDefinitionOf modules name symbol → ⊥

-- It names a function of the external name with a body.
pub record IsFunctionOf (modules : List Module) (name : List ℕ) (symbol : Sym) (func : Func) : Type 0 where
  pub is_of : IsItemOf modules name symbol (item.Func func)
  pub has_body : IsSome func.body

-- The one symbol comes before the other: by module, then by item.
abbrev pub IsBefore : Sym → Sym → Type 0
IsBefore a b = (a.module < b.module) ⊎ ((a.module ≡ b.module) × (a.item < b.item))

-- ---- what is known of arguments

-- Of a parameter nothing may be known, a number of its integer type, or null of a pointer.
abbrev pub IsKnownOf : Param → Known → Type 0
IsKnownOf param Unknown = Unit {0}
IsKnownOf param (Num n) = IsTrue (is_number_of param.ty n)
IsKnownOf param Null = IsTrue (is_pointer param.ty)

-- a function that has a body, with one item of what is known for each parameter
abbrev pub IsFunctionFor : List Known → Option Item → Type 0
IsFunctionFor known None = ⊥
IsFunctionFor known (Some (item.Var var)) = ⊥
IsFunctionFor known (Some (item.Func func)) = IsSome func.body × AllZip IsKnownOf func.params known

-- a function that has a body
abbrev pub IsDefinedFunction : Option Item → Type 0
IsDefinedFunction None = ⊥
IsDefinedFunction (Some (item.Var var)) = ⊥
IsDefinedFunction (Some (item.Func func)) = IsSome func.body
