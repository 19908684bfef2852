-- The symbols of external names, by name.
use Rattle.std.specs.Prelude.{◌≡◌, ◌≢◌, ℕ, zero, suc, ◌+◌, Bool, true, false, ◌&&◌, bytes_eq, List, [], ◌∷◌, ◌++◌, ◌⊎◌, Option, Some, None, if◌then◌else◌}
use Rattle.std.specs.List.{AllZip, All, Contains}
use Rattle.ir_types.specs.declared.scalar.FnType.{FnType}
use Rattle.ir_syntax.specs.declared.symbol.Sym.{Sym}
use Rattle.ir_syntax.specs.declared.symbol.Builtin.{Builtin}
use Rattle.ir_syntax.specs.declared.item.Item.{Item}
use Rattle.ir_syntax.specs.declared.item.Module.{Module}
use Rattle.ir_syntax.specs.FormedBody.{item_name}
use Rattle.ir_syntax.specs.Builtins.{type_of_builtin}
use Rattle.ir_syntax.specs.FunctionTypes.{function_type}
use Rattle.ir_syntax.specs.Symbols.{item_at, linkage_of, is_external}
use Rattle.name_table.specs.Places.{is_among, are_distinct}
use Rattle.linker.specs.declared.group.Group.{Group}

-- whether the item is external and has the name
abbrev pub is_item_of : List ℕ → Item → Bool
is_item_of name found = is_external (linkage_of found) && bytes_eq name (item_name found)

-- those of the items of one module, the first of which has a place
abbrev pub symbols_in_row : ℕ → ℕ → List Item → List ℕ → List Sym
symbols_in_row m place [] name = []
symbols_in_row m place (found ∷ items) name =
    if is_item_of name found then record { «module» = m; item = place } ∷ symbols_in_row m (place + 1) items name else symbols_in_row m (place + 1) items name

-- those of all items, where the first module has a place
abbrev pub symbols_from : ℕ → List Module → List ℕ → List Sym
symbols_from m [] name = []
symbols_from m (one ∷ modules) name = symbols_in_row m 0 one.items name ++ symbols_from (m + 1) modules name

-- the symbols of the items of an external name, in order
abbrev pub symbols_of : List Module → List ℕ → List Sym
symbols_of modules name = symbols_from 0 modules name

abbrev pub symbols_in : Group → List Sym
symbols_in group = group.first ∷ group.others

-- one more symbol of a name
abbrev pub with_symbol : (List ℕ → List Sym) → List ℕ → Sym → List ℕ → List Sym
with_symbol symbols name symbol other = if bytes_eq other name then symbols other ++ symbol ∷ [] else symbols other

-- the groups with one more symbol in the one at a place
abbrev pub with_member : List Group → ℕ → Sym → List Group
with_member [] place symbol = []
with_member (group ∷ groups) zero symbol = record { first = group.first; others = group.others ++ symbol ∷ [] } ∷ groups
with_member (group ∷ groups) (suc place) symbol = group ∷ with_member groups place symbol

-- There is a group for each name that has symbols, with just these.
pub record AreGroups (symbols : List ℕ → List Sym) (names : List (List ℕ)) (groups : List Group) : Type 0 where
  pub distinct : are_distinct names ≡ true
  pub each : AllZip (λ name group. symbols_in group ≡ symbols name) names groups
  pub others : (name : List ℕ) → is_among name names ≡ false → symbols name ≡ []

-- Not all of these symbols name items of this type.
pub record HasOtherType (modules : List Module) (ty : Option FnType) (symbols : List Sym) : Type 0 where
  pub symbol : Sym
  pub within : Contains symbols symbol
  pub differs : function_type (item_at modules symbol) ≢ ty

-- Each names an item of the built-in function's type, if there is a built-in function.
abbrev pub HaveBuiltinType : List Module → Option Builtin → List Sym → Type 0
HaveBuiltinType modules None symbols = Unit {0}
HaveBuiltinType modules (Some builtin) symbols = All (λ symbol. function_type (item_at modules symbol) ≡ Some (type_of_builtin builtin)) symbols

-- There is a built-in function, and one of the symbols names an item of another type.
abbrev pub HasOtherThanBuiltin : List Module → Option Builtin → List Sym → Type 0
HasOtherThanBuiltin modules None symbols = ⊥
HasOtherThanBuiltin modules (Some builtin) symbols = HasOtherType modules (Some (type_of_builtin builtin)) symbols

-- Each names an item of the type of the first, and of the built-in function.
pub record AreAlike (modules : List Module) (builtin : Option Builtin) (symbols : List Sym) (first : Sym) : Type 0 where
  pub types : All (λ symbol. function_type (item_at modules symbol) ≡ function_type (item_at modules first)) symbols
  pub built_in : HaveBuiltinType modules builtin symbols

-- One of them doesn't.
abbrev pub Differ : List Module → Option Builtin → List Sym → Sym → Type 0
Differ modules builtin symbols first = HasOtherType modules (function_type (item_at modules first)) symbols ⊎ HasOtherThanBuiltin modules builtin symbols
