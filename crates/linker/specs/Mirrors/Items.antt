-- What linking asks of the item that a symbol names.
use Rattle.std.specs.Prelude.{ℕ, Bool, true, false, ◌&&◌, ◌==◌, not, List, [], Option, None, Some}
use Rattle.ir_syntax.specs.declared.symbol.Sym.{Sym}
use Rattle.ir_syntax.specs.declared.item.Item.{Item}
use Rattle.ir_syntax.specs.declared.item.Item.TheVariants as item
use Rattle.ir_syntax.specs.declared.item.Module.{Module}
use Rattle.ir_syntax.specs.FormedBody.{item_name}
use Rattle.ir_syntax.specs.Symbols.{item_at, is_defined}

abbrev pub defines : Option Item → Bool
defines None = false
defines (Some found) = is_defined found

abbrev pub is_function : Option Item → Bool
is_function None = false
is_function (Some (item.Var var)) = false
is_function (Some (item.Func func)) = true

abbrev pub name_or_none : Option Item → List ℕ
name_or_none None = []
name_or_none (Some found) = item_name found

-- the symbol names a definition
abbrev pub defined_at : List Module → Sym → Bool
defined_at modules symbol = defines (item_at modules symbol)

-- it names a function
abbrev pub function_at : List Module → Sym → Bool
function_at modules symbol = is_function (item_at modules symbol)

-- the name of its item
abbrev pub name_at : List Module → Sym → List ℕ
name_at modules symbol = name_or_none (item_at modules symbol)

abbrev pub is_same : Sym → Sym → Bool
is_same a b = (a.module == b.module) && (a.item == b.item)

-- the symbol names a definition that isn't this one
abbrev pub other_definition : List Module → Sym → Sym → Bool
other_definition modules definition symbol = defined_at modules symbol && not (is_same symbol definition)
