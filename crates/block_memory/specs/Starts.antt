-- The memory that a program starts with: a block for each variable that is defined, with its initial bytes.
use Rattle.std.specs.Prelude.{ℕ, ◌+◌, not, false, List, [], ◌∷◌, Option, Some, None, option_map, option_and_then}
use Rattle.ir_syntax.specs.declared.symbol.Sym.{Sym}
use Rattle.ir_syntax.specs.declared.item.Var.{Var}
use Rattle.ir_syntax.specs.declared.item.Item.{Item}
use Rattle.ir_syntax.specs.declared.item.Item.TheVariants as item
use Rattle.ir_syntax.specs.declared.item.Module.{Module}
use Rattle.ir_syntax.specs.InitialBytes.{InitialPart, Poison, Num, Of, initial_bytes}
use Rattle.ir_syntax.specs.Programs.{ProgramData}
use Rattle.ir_syntax.specs.Symbols.{item_at}
use Rattle.ir_syntax.specs.Targets.{entry_at}
use Rattle.block_memory.specs.declared.value.Name.{Name}
use Rattle.block_memory.specs.declared.value.Name.TheVariants as name
use Rattle.block_memory.specs.declared.value.Part.{Part}
use Rattle.block_memory.specs.declared.value.Part.TheVariants as part
use Rattle.block_memory.specs.Blocks.{LiveBlock, MemoryData}

-- ---- names

abbrev pub name_as : Item → Sym → Name Sym
name_as (item.Var var) symbol = name.Var symbol
name_as (item.Func func) symbol = name.Func symbol

-- The block that an item's address names is that of its canonical symbol, which is a variable's or a function's as the item is.
abbrev pub name_of : ProgramData → Sym → Option (Name Sym)
name_of p symbol = option_and_then (λ found. option_map (name_as found) (entry_at p.canonical symbol)) (item_at p.modules symbol)

-- ---- initial bytes, by the names of the whole program

-- a byte of a variable that stands in the module of this place
abbrev pub named_part : ProgramData → ℕ → InitialPart → Option (Part Sym)
named_part p home Poison = Some part.Poison
named_part p home (Num byte) = Some (part.Num byte)
named_part p home (Of place offset k) = option_map (λ of. part.Of of offset k) (name_of p (record { «module» = home; item = place }))

abbrev pub named_parts : ProgramData → ℕ → List InitialPart → Option (List (Part Sym))
named_parts p home [] = Some []
named_parts p home (first ∷ rest) =
    option_and_then (λ one. option_map (λ others. one ∷ others) (named_parts p home rest)) (named_part p home first)

-- ---- blocks

-- A variable's block may be written to unless it is a `constant`.
abbrev pub variable_block : Var → List (Part Sym) → LiveBlock
variable_block var parts = record { parts = parts; writable = not var.constant; heap = false }

-- the block of a variable, where it is defined
abbrev pub variable_start : ProgramData → ℕ → Var → Option (List InitialPart) → Option (Option LiveBlock)
variable_start p home var None = Some None
variable_start p home var (Some parts) = option_map (λ named. Some (variable_block var named)) (named_parts p home parts)

abbrev pub item_start : ProgramData → ℕ → Item → Option (Option LiveBlock)
item_start p home (item.Var var) = variable_start p home var (initial_bytes var)
item_start p home (item.Func func) = Some None

abbrev pub items_start : ProgramData → ℕ → List Item → Option (List (Option LiveBlock))
items_start p home [] = Some []
items_start p home (first ∷ rest) = option_and_then (λ one. option_map (λ others. one ∷ others) (items_start p home rest)) (item_start p home first)

-- the variables of modules whose places begin at a number
abbrev pub modules_start : ProgramData → ℕ → List Module → Option (List (List (Option LiveBlock)))
modules_start p home [] = Some []
modules_start p home (first ∷ rest) =
    option_and_then (λ one. option_map (λ others. one ∷ others) (modules_start p (home + 1) rest)) (items_start p home first.items)

-- Nothing was made yet. A program has a name for each address that its initialisers write, so it has this memory.
abbrev pub start : ProgramData → Option MemoryData
start p = option_map (λ vars. record { vars = vars; made = [] }) (modules_start p 0 p.modules)
