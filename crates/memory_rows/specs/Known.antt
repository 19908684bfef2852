-- Which names of blocks a session may ask its memory for.
use Rattle.std.specs.Prelude.{ℕ, Bool, true, false, IsTrue, is_some, nat_lt, length, Option, Some, None}
use Rattle.ir_syntax.specs.declared.symbol.Sym.{Sym}
use Rattle.ir_syntax.specs.declared.item.Item.{Item}
use Rattle.ir_syntax.specs.declared.item.Item.TheVariants as item
use Rattle.ir_syntax.specs.Programs.{ProgramData}
use Rattle.ir_syntax.specs.Symbols.{item_at}
use Rattle.block_memory.specs.declared.value.Name.{Name}
use Rattle.block_memory.specs.declared.value.Name.TheVariants as name
use Rattle.block_memory.specs.declared.value.Val.{Val}
use Rattle.block_memory.specs.declared.value.Val.TheVariants as val
use Rattle.block_memory.specs.Blocks.{MemoryData, var_at}

-- the definition of a variable
abbrev pub is_variable : Option Item → Bool
is_variable None = false
is_variable (Some (item.Var var)) = is_some var.init
is_variable (Some (item.Func func)) = false

-- a block of the program, or one of so many that were made
abbrev pub is_of : ProgramData → ℕ → Name Sym → Bool
is_of p made (name.Var symbol) = is_variable (item_at p.modules symbol)
is_of p made (name.Func symbol) = true
is_of p made (name.Made number) = nat_lt number made

-- a block of the memory, or one of a function
abbrev pub is_there : MemoryData → Name Sym → Bool
is_there mem (name.Var symbol) = is_some (var_at mem symbol)
is_there mem (name.Func symbol) = true
is_there mem (name.Made number) = nat_lt number (length mem.made)

-- The memory has all these blocks.
abbrev pub Covers : ProgramData → MemoryData → ℕ → Type 0
Covers p mem made = (of : Name Sym) → IsTrue (is_of p made of) → IsTrue (is_there mem of)

-- a value that a fill takes as a byte
abbrev pub is_byte : Val Sym → Bool
is_byte (val.Num n) = nat_lt n 256
is_byte val.Null = false
is_byte (val.At of offset) = false
is_byte val.Poison = true
