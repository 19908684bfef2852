-- Blocks of memory, and which stand under which name. There are no numeric addresses: an address is a block with an offset.
use Rattle.std.specs.Prelude.{ℕ, ◌<◌, Bool, true, false, List, length, slice_get, slice_set, Option, Some, None, IsSome, option_map, option_and_then}
use Rattle.ir_syntax.specs.declared.symbol.Sym.{Sym}
use Rattle.ir_syntax.specs.Targets.{entry_at}
use Rattle.block_memory.specs.declared.value.Name.{Name}
use Rattle.block_memory.specs.declared.value.Name.TheVariants as name
use Rattle.block_memory.specs.declared.value.Val.{Val}
use Rattle.block_memory.specs.declared.value.Val.TheVariants as val
use Rattle.block_memory.specs.declared.value.Part.{Part}

-- A live block: a part for each of its bytes, whether it may be written to, and whether it is from the heap.
pub record LiveBlock : Type 0 where
  pub parts : List (Part Sym)
  pub writable : Bool
  pub heap : Bool

-- A block is live, or has ended and had so many bytes.
pub data MemoryBlock : Type 0 where
  Live : (block : LiveBlock) → MemoryBlock
  Ended : (size : ℕ) → MemoryBlock

-- The blocks of variables by module and item, where that is the variable's definition; they never end. The made blocks by the number
-- of their making. A function's block has no bytes and is the program's.
pub record MemoryData : Type 0 where
  pub vars : List (List (Option LiveBlock))
  pub made : List MemoryBlock

abbrev pub size_of : MemoryBlock → ℕ
size_of (Live block) = length block.parts
size_of (Ended size) = size

abbrev pub is_live : MemoryBlock → Bool
is_live (Live block) = true
is_live (Ended size) = false

-- ---- names

abbrev pub var_at : MemoryData → Sym → Option LiveBlock
var_at mem symbol = option_and_then (λ found. found) (entry_at mem.vars symbol)

abbrev pub block_at : MemoryData → Name Sym → Option MemoryBlock
block_at mem (name.Var symbol) = option_map Live (var_at mem symbol)
block_at mem (name.Func symbol) = None
block_at mem (name.Made number) = slice_get mem.made number

-- The name is that of a block: a variable's, a function's, or that of a block that this memory made.
abbrev pub IsNamed : MemoryData → Name Sym → Type 0
IsNamed mem (name.Var symbol) = IsSome (var_at mem symbol)
IsNamed mem (name.Func symbol) = Unit {0}
IsNamed mem (name.Made number) = number < length mem.made

-- The value names no other block.
abbrev pub IsKnown : MemoryData → Val Sym → Type 0
IsKnown mem (val.Num n) = Unit {0}
IsKnown mem val.Null = Unit {0}
IsKnown mem (val.At of offset) = IsNamed mem of
IsKnown mem val.Poison = Unit {0}

-- The value is no number.
abbrev pub IsAddress : Val Sym → Type 0
IsAddress (val.Num n) = ⊥
IsAddress val.Null = Unit {0}
IsAddress (val.At of offset) = Unit {0}
IsAddress val.Poison = Unit {0}

-- ---- changes

abbrev pub with_parts : LiveBlock → List (Part Sym) → LiveBlock
with_parts block parts = record block { parts = parts }

abbrev pub set_in : List (List (Option LiveBlock)) → Sym → LiveBlock → Option (List (Option LiveBlock)) → List (List (Option LiveBlock))
set_in vars symbol block None = vars
set_in vars symbol block (Some row) = slice_set vars symbol.module (slice_set row symbol.item (Some block))

-- the memory with another live block under a name
abbrev pub put_block : MemoryData → Name Sym → LiveBlock → MemoryData
put_block mem (name.Var symbol) block = record mem { vars = set_in mem.vars symbol block (slice_get mem.vars symbol.module) }
put_block mem (name.Func symbol) block = mem
put_block mem (name.Made number) block = record mem { made = slice_set mem.made number (Live block) }
