-- Which bytes a reply may write: those of live blocks that may be written to.
use Rattle.std.specs.Prelude.{ℕ, Bool, true, false, ◌&&◌, nat_lt, List, [], ◌∷◌, length, slice_get, Option, Some, None}
use Rattle.ir_syntax.specs.declared.symbol.Sym.{Sym}
use Rattle.block_memory.specs.declared.value.Name.{Name}
use Rattle.block_memory.specs.declared.value.Name.TheVariants as name
use Rattle.block_memory.specs.declared.value.Val.{Val}
use Rattle.block_memory.specs.declared.value.Val.TheVariants as val
use Rattle.block_memory.specs.Blocks.{MemoryBlock, Live, Ended, MemoryData, block_at}

abbrev pub is_open_at : Option MemoryBlock → ℕ → Bool
is_open_at None at = false
is_open_at (Some (Live block)) at = block.writable && nat_lt at (length block.parts)
is_open_at (Some (Ended size)) at = false

abbrev pub is_open : MemoryData → Name Sym → ℕ → Bool
is_open mem (name.Var symbol) at = is_open_at (block_at mem (name.Var symbol)) at
is_open mem (name.Func symbol) at = false
is_open mem (name.Made number) at = is_open_at (block_at mem (name.Made number)) at

abbrev pub is_open_in : MemoryData → Option (Val Sym) → ℕ → Bool
is_open_in mem None at = false
is_open_in mem (Some (val.Num n)) at = false
is_open_in mem (Some val.Null) at = false
is_open_in mem (Some (val.At of offset)) at = is_open mem of at
is_open_in mem (Some val.Poison) at = false

abbrev pub may_write : MemoryData → List (Val Sym) → ℕ × ℕ × ℕ → Bool
may_write mem args w = is_open_in mem (slice_get args w.0) w.1

abbrev pub may_write_all : MemoryData → List (Val Sym) → List (ℕ × ℕ × ℕ) → Bool
may_write_all mem args [] = true
may_write_all mem args (w ∷ ws) = may_write mem args w && may_write_all mem args ws

-- the name is no function's
abbrev pub IsBytes : Name Sym → Type 0
IsBytes (name.Var symbol) = Unit {0}
IsBytes (name.Func symbol) = ⊥
IsBytes (name.Made number) = Unit {0}
