-- Blocks that are made and ended (LLVM Language Reference Manual, "'alloca' Instruction"; the functions `malloc`, `calloc` and `free` of C).
use Rattle.std.specs.Prelude.{ℕ, zero, Bool, true, false, ℤ, pos, [], ◌∷◌, ◌++◌, replicate, slice_get, slice_set, Option, Some, None, if◌then◌else◌}
use Rattle.int_ops.specs.declared.cause.Cause.TheVariants as cause
use Rattle.ir_syntax.specs.declared.symbol.Sym.{Sym}
use Rattle.block_memory.specs.declared.value.Name.{Name}
use Rattle.block_memory.specs.declared.value.Name.TheVariants as name
use Rattle.block_memory.specs.declared.value.Val.{Val}
use Rattle.block_memory.specs.declared.value.Val.TheVariants as val
use Rattle.block_memory.specs.declared.value.Part.{Part}
use Rattle.block_memory.specs.declared.value.Part.TheVariants as part
use Rattle.block_memory.specs.Answers.{Answer, Gives, Undefined}
use Rattle.block_memory.specs.Blocks.{LiveBlock, MemoryBlock, Live, Ended, MemoryData, size_of}

-- ---- made

-- each byte of a new block
abbrev pub first_byte : Bool → Part Sym
first_byte zeroed = if zeroed then part.Num 0 else part.Poison

abbrev pub new_block : ℕ → Bool → Bool → LiveBlock
new_block size heap zeroed = record { parts = replicate size (first_byte zeroed); writable = true; heap = heap }

-- The new block's number is how many were made before.
abbrev pub alloc : MemoryData → ℕ → Bool → Bool → MemoryData
alloc mem size heap zeroed = record mem { made = mem.made ++ Live (new_block size heap zeroed) ∷ [] }

-- ---- ended

abbrev pub end_at : MemoryData → ℕ → Option MemoryBlock → MemoryData
end_at mem number None = mem
end_at mem number (Some block) = record mem { made = slice_set mem.made number (Ended (size_of block)) }

-- the memory once a made block has ended
abbrev pub end : MemoryData → ℕ → MemoryData
end mem number = end_at mem number (slice_get mem.made number)

-- ---- freed

abbrev pub is_heap_at : Option MemoryBlock → Bool
is_heap_at None = false
is_heap_at (Some (Live block)) = block.heap
is_heap_at (Some (Ended size)) = false

abbrev pub bad_free : Answer MemoryData
bad_free = Undefined cause.BadFree

-- a live block from the heap, by its first byte
abbrev pub free_at : MemoryData → Name Sym → ℤ → Answer MemoryData
free_at mem (name.Made number) (pos zero) = if is_heap_at (slice_get mem.made number) then Gives (end mem number) else bad_free
free_at mem of offset = bad_free

-- Nothing else is freed but null, which changes nothing.
abbrev pub free : MemoryData → Val Sym → Answer MemoryData
free mem (val.Num n) = bad_free
free mem val.Null = Gives mem
free mem (val.At of offset) = free_at mem of offset
free mem val.Poison = bad_free
