-- Accesses to the bytes of a block, and why one is undefined. The causes stand in the order in which they are looked at.
use Rattle.std.specs.Prelude.{ℕ, ◌+◌, ◌%◌, ◌^◌, min, Bool, not, ◌&&◌, ◌==◌, nat_lt, ℤ, pos, negsuc, List, [], ◌∷◌, ◌++◌, length, take, drop}
use Rattle.int_ops.specs.declared.cause.Cause.TheVariants as cause
use Rattle.ir_syntax.specs.declared.symbol.Sym.{Sym}
use Rattle.block_memory.specs.declared.value.Name.{Name}
use Rattle.block_memory.specs.declared.value.Name.TheVariants as name
use Rattle.block_memory.specs.declared.value.Val.{Val}
use Rattle.block_memory.specs.declared.value.Val.TheVariants as val
use Rattle.block_memory.specs.declared.value.Part.{Part}
use Rattle.block_memory.specs.Answers.{Answer, Gives, Undefined, Stuck, and_then, or_stuck, unless}
use Rattle.block_memory.specs.Blocks.{LiveBlock, MemoryBlock, Live, Ended, MemoryData, block_at, with_parts, put_block}

-- So many bytes, one or more, at an alignment that is given by its exponent of two, read or written.
pub record Access : Type 0 where
  pub bytes : ℕ
  pub align : ℕ
  pub writes : Bool

-- Where an access goes: to a live block, at an offset.
pub record Place : Type 0 where
  pub of : Name Sym
  pub block : LiveBlock
  pub offset : ℕ

-- a byte of the access is outside the block
abbrev pub is_outside : Access → LiveBlock → ℕ → Bool
is_outside access block offset = nat_lt (length block.parts) (offset + access.bytes)

-- The offset is no multiple of the alignment. The base of each block is aligned to 16, so a greater alignment counts as 16.
abbrev pub is_misaligned : Access → ℕ → Bool
is_misaligned access offset = not (offset % 2 ^ min access.align 4 == 0)

abbrev pub is_read_only : Access → LiveBlock → Bool
is_read_only access block = access.writes && not block.writable

-- the offset of an access within a live block
abbrev pub offset_in : Access → LiveBlock → ℤ → Answer ℕ
offset_in access block (negsuc below) = Undefined cause.OutsideBlock
offset_in access block (pos offset) =
    unless ((cause.OutsideBlock, is_outside access block offset) ∷ (cause.Misaligned, is_misaligned access offset) ∷ (cause.ReadOnly, is_read_only access block) ∷ []) offset

abbrev pub place_in : Access → Name Sym → ℤ → MemoryBlock → Answer Place
place_in access of offset (Ended size) = Undefined cause.EndedBlock
place_in access of offset (Live block) = and_then (λ at. Gives (record { of = of; block = block; offset = at })) (offset_in access block offset)

abbrev pub place_under : MemoryData → Access → Name Sym → ℤ → Answer Place
place_under mem access (name.Var symbol) offset = and_then (place_in access (name.Var symbol) offset) (or_stuck (block_at mem (name.Var symbol)))
place_under mem access (name.Func symbol) offset = Undefined cause.NotBytes
place_under mem access (name.Made number) offset = and_then (place_in access (name.Made number) offset) (or_stuck (block_at mem (name.Made number)))

-- the place of an access at an address
abbrev pub place_of : MemoryData → Access → Val Sym → Answer Place
place_of mem access (val.Num n) = Stuck
place_of mem access val.Null = Undefined cause.NullAddress
place_of mem access (val.At of offset) = place_under mem access of offset
place_of mem access val.Poison = Undefined cause.PoisonAddress

-- so many bytes from a place on
abbrev pub bytes_at : Place → ℕ → List (Part Sym)
bytes_at place count = take count (drop place.offset place.block.parts)

-- parts with others in place of those from an offset on
abbrev pub replaced : List (Part Sym) → ℕ → List (Part Sym) → List (Part Sym)
replaced parts offset new = take offset parts ++ new ++ drop (offset + length new) parts

-- the memory with other bytes from a place on
abbrev pub written_at : MemoryData → Place → List (Part Sym) → MemoryData
written_at mem place new = put_block mem place.of (with_parts place.block (replaced place.block.parts place.offset new))
