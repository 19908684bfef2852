-- The whole block of a pointer, as a call outside is shown it.
use Rattle.std.specs.Prelude.{◌≡◌, ⊤, List}
use Rattle.int_ops.specs.declared.cause.Cause.TheVariants as cause
use Rattle.ir_syntax.specs.declared.symbol.Sym.{Sym}
use Rattle.block_memory.specs.declared.value.Name.TheVariants as name
use Rattle.block_memory.specs.declared.value.Val.{Val}
use Rattle.block_memory.specs.declared.value.Val.TheVariants as val
use Rattle.block_memory.specs.declared.value.Part.{Part}
use Rattle.block_memory.specs.declared.value.ShowFault.{ShowFault}
use Rattle.block_memory.specs.declared.value.ShowFault.TheVariants as fault
use Rattle.block_memory.specs.Answers.{Answer, Gives, Undefined, Stuck, and_then, or_stuck}
use Rattle.block_memory.specs.Blocks.{MemoryBlock, Live, Ended, MemoryData, block_at}

-- An ended block has nothing to be shown.
abbrev pub shown : MemoryBlock → Answer (List (Part Sym))
shown (Live block) = Gives block.parts
shown (Ended size) = Undefined cause.EndedBlock

-- the block of a pointer that isn't a function's
abbrev pub show : MemoryData → Val Sym → Answer (List (Part Sym))
show mem (val.Num n) = Stuck
show mem val.Null = Stuck
show mem (val.At of offset) = and_then shown (or_stuck (block_at mem of))
show mem val.Poison = Stuck

-- Why a block isn't shown. Want of memory has no cause.
abbrev pub IsShowCause : MemoryData → Val Sym → ShowFault → Type 0
IsShowCause mem at (fault.Undefined cause) = show mem at ≡ Undefined cause
IsShowCause mem at fault.OutOfMemory = ⊤
