-- Fills (LLVM Language Reference Manual, "'llvm.memset' Intrinsics"): each byte becomes the given one, or poison where that is poison.
use Rattle.std.specs.Prelude.{ℕ, ◌==◌, nat_lt, replicate, Option, Some, None, if◌then◌else◌}
use Rattle.ir_syntax.specs.declared.symbol.Sym.{Sym}
use Rattle.block_memory.specs.declared.value.Val.{Val}
use Rattle.block_memory.specs.declared.value.Val.TheVariants as val
use Rattle.block_memory.specs.declared.value.Part.{Part}
use Rattle.block_memory.specs.declared.value.Part.TheVariants as part
use Rattle.block_memory.specs.Answers.{Answer, Gives, and_then, or_stuck}
use Rattle.block_memory.specs.Blocks.{MemoryData}
use Rattle.block_memory.specs.Accesses.{place_of, written_at}
use Rattle.block_memory.specs.Copies.{writing_bytes, untouched}

-- a number below 256 or poison, as a byte of memory
abbrev pub byte_of : Val Sym → Option (Part Sym)
byte_of (val.Num n) = if nat_lt n 256 then Some (part.Num n) else None
byte_of val.Null = None
byte_of (val.At of offset) = None
byte_of val.Poison = Some part.Poison

abbrev pub filled : MemoryData → Val Sym → ℕ → Part Sym → Answer MemoryData
filled mem to len byte =
    if len == 0 then untouched mem to else and_then (λ place. Gives (written_at mem place (replicate len byte))) (place_of mem (writing_bytes len) to)

abbrev pub fill : MemoryData → Val Sym → Val Sym → ℕ → Answer MemoryData
fill mem to byte len = and_then (filled mem to len) (or_stuck (byte_of byte))
