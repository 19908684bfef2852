-- Copies (LLVM Language Reference Manual, "'llvm.memcpy' Intrinsic", "'llvm.memmove' Intrinsic"): each byte of the place written becomes
-- what the matching byte of the place read was before. The place written is looked at before the place read.
use Rattle.std.specs.Prelude.{ℕ, ◌+◌, Bool, true, false, not, ◌&&◌, ◌==◌, nat_lt, [], ◌∷◌, if◌then◌else◌}
use Rattle.int_ops.specs.declared.cause.Cause.TheVariants as cause
use Rattle.ir_syntax.specs.declared.symbol.Sym.{Sym}
use Rattle.block_memory.specs.declared.value.Val.{Val}
use Rattle.block_memory.specs.declared.value.Val.TheVariants as val
use Rattle.block_memory.specs.Answers.{Answer, Gives, Undefined, Stuck, and_then, unless}
use Rattle.block_memory.specs.Blocks.{MemoryData}
use Rattle.block_memory.specs.Parts.{same_name}
use Rattle.block_memory.specs.Accesses.{Access, Place, place_of, bytes_at, written_at}

-- Bytes alone have no alignment.
abbrev pub reading_bytes : ℕ → Access
reading_bytes len = record { bytes = len; align = 0; writes = false }

abbrev pub writing_bytes : ℕ → Access
writing_bytes len = record { bytes = len; align = 0; writes = true }

-- An access to no bytes refuses poison, and nothing else.
abbrev pub untouched : {A : Type 0} → A → Val Sym → Answer A
untouched x (val.Num n) = Stuck
untouched x val.Null = Gives x
untouched x (val.At of offset) = Gives x
untouched x val.Poison = Undefined cause.PoisonAddress

-- two ranges of so many bytes in one block that overlap and aren't equal
abbrev pub ranges_overlap : ℕ → ℕ → ℕ → Bool
ranges_overlap len a b = not (a == b) && nat_lt a (b + len) && nat_lt b (a + len)

abbrev pub overlap : ℕ → Place → Place → Bool
overlap len a b = same_name a.of b.of && ranges_overlap len a.offset b.offset

-- from one place to the other
abbrev pub copied : MemoryData → ℕ → Bool → Place → Place → Answer MemoryData
copied mem len may_overlap to from = unless ((cause.Overlap, not may_overlap && overlap len to from) ∷ []) (written_at mem to (bytes_at from len))

abbrev pub copy : MemoryData → Val Sym → Val Sym → ℕ → Bool → Answer MemoryData
copy mem to from len may_overlap =
    if len == 0 then
    and_then (λ same. untouched same from) (untouched mem to)
    else and_then (λ written. and_then (copied mem len may_overlap written) (place_of mem (reading_bytes len) from)) (place_of mem (writing_bytes len) to)
