-- Copies that have a meaning.
use Rattle.std.proofs.Common.{ℕ, ◌==◌, not, ◌&&◌, Bool, true, false, [], ◌∷◌, if◌then◌else◌}
use Rattle.int_ops.specs.declared.cause.Cause.TheVariants as cause
use Rattle.ir_syntax.specs.declared.symbol.Sym.{Sym}
use Rattle.block_memory.specs.declared.value.Val.{Val}
use Rattle.block_memory.specs.declared.value.Val.TheVariants as val
use Rattle.block_memory.specs.Answers.{Answer, Gives, Undefined, Stuck, IsMeant, and_then, unless}
use Rattle.block_memory.specs.Blocks.{MemoryData, IsKnown, IsAddress}
use Rattle.block_memory.specs.Accesses.{place_of, bytes_at, written_at}
use Rattle.block_memory.specs.Copies.{copy, copied, overlap, untouched, reading_bytes, writing_bytes}
use Rattle.block_memory.proofs.Meant.{known_is_meant}

pub then_is_meant : {A B : Type 0} (f : A → Answer B) (given : Answer A) → IsMeant given → ((x : A) → IsMeant (f x)) → IsMeant (and_then f given)
then_is_meant f (Gives x) meant each = each x
then_is_meant f (Undefined why) meant each = tt
then_is_meant f Stuck meant each = meant

-- ---- copies

untouched_is_meant : {A : Type 0} (x : A) (at : Val Sym) → IsAddress at → IsMeant (untouched x at)
untouched_is_meant x (val.Num n) address = absurd address
untouched_is_meant x val.Null address = tt
untouched_is_meant x (val.At of offset) address = tt
untouched_is_meant x val.Poison address = tt

unless_is_meant : {A : Type 0} (x : A) (refused : Bool) → IsMeant (unless ((cause.Overlap, refused) ∷ []) x)
unless_is_meant x true = tt
unless_is_meant x false = tt

copied_is_meant : (mem : MemoryData) (to from : Val Sym) (len : ℕ) (may_overlap none : Bool) → IsKnown mem to → IsAddress to → IsKnown mem from → IsAddress from →
    IsMeant (if none then and_then (λ same. untouched same from) (untouched mem to) else and_then (λ written. and_then (copied mem len may_overlap written) (place_of mem (reading_bytes len) from)) (place_of mem (writing_bytes len) to))
copied_is_meant mem to from len may_overlap true to_known to_address from_known from_address =
    then_is_meant (λ same. untouched same from) (untouched mem to) (untouched_is_meant mem to to_address) (λ same. untouched_is_meant same from from_address)
copied_is_meant mem to from len may_overlap false to_known to_address from_known from_address =
    then_is_meant (λ written. and_then (copied mem len may_overlap written) (place_of mem (reading_bytes len) from)) (place_of mem (writing_bytes len) to)
    (known_is_meant mem (writing_bytes len) to to_known to_address)
    (λ written. then_is_meant (copied mem len may_overlap written) (place_of mem (reading_bytes len) from) (known_is_meant mem (reading_bytes len) from from_known from_address)
    (λ place. unless_is_meant (written_at mem written (bytes_at place len)) (not may_overlap && overlap len written place)))

pub copy_is_meant : (mem : MemoryData) (to from : Val Sym) (len : ℕ) (may_overlap : Bool) → IsKnown mem to → IsAddress to → IsKnown mem from → IsAddress from → IsMeant (copy mem to from len may_overlap)
copy_is_meant mem to from len may_overlap = copied_is_meant mem to from len may_overlap (len == 0)
