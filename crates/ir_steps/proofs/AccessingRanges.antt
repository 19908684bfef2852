-- Memory that fits still fits where bytes are copied or filled.
use Rattle.std.proofs.Common.{ℕ, Bool, not, ◌==◌, ◌&&◌, [], ◌∷◌, length, replicate}
use Rattle.std.proofs.lemmas.List.Elements.{All-replicate}
use Rattle.ir_types.specs.declared.scalar.Scalar.TheVariants.{I8, Ptr}
use Rattle.ir_syntax.specs.declared.symbol.Sym.{Sym}
use Rattle.ir_syntax.specs.Programs.{ProgramData}
use Rattle.int_ops.specs.declared.cause.Cause.TheVariants as cause
use Rattle.block_memory.specs.declared.value.Val.{Val}
use Rattle.block_memory.specs.declared.value.Val.TheVariants as val
use Rattle.block_memory.specs.declared.value.Part.{Part}
use Rattle.block_memory.specs.Answers.{Answer, Gives, and_then}
use Rattle.block_memory.specs.Blocks.{MemoryData}
use Rattle.block_memory.specs.Accesses.{Place, place_of, bytes_at, written_at}
use Rattle.block_memory.specs.Copies.{reading_bytes, writing_bytes, untouched, overlap, copied, copy}
use Rattle.block_memory.specs.Fills.{byte_of, filled, fill}
use Rattle.ir_steps.proofs.Fits.{IsValue, IsPart, Has, MemoryFits, StillFits}
use Rattle.ir_steps.proofs.Safely.{Safe, safe_then, safe_when, safe_read}
use Rattle.ir_steps.proofs.Values.{pointer_is_no_number}
use Rattle.ir_steps.proofs.Accessing.{Accessed, still_same, unless_safe, place_safe, written_keeps}
use Rattle.ir_steps.proofs.AccessingValues.{accessed_bytes}

-- ---- copies

-- Nothing is written where there are no bytes.
pub untouched_safe : {A : Type 0} (P : A → Type 0) (p : ProgramData) (made : ℕ) (x : A) (v : Val Sym) → IsValue p made Ptr v → P x → Safe P (untouched x v)
untouched_safe P p made x (val.Num n) h k = absurd (pointer_is_no_number n h)
untouched_safe P p made x val.Null h k = k
untouched_safe P p made x (val.At of offset) h k = k
untouched_safe P p made x val.Poison h k = tt

copied_keeps : (p : ProgramData) (mem : MemoryData) (len : ℕ) (may_overlap : Bool) (to from : Place) → MemoryFits p mem → Accessed p mem len to → Accessed p mem len from
    → Safe (StillFits p mem) (copied mem len may_overlap to from)
copied_keeps p mem len may_overlap to from fits a b =
    unless_safe (StillFits p mem) ((cause.Overlap, not may_overlap && overlap len to from) ∷ []) (written_at mem to (bytes_at from len))
    (written_keeps p mem to (bytes_at from len) fits a.parts (accessed_bytes p mem len len from b))

pub copy_keeps : (p : ProgramData) (mem : MemoryData) (to from : Val Sym) (len : ℕ) (may_overlap : Bool) → MemoryFits p mem → IsValue p (length mem.made) Ptr to → IsValue p (length mem.made) Ptr from
    → Safe (StillFits p mem) (copy mem to from len may_overlap)
copy_keeps p mem to from len may_overlap fits h k =
    let made = length mem.made in
    let none : Answer MemoryData = and_then (λ same. untouched same from) (untouched mem to) in
    let some : Answer MemoryData = and_then (λ written. and_then (copied mem len may_overlap written) (place_of mem (reading_bytes len) from)) (place_of mem (writing_bytes len) to) in
    safe_when (StillFits p mem) (len == 0) none some
    (λ yes. safe_then (StillFits p mem) (StillFits p mem) (λ same. untouched same from) (untouched mem to)
    (untouched_safe (StillFits p mem) p made mem to h (still_same p mem fits)) (λ same still. untouched_safe (StillFits p mem) p made same from k still))
    (λ not_so. safe_then (Accessed p mem len) (StillFits p mem) (λ written. and_then (copied mem len may_overlap written) (place_of mem (reading_bytes len) from)) (place_of mem (writing_bytes len) to)
    (place_safe p mem (writing_bytes len) to fits h)
    (λ written a. safe_then (Accessed p mem len) (StillFits p mem) (copied mem len may_overlap written) (place_of mem (reading_bytes len) from) (place_safe p mem (reading_bytes len) from fits k)
    (λ read b. copied_keeps p mem len may_overlap written read fits a b)))

-- ---- fills

byte_has : (p : ProgramData) (made : ℕ) (v : Val Sym) → IsValue p made I8 v → Has (IsPart p made) (byte_of v)
byte_has p made (val.Num n) h = rw h tt
byte_has p made val.Null h = absurd (cc)
byte_has p made (val.At of offset) h = let e = h.0 in absurd (cc)
byte_has p made val.Poison h = tt

filled_keeps : (p : ProgramData) (mem : MemoryData) (to : Val Sym) (len : ℕ) (byte : Part Sym) → MemoryFits p mem → IsValue p (length mem.made) Ptr to → IsPart p (length mem.made) byte
    → Safe (StillFits p mem) (filled mem to len byte)
filled_keeps p mem to len byte fits h k =
    let made = length mem.made in
    let writes = λ (place : Place). Gives (written_at mem place (replicate len byte)) in
    safe_when (StillFits p mem) (len == 0) (untouched mem to) (and_then writes (place_of mem (writing_bytes len) to))
    (λ yes. untouched_safe (StillFits p mem) p made mem to h (still_same p mem fits))
    (λ not_so. safe_then (Accessed p mem len) (StillFits p mem) writes (place_of mem (writing_bytes len) to) (place_safe p mem (writing_bytes len) to fits h)
    (λ place a. written_keeps p mem place (replicate len byte) fits a.parts (All-replicate (IsPart p made) len byte k)))

pub fill_keeps : (p : ProgramData) (mem : MemoryData) (to byte : Val Sym) (len : ℕ) → MemoryFits p mem → IsValue p (length mem.made) Ptr to → IsValue p (length mem.made) I8 byte
    → Safe (StillFits p mem) (fill mem to byte len)
fill_keeps p mem to byte len fits h k =
    safe_read (IsPart p (length mem.made)) (StillFits p mem) (filled mem to len) (byte_of byte) (byte_has p (length mem.made) byte k) (λ x is. filled_keeps p mem to len x fits h is)
