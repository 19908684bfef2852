-- What a function outside may reply: a value of its type, and bytes in the writable blocks that it was shown.
use Rattle.std.specs.Prelude.{ℕ, ℤ, pos, ◌+ℤ◌, List, [], ◌∷◌, slice_get, Option, Some, None, if◌then◌else◌}
use Rattle.ir_types.specs.declared.scalar.Scalar.{Scalar}
use Rattle.ir_types.specs.declared.scalar.Scalar.TheVariants.{Ptr}
use Rattle.ir_types.specs.Scalars.{is_number_of}
use Rattle.ir_syntax.specs.declared.symbol.Sym.{Sym}
use Rattle.int_ops.specs.declared.cause.Cause.TheVariants as cause
use Rattle.block_memory.specs.declared.value.Val.{Val}
use Rattle.block_memory.specs.declared.value.Val.TheVariants as val
use Rattle.block_memory.specs.declared.value.Part.TheVariants as part
use Rattle.block_memory.specs.Answers.{Answer, Gives, Undefined, Stuck, and_then}
use Rattle.block_memory.specs.Blocks.{MemoryData}
use Rattle.block_memory.specs.Accesses.{place_of, written_at}
use Rattle.block_memory.specs.Copies.{writing_bytes}
use Rattle.ir_steps.specs.declared.session.ReplyVal.{ReplyVal}
use Rattle.ir_steps.specs.declared.session.ReplyVal.TheVariants as reply
use Rattle.ir_steps.specs.Pointers.{wrapped}

abbrev pub bad : {A : Type 0} → Answer A
bad = Undefined cause.BadReply

-- ---- the value

-- an argument that is an address, so many bytes further
abbrev pub moved_argument : ℤ → Option (Val Sym) → Answer (Option (Val Sym))
moved_argument by None = bad
moved_argument by (Some (val.Num n)) = bad
moved_argument by (Some val.Null) = bad
moved_argument by (Some (val.At of offset)) = Gives (Some (val.At of (wrapped (offset +ℤ by))))
moved_argument by (Some val.Poison) = bad

abbrev pub number_for : Scalar → ℕ → Answer (Option (Val Sym))
number_for ty n = if is_number_of ty n then Gives (Some (val.Num n)) else bad

abbrev pub replied : List (Val Sym) → Option Scalar → ReplyVal → Answer (Option (Val Sym))
replied args None reply.Void = Gives None
replied args (Some ty) (reply.Num n) = number_for ty n
replied args (Some Ptr) reply.Null = Gives (Some val.Null)
replied args (Some Ptr) (reply.Arg k by) = moved_argument by (slice_get args k)
replied args returns v = bad

-- ---- what is written

-- What isn't allowed of a reply is a bad one.
abbrev pub or_bad : {A : Type 0} → Answer A → Answer A
or_bad (Gives x) = Gives x
or_bad (Undefined why) = bad
or_bad Stuck = bad

abbrev pub write_in : MemoryData → ℕ → ℕ → Val Sym → Answer MemoryData
write_in mem at byte (val.Num n) = bad
write_in mem at byte val.Null = bad
write_in mem at byte (val.At of offset) =
    or_bad (and_then (λ place. Gives (written_at mem place (part.Num byte ∷ []))) (place_of mem (writing_bytes 1) (val.At of (pos at))))
write_in mem at byte val.Poison = bad

abbrev pub write_one : MemoryData → ℕ × ℕ × ℕ → Option (Val Sym) → Answer MemoryData
write_one mem w None = bad
write_one mem w (Some v) = write_in mem w.1 w.2 v

-- each names an argument, an offset in its block, and a byte
abbrev pub write_all : List (Val Sym) → List (ℕ × ℕ × ℕ) → MemoryData → Answer MemoryData
write_all args [] mem = Gives mem
write_all args (w ∷ ws) mem = and_then (write_all args ws) (write_one mem w (slice_get args w.0))
