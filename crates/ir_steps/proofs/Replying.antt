-- What a function outside replies is a value of its type or a bad reply, and what it writes leaves the memory fitting.
use Rattle.std.proofs.Common.{ℕ, ℤ, pos, List, [], ◌∷◌, length, All, slice_get, Option, Some, None, IfSome, refl, sym, subst}
use Rattle.std.proofs.lemmas.List.Elements.{All-nil, All-cons}
use Rattle.ir_types.specs.declared.scalar.Scalar.{Scalar}
use Rattle.ir_types.specs.declared.scalar.Scalar.TheVariants.{I1, I8, I16, I32, I64, Ptr}
use Rattle.ir_types.specs.Scalars.{is_number_of}
use Rattle.ir_syntax.specs.declared.symbol.Sym.{Sym}
use Rattle.ir_syntax.specs.Programs.{ProgramData}
use Rattle.block_memory.specs.declared.value.Val.{Val}
use Rattle.block_memory.specs.declared.value.Val.TheVariants as val
use Rattle.block_memory.specs.declared.value.Part.TheVariants as part
use Rattle.block_memory.specs.Answers.{Answer, Gives, Undefined, Stuck, and_then}
use Rattle.block_memory.specs.Blocks.{MemoryData}
use Rattle.block_memory.specs.Accesses.{place_of, written_at}
use Rattle.block_memory.specs.Copies.{writing_bytes}
use Rattle.ir_steps.specs.declared.session.ReplyVal.{ReplyVal}
use Rattle.ir_steps.specs.declared.session.ReplyVal.TheVariants as reply
use Rattle.ir_steps.specs.Replies.{bad, moved_argument, number_for, replied, or_bad, write_in, write_one, write_all}
use Rattle.ir_steps.proofs.Fits.{IsPart, MemoryFits, StillFits}
use Rattle.ir_steps.proofs.Safely.{Safe, safe_then, safe_when, safe_weaker}
use Rattle.ir_steps.proofs.Values.{IsSomeValue, IsResult, element_is}
use Rattle.ir_steps.proofs.Accessing.{Accessed, place_safe, written_keeps, still_same, still_then}

-- ---- the value

moved_argument_safe : (p : ProgramData) (made : ℕ) (by : ℤ) (o : Option (Val Sym)) → IfSome o (IsSomeValue p made) → Safe (IsResult p made (Some Ptr)) (moved_argument by o)
moved_argument_safe p made by None h = tt
moved_argument_safe p made by (Some (val.Num n)) h = tt
moved_argument_safe p made by (Some val.Null) h = tt
moved_argument_safe p made by (Some (val.At of offset)) h = (refl, h.1.1)
moved_argument_safe p made by (Some val.Poison) h = tt

number_for_safe : (p : ProgramData) (made : ℕ) (ty : Scalar) (n : ℕ) → Safe (IsResult p made (Some ty)) (number_for ty n)
number_for_safe p made ty n = safe_when (IsResult p made (Some ty)) (is_number_of ty n) (Gives (Some (val.Num n))) bad (λ yes. yes) (λ not_so. tt)

pub replied_fits : (p : ProgramData) (made : ℕ) (args : List (Val Sym)) (returns : Option Scalar) (v : ReplyVal) → All (IsSomeValue p made) args → Safe (IsResult p made returns) (replied args returns v)
replied_fits p made args None reply.Void h = tt
replied_fits p made args None (reply.Num n) h = tt
replied_fits p made args None reply.Null h = tt
replied_fits p made args None (reply.Arg k by) h = tt
replied_fits p made args (Some I1) reply.Void h = tt
replied_fits p made args (Some I8) reply.Void h = tt
replied_fits p made args (Some I16) reply.Void h = tt
replied_fits p made args (Some I32) reply.Void h = tt
replied_fits p made args (Some I64) reply.Void h = tt
replied_fits p made args (Some Ptr) reply.Void h = tt
replied_fits p made args (Some ty) (reply.Num n) h = number_for_safe p made ty n
replied_fits p made args (Some I1) reply.Null h = tt
replied_fits p made args (Some I8) reply.Null h = tt
replied_fits p made args (Some I16) reply.Null h = tt
replied_fits p made args (Some I32) reply.Null h = tt
replied_fits p made args (Some I64) reply.Null h = tt
replied_fits p made args (Some Ptr) reply.Null h = refl
replied_fits p made args (Some I1) (reply.Arg k by) h = tt
replied_fits p made args (Some I8) (reply.Arg k by) h = tt
replied_fits p made args (Some I16) (reply.Arg k by) h = tt
replied_fits p made args (Some I32) (reply.Arg k by) h = tt
replied_fits p made args (Some I64) (reply.Arg k by) h = tt
replied_fits p made args (Some Ptr) (reply.Arg k by) h = moved_argument_safe p made by (slice_get args k) (element_is (IsSomeValue p made) args k h)

-- ---- what is written

or_bad_safe : {A : Type 0} (P : A → Type 0) (a : Answer A) → Safe P a → Safe P (or_bad a)
or_bad_safe P (Gives x) h = h
or_bad_safe P (Undefined why) h = tt
or_bad_safe P Stuck h = tt

write_in_keeps : (p : ProgramData) (mem : MemoryData) (at byte : ℕ) (v : Val Sym) → MemoryFits p mem → IsSomeValue p (length mem.made) v → Safe (StillFits p mem) (write_in mem at byte v)
write_in_keeps p mem at byte (val.Num n) fits h = tt
write_in_keeps p mem at byte val.Null fits h = tt
write_in_keeps p mem at byte (val.At of offset) fits h =
    let P = IsPart p (length mem.made) in
    let to = val.At of (pos at) in
    or_bad_safe (StillFits p mem) (and_then (λ place. Gives (written_at mem place (part.Num byte ∷ []))) (place_of mem (writing_bytes 1) to))
    (safe_then (Accessed p mem 1) (StillFits p mem) (λ place. Gives (written_at mem place (part.Num byte ∷ []))) (place_of mem (writing_bytes 1) to)
    (place_safe p mem (writing_bytes 1) to fits (refl, h.1.1))
    (λ place a. written_keeps p mem place (part.Num byte ∷ []) fits a.parts (All-cons P (part.Num byte) [] tt (All-nil P))))
write_in_keeps p mem at byte val.Poison fits h = tt

write_one_keeps : (p : ProgramData) (mem : MemoryData) (w : ℕ × ℕ × ℕ) (o : Option (Val Sym)) → MemoryFits p mem → IfSome o (IsSomeValue p (length mem.made)) → Safe (StillFits p mem) (write_one mem w o)
write_one_keeps p mem w None fits h = tt
write_one_keeps p mem w (Some v) fits h = write_in_keeps p mem w.1 w.2 v fits h

pub write_all_keeps : (p : ProgramData) (args : List (Val Sym)) (writes : List (ℕ × ℕ × ℕ)) (mem : MemoryData) → MemoryFits p mem → All (IsSomeValue p (length mem.made)) args
    → Safe (StillFits p mem) (write_all args writes mem)
write_all_keeps p args [] mem fits h = still_same p mem fits
write_all_keeps p args (w ∷ ws) mem fits h =
    safe_then (StillFits p mem) (StillFits p mem) (write_all args ws) (write_one mem w (slice_get args w.0)) (write_one_keeps p mem w (slice_get args w.0) fits (element_is (IsSomeValue p (length mem.made)) args w.0 h))
    (λ new still. safe_weaker (StillFits p new) (StillFits p mem) (write_all args ws new)
    (write_all_keeps p args ws new still.fits (subst (λ n. All (IsSomeValue p n) args) (sym still.same_made) h)) (λ last k. still_then p mem new last still k))
