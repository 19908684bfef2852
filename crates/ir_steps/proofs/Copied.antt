-- The intrinsics that copy and fill memory are safe where the call goes on safely.
use Rattle.std.proofs.Common.{ℕ, ◌≤◌, Bool, true, false, List, [], ◌∷◌, length, Option, None, arith}
use Rattle.ir_types.specs.declared.scalar.Scalar.{Scalar}
use Rattle.ir_types.specs.declared.scalar.Scalar.TheVariants.{I1, I8, I64, Ptr}
use Rattle.ir_syntax.specs.declared.symbol.Sym.{Sym}
use Rattle.ir_syntax.specs.declared.symbol.Intrinsic.{Intrinsic}
use Rattle.ir_syntax.specs.declared.symbol.Intrinsic.TheVariants as intrinsic
use Rattle.ir_syntax.specs.Intrinsics.{type_of_intrinsic}
use Rattle.ir_syntax.specs.Programs.{ProgramData}
use Rattle.block_memory.specs.declared.value.Val.{Val}
use Rattle.block_memory.specs.declared.value.Val.TheVariants as val
use Rattle.block_memory.specs.Answers.{Answer, and_then}
use Rattle.block_memory.specs.Blocks.{MemoryData}
use Rattle.block_memory.specs.Copies.{copy}
use Rattle.block_memory.specs.Fills.{fill}
use Rattle.ir_steps.specs.States.{Point}
use Rattle.ir_steps.specs.Results.{Next, goes_on, with_memory}
use Rattle.ir_steps.specs.Copying.{length_of, copies, fills, intrinsic_call}
use Rattle.ir_steps.proofs.Fits.{IsValue, MemoryFits, StillFits}
use Rattle.ir_steps.proofs.Safely.{Safe, safe_then}
use Rattle.ir_steps.proofs.Values.{AreValues, IsResult}
use Rattle.ir_steps.proofs.AccessingRanges.{copy_keeps, fill_keeps}

-- ---- a call that goes on

-- The call goes on safely with any memory that fits and has no fewer blocks, and a result of the type.
abbrev pub GoesOn : ProgramData → (Next → Type 0) → Point → Option Scalar → Type 0
GoesOn p Q at returns =
    (mem : MemoryData) (result : Option (Val Sym)) → MemoryFits p mem → length at.memory.made ≤ length mem.made → IsResult p (length mem.made) returns result
    → Safe Q (goes_on (record at { memory = mem }) result)

-- with other memory, and no result
pub memory_goes_on : (p : ProgramData) (Q : Next → Type 0) (at : Point) (a : Answer MemoryData) → GoesOn p Q at None → Safe (StillFits p at.memory) a → Safe Q (and_then (with_memory at) a)
memory_goes_on p Q at a goes h =
    safe_then (StillFits p at.memory) Q (with_memory at) a h (λ mem still. let same = still.same_made in goes mem None still.fits (omega arith) tt)

-- ---- copies and fills

length_safe : (p : ProgramData) (made : ℕ) (v : Val Sym) → IsValue p made I64 v → Safe (λ (n : ℕ). Unit {0}) (length_of v)
length_safe p made (val.Num n) h = tt
length_safe p made val.Null h = absurd (cc)
length_safe p made (val.At of offset) h = let e = h.0 in absurd (cc)
length_safe p made val.Poison h = tt

copies_safe : (p : ProgramData) (Q : Next → Type 0) (at : Point) (may_overlap : Bool) (args : List (Val Sym)) → MemoryFits p at.memory
    → AreValues p (length at.memory.made) (Ptr ∷ Ptr ∷ I64 ∷ I1 ∷ []) args → GoesOn p Q at None → Safe Q (copies at may_overlap args)
copies_safe p Q at may_overlap [] fits h goes = absurd h
copies_safe p Q at may_overlap (to ∷ []) fits h goes = absurd h.1
copies_safe p Q at may_overlap (to ∷ from ∷ []) fits h goes = absurd h.1.1
copies_safe p Q at may_overlap (to ∷ from ∷ len ∷ []) fits h goes = absurd h.1.1.1
copies_safe p Q at may_overlap (to ∷ from ∷ len ∷ volatile ∷ []) fits h goes =
    safe_then (λ (n : ℕ). Unit {0}) Q (λ n. and_then (with_memory at) (copy at.memory to from n may_overlap)) (length_of len) (length_safe p (length at.memory.made) len h.1.1.0)
    (λ n k. memory_goes_on p Q at (copy at.memory to from n may_overlap) goes (copy_keeps p at.memory to from n may_overlap fits h.0 h.1.0))
copies_safe p Q at may_overlap (to ∷ from ∷ len ∷ volatile ∷ v ∷ more) fits h goes = absurd h.1.1.1.1

fills_safe : (p : ProgramData) (Q : Next → Type 0) (at : Point) (args : List (Val Sym)) → MemoryFits p at.memory → AreValues p (length at.memory.made) (Ptr ∷ I8 ∷ I64 ∷ I1 ∷ []) args → GoesOn p Q at None → Safe Q (fills at args)
fills_safe p Q at [] fits h goes = absurd h
fills_safe p Q at (to ∷ []) fits h goes = absurd h.1
fills_safe p Q at (to ∷ byte ∷ []) fits h goes = absurd h.1.1
fills_safe p Q at (to ∷ byte ∷ len ∷ []) fits h goes = absurd h.1.1.1
fills_safe p Q at (to ∷ byte ∷ len ∷ volatile ∷ []) fits h goes =
    safe_then (λ (n : ℕ). Unit {0}) Q (λ n. and_then (with_memory at) (fill at.memory to byte n)) (length_of len) (length_safe p (length at.memory.made) len h.1.1.0)
    (λ n k. memory_goes_on p Q at (fill at.memory to byte n) goes (fill_keeps p at.memory to byte n fits h.0 h.1.0))
fills_safe p Q at (to ∷ byte ∷ len ∷ volatile ∷ v ∷ more) fits h goes = absurd h.1.1.1.1

pub intrinsic_safe : (p : ProgramData) (Q : Next → Type 0) (at : Point) (args : List (Val Sym)) (of : Intrinsic) → MemoryFits p at.memory
    → AreValues p (length at.memory.made) (type_of_intrinsic of).params args → GoesOn p Q at (type_of_intrinsic of).returns → Safe Q (intrinsic_call at args of)
intrinsic_safe p Q at args intrinsic.Memcpy fits h goes = copies_safe p Q at false args fits h goes
intrinsic_safe p Q at args intrinsic.Memmove fits h goes = copies_safe p Q at true args fits h goes
intrinsic_safe p Q at args intrinsic.Memset fits h goes = fills_safe p Q at args fits h goes
