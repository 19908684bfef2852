-- Comparisons of pointers in memory that fits are safe, and so are pointers that are moved.
use Rattle.std.proofs.Common.{ℕ, Bool, true, false, not, ◌&&◌, ◌==◌, ℤ, pos, negsuc, ◌+ℤ◌, nat_le, length, Option, Some, None, if◌then◌else◌, refl}
use Rattle.std.specs.Ordering.{int_eq}
use Rattle.int_ops.specs.Comparisons.{icmp_holds}
use Rattle.ir_types.specs.declared.scalar.Scalar.TheVariants.{I1, I64, Ptr}
use Rattle.ir_types.specs.declared.scalar.Pred.{Pred}
use Rattle.ir_types.specs.declared.scalar.Pred.TheVariants.{Eq, Ne, Ugt, Uge, Ult, Ule, Sgt, Sge, Slt, Sle}
use Rattle.ir_types.specs.Scalars.{integer_modulo}
use Rattle.ir_syntax.specs.declared.symbol.Sym.{Sym}
use Rattle.ir_syntax.specs.Programs.{ProgramData}
use Rattle.block_memory.specs.declared.value.Name.{Name}
use Rattle.block_memory.specs.declared.value.Name.TheVariants as name
use Rattle.block_memory.specs.declared.value.Val.{Val}
use Rattle.block_memory.specs.declared.value.Val.TheVariants as val
use Rattle.block_memory.specs.Answers.{Gives, and_then, or_stuck}
use Rattle.block_memory.specs.Blocks.{MemoryData, block_at}
use Rattle.block_memory.specs.Parts.{same_name}
use Rattle.block_memory.specs.Comparisons.{Extent, extent_of, extent, truth, incomparable, unequal, is_in, is_upto, in_order, in_one_block, in_two_blocks, beside_null, addresses, compare}
use Rattle.ir_steps.specs.Pointers.{wrapped, leaves_block, at_offset, moved_by, moved}
use Rattle.ir_steps.proofs.Fits.{IsThere, IsValue, Has, MemoryFits}
use Rattle.ir_steps.proofs.Safely.{Safe, safe_when, safe_read, has_map}
use Rattle.ir_steps.proofs.Values.{pointer_is_no_number}
use Rattle.ir_steps.proofs.Accessing.{BlockFits, var_there, made_there}

-- ---- extents

-- A block that is named has an extent.
pub extent_has : (p : ProgramData) (mem : MemoryData) (of : Name Sym) → MemoryFits p mem → IsThere p (length mem.made) of → Has (λ (block : Extent). Unit {0}) (extent mem of)
extent_has p mem (name.Var symbol) fits h =
    has_map (λ block. BlockFits p (length mem.made) (Some block)) (λ (e : Extent). Unit {0}) extent_of (block_at mem (name.Var symbol)) (var_there p mem symbol fits h) (λ block k. tt)
extent_has p mem (name.Func symbol) fits h = tt
extent_has p mem (name.Made number) fits h =
    has_map (λ block. BlockFits p (length mem.made) (Some block)) (λ (e : Extent). Unit {0}) extent_of (block_at mem (name.Made number)) (made_there p mem number fits h) (λ block k. tt)

-- ---- compared

pub truth_value : (p : ProgramData) (made : ℕ) (b : Bool) → IsValue p made I1 (truth b)
truth_value p made true = refl
truth_value p made false = refl

unequal_safe : (p : ProgramData) (made : ℕ) (pred : Pred) → Safe (IsValue p made I1) (unequal pred)
unequal_safe p made Eq = refl
unequal_safe p made Ne = refl
unequal_safe p made Ugt = tt
unequal_safe p made Uge = tt
unequal_safe p made Ult = tt
unequal_safe p made Ule = tt
unequal_safe p made Sgt = tt
unequal_safe p made Sge = tt
unequal_safe p made Slt = tt
unequal_safe p made Sle = tt

in_order_safe : (p : ProgramData) (made : ℕ) (pred : Pred) (size : ℕ) (a b : ℤ) → Safe (IsValue p made I1) (in_order pred size a b)
in_order_safe p made pred size (pos a) (pos b) =
    safe_when (IsValue p made I1) (nat_le a size && nat_le b size) (Gives (truth (icmp_holds pred I64 a b))) incomparable (λ yes. truth_value p made (icmp_holds pred I64 a b)) (λ not_so. tt)
in_order_safe p made pred size (pos a) (negsuc b) = tt
in_order_safe p made pred size (negsuc a) (pos b) = tt
in_order_safe p made pred size (negsuc a) (negsuc b) = tt

one_block_safe : (p : ProgramData) (made : ℕ) (pred : Pred) (size : ℕ) (a b : ℤ) → Safe (IsValue p made I1) (in_one_block pred size a b)
one_block_safe p made Eq size a b = truth_value p made (int_eq a b)
one_block_safe p made Ne size a b = truth_value p made (not (int_eq a b))
one_block_safe p made Ugt size a b = in_order_safe p made Ugt size a b
one_block_safe p made Uge size a b = in_order_safe p made Uge size a b
one_block_safe p made Ult size a b = in_order_safe p made Ult size a b
one_block_safe p made Ule size a b = in_order_safe p made Ule size a b
one_block_safe p made Sgt size a b = tt
one_block_safe p made Sge size a b = tt
one_block_safe p made Slt size a b = tt
one_block_safe p made Sle size a b = tt

two_blocks_safe : (p : ProgramData) (made : ℕ) (pred : Pred) (a b : ℤ) (one other : Extent) → Safe (IsValue p made I1) (in_two_blocks pred a b one other)
two_blocks_safe p made pred a b one other =
    safe_when (IsValue p made I1) (one.live && other.live && is_in a one.size && is_in b other.size) (unequal pred) incomparable (λ yes. unequal_safe p made pred) (λ not_so. tt)

beside_safe : (p : ProgramData) (mem : MemoryData) (pred : Pred) (of : Name Sym) (offset : ℤ) → MemoryFits p mem → IsThere p (length mem.made) of
    → Safe (IsValue p (length mem.made) I1) (and_then (beside_null pred offset) (or_stuck (extent mem of)))
beside_safe p mem pred of offset fits h =
    let P = IsValue p (length mem.made) I1 in
    safe_read (λ (e : Extent). Unit {0}) P (beside_null pred offset) (extent mem of) (extent_has p mem of fits h)
    (λ block k. safe_when P (block.live && is_upto offset block.size) (unequal pred) incomparable (λ yes. unequal_safe p (length mem.made) pred) (λ not_so. tt))

addresses_safe : (p : ProgramData) (mem : MemoryData) (pred : Pred) (of : Name Sym) (a : ℤ) (other : Name Sym) (b : ℤ) → MemoryFits p mem → IsThere p (length mem.made) of → IsThere p (length mem.made) other
    → Safe (IsValue p (length mem.made) I1) (addresses mem pred of a other b)
addresses_safe p mem pred of a other b fits h k =
    let made = length mem.made in
    let P = IsValue p made I1 in
    safe_read (λ (e : Extent). Unit {0}) P (λ one. if same_name of other then in_one_block pred one.size a b else and_then (in_two_blocks pred a b one) (or_stuck (extent mem other))) (extent mem of) (extent_has p mem of fits h)
    (λ one i. safe_when P (same_name of other) (in_one_block pred one.size a b) (and_then (in_two_blocks pred a b one) (or_stuck (extent mem other)))
    (λ yes. one_block_safe p made pred one.size a b)
    (λ not_so. safe_read (λ (e : Extent). Unit {0}) P (in_two_blocks pred a b one) (extent mem other) (extent_has p mem other fits k) (λ two j. two_blocks_safe p made pred a b one two)))

pub compare_fits : (p : ProgramData) (mem : MemoryData) (pred : Pred) (a b : Val Sym) → MemoryFits p mem → IsValue p (length mem.made) Ptr a → IsValue p (length mem.made) Ptr b
    → Safe (IsValue p (length mem.made) I1) (compare mem pred a b)
compare_fits p mem pred (val.Num n) b fits h k = absurd (pointer_is_no_number n h)
compare_fits p mem pred val.Null (val.Num n) fits h k = tt
compare_fits p mem pred val.Null val.Null fits h k = truth_value p (length mem.made) (icmp_holds pred I64 0 0)
compare_fits p mem pred val.Null (val.At of offset) fits h k = beside_safe p mem pred of offset fits k.1
compare_fits p mem pred val.Null val.Poison fits h k = tt
compare_fits p mem pred (val.At of offset) (val.Num n) fits h k = tt
compare_fits p mem pred (val.At of offset) val.Null fits h k = beside_safe p mem pred of offset fits h.1
compare_fits p mem pred (val.At of offset) (val.At other other_offset) fits h k = addresses_safe p mem pred of offset other other_offset fits h.1 k.1
compare_fits p mem pred (val.At of offset) val.Poison fits h k = tt
compare_fits p mem pred val.Poison b fits h k = tt

-- ---- moved

choice_value : (p : ProgramData) (made : ℕ) (b : Bool) (v w : Val Sym) → IsValue p made Ptr v → IsValue p made Ptr w → IsValue p made Ptr (if b then v else w)
choice_value p made true v w h k = h
choice_value p made false v w h k = k

pub moved_by_fits : (p : ProgramData) (mem : MemoryData) (inbounds : Bool) (base : Val Sym) (by : ℤ) → MemoryFits p mem → IsValue p (length mem.made) Ptr base
    → Safe (IsValue p (length mem.made) Ptr) (moved_by mem inbounds base by)
moved_by_fits p mem inbounds (val.Num n) by fits h = absurd (pointer_is_no_number n h)
moved_by_fits p mem inbounds val.Null by fits h = choice_value p (length mem.made) (integer_modulo I64 by == 0) val.Null val.Poison refl tt
moved_by_fits p mem inbounds (val.At of from) by fits h =
    let made = length mem.made in
    let to = wrapped (from +ℤ by) in
    safe_read (λ (e : Extent). Unit {0}) (IsValue p made Ptr) (λ block. Gives (at_offset inbounds of from to block.size)) (extent mem of) (extent_has p mem of fits h.1)
    (λ block k. choice_value p made (leaves_block inbounds block.size from to) val.Poison (val.At of to) tt (refl, h.1))
moved_by_fits p mem inbounds val.Poison by fits h = tt

pub moved_fits : (p : ProgramData) (mem : MemoryData) (inbounds : Bool) (base : Val Sym) (by : Option ℤ) → MemoryFits p mem → IsValue p (length mem.made) Ptr base
    → Safe (IsValue p (length mem.made) Ptr) (moved mem inbounds base by)
moved_fits p mem inbounds base None fits h = tt
moved_fits p mem inbounds base (Some by) fits h = moved_by_fits p mem inbounds base by fits h
