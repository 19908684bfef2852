-- Comparisons that have a meaning.
use Rattle.std.proofs.Common.{ℕ, zero, suc, ◌<◌, ◌&&◌, Bool, true, false, ℤ, pos, negsuc, nat_le, List, [], ◌∷◌, length, slice_get, Option, Some, None, IsSome, option_map, if◌then◌else◌, refl, arith}
use Rattle.ir_types.specs.declared.scalar.Pred.{Pred}
use Rattle.ir_types.specs.declared.scalar.Pred.TheVariants.{Eq, Ne, Ugt, Uge, Ult, Ule, Sgt, Sge, Slt, Sle}
use Rattle.ir_types.specs.declared.scalar.Scalar.TheVariants.{I64}
use Rattle.int_ops.specs.Comparisons.{icmp_holds}
use Rattle.ir_syntax.specs.declared.symbol.Sym.{Sym}
use Rattle.block_memory.specs.declared.value.Name.{Name}
use Rattle.block_memory.specs.declared.value.Name.TheVariants as name
use Rattle.block_memory.specs.declared.value.Val.{Val}
use Rattle.block_memory.specs.declared.value.Val.TheVariants as val
use Rattle.block_memory.specs.Answers.{Gives, IsMeant, and_then, or_stuck}
use Rattle.block_memory.specs.Blocks.{Live, MemoryData, IsNamed, IsKnown, var_at}
use Rattle.block_memory.specs.Comparisons.{Extent, extent_of, extent, truth, incomparable, unequal, is_in, is_upto, in_order, in_one_block, in_two_blocks, beside_null, addresses, compare}
use Rattle.block_memory.specs.Parts.{same_name}
use Rattle.memory_rows.proofs.Asked.{then_is_meant}

-- ---- blocks

number_is_there : {A : Type 0} (xs : List A) (k : ℕ) → k < length xs → IsSome (slice_get xs k)
number_is_there [] k inside = absurd (omega (arith, inside))
number_is_there (x ∷ xs) zero inside = refl
number_is_there (x ∷ xs) (suc k) inside = number_is_there xs k (omega (arith, inside))

mapped_is_there : {A B : Type 0} (f : A → B) (found : Option A) → IsSome found → IsSome (option_map f found)
mapped_is_there f None there = absurd (cc)
mapped_is_there f (Some x) there = refl

made_is_there : (mem : MemoryData) (number : ℕ) → IsNamed mem (name.Made number) → IsSome (slice_get mem.made number)
made_is_there mem number named = number_is_there mem.made number named

extent_is_there : (mem : MemoryData) (of : Name Sym) → IsNamed mem of → IsSome (extent mem of)
extent_is_there mem (name.Var symbol) named = mapped_is_there extent_of (option_map Live (var_at mem symbol)) (mapped_is_there Live (var_at mem symbol) named)
extent_is_there mem (name.Func symbol) named = refl
extent_is_there mem (name.Made number) named = mapped_is_there extent_of (slice_get mem.made number) (made_is_there mem number named)

there_is_meant : {A : Type 0} (found : Option A) → IsSome found → IsMeant (or_stuck found)
there_is_meant None there = absurd (cc)
there_is_meant (Some x) there = tt

-- ---- comparisons

unequal_is_meant : (pred : Pred) → IsMeant (unequal pred)
unequal_is_meant Eq = tt
unequal_is_meant Ne = tt
unequal_is_meant Ugt = tt
unequal_is_meant Uge = tt
unequal_is_meant Ult = tt
unequal_is_meant Ule = tt
unequal_is_meant Sgt = tt
unequal_is_meant Sge = tt
unequal_is_meant Slt = tt
unequal_is_meant Sle = tt

unequal_or_not : (pred : Pred) (holds : Bool) → IsMeant (if holds then unequal pred else incomparable)
unequal_or_not pred true = unequal_is_meant pred
unequal_or_not pred false = tt

ordered_or_not : (x : Val Sym) (holds : Bool) → IsMeant (if holds then Gives x else incomparable)
ordered_or_not x true = tt
ordered_or_not x false = tt

order_is_meant : (pred : Pred) (size : ℕ) (a b : ℤ) → IsMeant (in_order pred size a b)
order_is_meant pred size (pos a) (pos b) = ordered_or_not (truth (icmp_holds pred I64 a b)) (nat_le a size && nat_le b size)
order_is_meant pred size (pos a) (negsuc b) = tt
order_is_meant pred size (negsuc a) (pos b) = tt
order_is_meant pred size (negsuc a) (negsuc b) = tt

one_is_meant : (pred : Pred) (size : ℕ) (a b : ℤ) → IsMeant (in_one_block pred size a b)
one_is_meant Eq size a b = tt
one_is_meant Ne size a b = tt
one_is_meant Ugt size a b = order_is_meant Ugt size a b
one_is_meant Uge size a b = order_is_meant Uge size a b
one_is_meant Ult size a b = order_is_meant Ult size a b
one_is_meant Ule size a b = order_is_meant Ule size a b
one_is_meant Sgt size a b = tt
one_is_meant Sge size a b = tt
one_is_meant Slt size a b = tt
one_is_meant Sle size a b = tt

two_is_meant : (pred : Pred) (a b : ℤ) (one other : Extent) → IsMeant (in_two_blocks pred a b one other)
two_is_meant pred a b one other = unequal_or_not pred (one.live && other.live && is_in a one.size && is_in b other.size)

either_is_meant : (mem : MemoryData) (pred : Pred) (same : Bool) (a b : ℤ) (one : Extent) (other : Name Sym) → IsNamed mem other →
    IsMeant (if same then in_one_block pred one.size a b else and_then (in_two_blocks pred a b one) (or_stuck (extent mem other)))
either_is_meant mem pred true a b one other named = one_is_meant pred one.size a b
either_is_meant mem pred false a b one other named =
    then_is_meant (in_two_blocks pred a b one) (or_stuck (extent mem other)) (there_is_meant (extent mem other) (extent_is_there mem other named)) (λ two. two_is_meant pred a b one two)

addresses_are_meant : (mem : MemoryData) (pred : Pred) (of : Name Sym) (a : ℤ) (other : Name Sym) (b : ℤ) → IsNamed mem of → IsNamed mem other → IsMeant (addresses mem pred of a other b)
addresses_are_meant mem pred of a other b named other_named =
    then_is_meant (λ one. if same_name of other then in_one_block pred one.size a b else and_then (in_two_blocks pred a b one) (or_stuck (extent mem other))) (or_stuck (extent mem of))
    (there_is_meant (extent mem of) (extent_is_there mem of named)) (λ one. either_is_meant mem pred (same_name of other) a b one other other_named)

beside_is_meant : (mem : MemoryData) (pred : Pred) (of : Name Sym) (offset : ℤ) → IsNamed mem of → IsMeant (and_then (beside_null pred offset) (or_stuck (extent mem of)))
beside_is_meant mem pred of offset named =
    then_is_meant (beside_null pred offset) (or_stuck (extent mem of)) (there_is_meant (extent mem of) (extent_is_there mem of named))
    (λ block. unequal_or_not pred (block.live && is_upto offset block.size))

-- Values that name blocks of this memory are compared.
pub compare_is_meant : (mem : MemoryData) (pred : Pred) (a b : Val Sym) → IsKnown mem a → IsKnown mem b → IsMeant (compare mem pred a b)
compare_is_meant mem pred (val.Num n) (val.Num m) known other = tt
compare_is_meant mem pred (val.Num n) val.Null known other = tt
compare_is_meant mem pred (val.Num n) (val.At of offset) known other = tt
compare_is_meant mem pred (val.Num n) val.Poison known other = tt
compare_is_meant mem pred val.Null (val.Num m) known other = tt
compare_is_meant mem pred val.Null val.Null known other = tt
compare_is_meant mem pred val.Null (val.At of offset) known other = beside_is_meant mem pred of offset other
compare_is_meant mem pred val.Null val.Poison known other = tt
compare_is_meant mem pred (val.At of offset) (val.Num m) known other = tt
compare_is_meant mem pred (val.At of offset) val.Null known other = beside_is_meant mem pred of offset known
compare_is_meant mem pred (val.At of a) (val.At there b) known other = addresses_are_meant mem pred of a there b known other
compare_is_meant mem pred (val.At of offset) val.Poison known other = tt
compare_is_meant mem pred val.Poison b known other = tt
