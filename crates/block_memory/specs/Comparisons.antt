-- Comparisons of pointers (LLVM Language Reference Manual, "'icmp' Instruction"). Addresses have no numbers, so some comparisons have no
-- answer and are undefined.
use Rattle.std.specs.Prelude.{ℕ, Bool, true, false, not, ◌&&◌, nat_lt, nat_le, ℤ, pos, negsuc, Option, Some, option_map, if◌then◌else◌}
use Rattle.std.specs.Ordering.{int_eq}
use Rattle.ir_types.specs.declared.scalar.Pred.{Pred}
use Rattle.ir_types.specs.declared.scalar.Pred.TheVariants.{Eq, Ne, Ugt, Uge, Ult, Ule}
use Rattle.ir_types.specs.declared.scalar.Scalar.TheVariants.{I64}
use Rattle.int_ops.specs.declared.cause.Cause.TheVariants as cause
use Rattle.int_ops.specs.Comparisons.{icmp_holds}
use Rattle.ir_syntax.specs.declared.symbol.Sym.{Sym}
use Rattle.block_memory.specs.declared.value.Name.{Name}
use Rattle.block_memory.specs.declared.value.Name.TheVariants as name
use Rattle.block_memory.specs.declared.value.Val.{Val}
use Rattle.block_memory.specs.declared.value.Val.TheVariants as val
use Rattle.block_memory.specs.Answers.{Answer, Gives, Undefined, and_then, or_stuck}
use Rattle.block_memory.specs.Blocks.{MemoryBlock, MemoryData, size_of, is_live, block_at}
use Rattle.block_memory.specs.Parts.{same_name}

-- how many bytes a block has, and whether it is live
pub record Extent : Type 0 where
  pub size : ℕ
  pub live : Bool

abbrev pub extent_of : MemoryBlock → Extent
extent_of block = record { size = size_of block; live = is_live block }

-- A function's block has size 1, and is live.
abbrev pub extent : MemoryData → Name Sym → Option Extent
extent mem (name.Var symbol) = option_map extent_of (block_at mem (name.Var symbol))
extent mem (name.Func symbol) = Some (record { size = 1; live = true })
extent mem (name.Made number) = option_map extent_of (block_at mem (name.Made number))

-- the i1 of a truth
abbrev pub truth : Bool → Val Sym
truth holds = val.Num (if holds then 1 else 0)

abbrev pub incomparable : Answer (Val Sym)
incomparable = Undefined cause.Incomparable

-- Null equals null, so each predicate holds of the two that holds of equal numbers.
abbrev pub nulls : Pred → Answer (Val Sym)
nulls pred = Gives (truth (icmp_holds pred I64 0 0))

-- two different addresses: not equal, and in no order
abbrev pub unequal : Pred → Answer (Val Sym)
unequal Eq = Gives (truth false)
unequal Ne = Gives (truth true)
unequal _ = incomparable

-- from 0 to the size
abbrev pub is_upto : ℤ → ℕ → Bool
is_upto (pos offset) size = nat_le offset size
is_upto (negsuc below) size = false

-- from 0 to the size less 1
abbrev pub is_in : ℤ → ℕ → Bool
is_in (pos offset) size = nat_lt offset size
is_in (negsuc below) size = false

-- the order of two offsets, where both are from 0 to the size
abbrev pub in_order : Pred → ℕ → ℤ → ℤ → Answer (Val Sym)
in_order pred size (pos a) (pos b) = if nat_le a size && nat_le b size then Gives (truth (icmp_holds pred I64 a b)) else incomparable
in_order pred size a b = incomparable

-- Two addresses in one block: eq and ne compare the offsets, and unsigned orders compare those from 0 to the size.
abbrev pub in_one_block : Pred → ℕ → ℤ → ℤ → Answer (Val Sym)
in_one_block Eq size a b = Gives (truth (int_eq a b))
in_one_block Ne size a b = Gives (truth (not (int_eq a b)))
in_one_block Ugt size a b = in_order Ugt size a b
in_one_block Uge size a b = in_order Uge size a b
in_one_block Ult size a b = in_order Ult size a b
in_one_block Ule size a b = in_order Ule size a b
in_one_block _ size a b = incomparable

-- Two addresses in two blocks differ where both are those of bytes of live blocks.
abbrev pub in_two_blocks : Pred → ℤ → ℤ → Extent → Extent → Answer (Val Sym)
in_two_blocks pred a b one other = if one.live && other.live && is_in a one.size && is_in b other.size then unequal pred else incomparable

-- An address differs from null where it is one of a live block's, its end included.
abbrev pub beside_null : Pred → ℤ → Extent → Answer (Val Sym)
beside_null pred offset block = if block.live && is_upto offset block.size then unequal pred else incomparable

abbrev pub addresses : MemoryData → Pred → Name Sym → ℤ → Name Sym → ℤ → Answer (Val Sym)
addresses mem pred of a other b =
    and_then (λ one. if same_name of other then in_one_block pred one.size a b else and_then (in_two_blocks pred a b one) (or_stuck (extent mem other)))
    (or_stuck (extent mem of))

abbrev pub address_with : MemoryData → Pred → Name Sym → ℤ → Val Sym → Answer (Val Sym)
address_with mem pred of offset (val.Num n) = incomparable
address_with mem pred of offset val.Null = and_then (beside_null pred offset) (or_stuck (extent mem of))
address_with mem pred of offset (val.At other other_offset) = addresses mem pred of offset other other_offset
address_with mem pred of offset val.Poison = Gives val.Poison

abbrev pub null_with : MemoryData → Pred → Val Sym → Answer (Val Sym)
null_with mem pred (val.Num n) = incomparable
null_with mem pred val.Null = nulls pred
null_with mem pred (val.At of offset) = and_then (beside_null pred offset) (or_stuck (extent mem of))
null_with mem pred val.Poison = Gives val.Poison

-- A number is no pointer: it is compared with nothing here.
abbrev pub number_with : Val Sym → Answer (Val Sym)
number_with (val.Num n) = incomparable
number_with val.Null = incomparable
number_with (val.At of offset) = incomparable
number_with val.Poison = Gives val.Poison

-- whether the predicate holds of two pointers; poison where one is poison
abbrev pub compare : MemoryData → Pred → Val Sym → Val Sym → Answer (Val Sym)
compare mem pred (val.Num n) b = number_with b
compare mem pred val.Null b = null_with mem pred b
compare mem pred (val.At of offset) b = address_with mem pred of offset b
compare mem pred val.Poison b = Gives val.Poison
