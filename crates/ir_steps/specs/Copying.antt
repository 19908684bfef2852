-- The intrinsics that copy and fill memory (LLVM Language Reference Manual, "Standard C/C++ Library Intrinsics").
use Rattle.std.specs.Prelude.{ℕ, Bool, true, false, List, [], ◌∷◌}
use Rattle.ir_syntax.specs.declared.symbol.Sym.{Sym}
use Rattle.ir_syntax.specs.declared.symbol.Intrinsic.{Intrinsic}
use Rattle.ir_syntax.specs.declared.symbol.Intrinsic.TheVariants as intrinsic
use Rattle.int_ops.specs.declared.cause.Cause.TheVariants as cause
use Rattle.block_memory.specs.declared.value.Val.{Val}
use Rattle.block_memory.specs.declared.value.Val.TheVariants as val
use Rattle.block_memory.specs.Answers.{Answer, Gives, Undefined, Stuck, and_then}
use Rattle.block_memory.specs.Copies.{copy}
use Rattle.block_memory.specs.Fills.{fill}
use Rattle.ir_steps.specs.States.{Point}
use Rattle.ir_steps.specs.Results.{Next, with_memory}

-- The length is looked at before the addresses.
abbrev pub length_of : Val Sym → Answer ℕ
length_of (val.Num n) = Gives n
length_of val.Null = Stuck
length_of (val.At of offset) = Stuck
length_of val.Poison = Undefined cause.PoisonLength

abbrev pub copies : Point → Bool → List (Val Sym) → Answer Next
copies at may_overlap (to ∷ from ∷ len ∷ volatile ∷ []) = and_then (λ n. and_then (with_memory at) (copy at.memory to from n may_overlap)) (length_of len)
copies at may_overlap args = Stuck

abbrev pub fills : Point → List (Val Sym) → Answer Next
fills at (to ∷ byte ∷ len ∷ volatile ∷ []) = and_then (λ n. and_then (with_memory at) (fill at.memory to byte n)) (length_of len)
fills at args = Stuck

abbrev pub intrinsic_call : Point → List (Val Sym) → Intrinsic → Answer Next
intrinsic_call at args intrinsic.Memcpy = copies at false args
intrinsic_call at args intrinsic.Memmove = copies at true args
intrinsic_call at args intrinsic.Memset = fills at args
