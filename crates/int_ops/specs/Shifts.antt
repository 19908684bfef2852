-- Shifts (LLVM Language Reference Manual, 'shl' Instruction, 'lshr' Instruction, 'ashr' Instruction).
use Rattle.std.specs.Prelude.{ℕ, Bool, ◌*◌, ◌/◌, ◌%◌, ◌^◌, ◌==◌, ◌&&◌, nat_le, if◌then◌else◌}
use Rattle.std.specs.Int.{int_shr}
use Rattle.std.specs.Ordering.{int_eq}
use Rattle.ir_types.specs.declared.scalar.Scalar.{Scalar}
use Rattle.ir_types.specs.declared.scalar.Flags.{Flags}
use Rattle.ir_types.specs.Scalars.{width, number_modulo, signed_value, integer_modulo}
use Rattle.int_ops.specs.declared.outcome.Outcome.{Outcome}
use Rattle.int_ops.specs.declared.outcome.Outcome.TheVariants.{Poison}
use Rattle.int_ops.specs.Outcomes.{implies, poison_unless}

-- a shift by w bits or more is poison
abbrev pub shift : Scalar → ℕ → Outcome → Outcome
shift ty by outcome = if nat_le (width ty) by then Poison else outcome

-- ---- to the left

abbrev pub shifted_left : Scalar → ℕ → ℕ → ℕ
shifted_left ty a by = number_modulo ty (a * 2 ^ by)

-- shifted back it is the operand: no bit that was shifted out is set
abbrev pub comes_back : Scalar → ℕ → ℕ → Bool
comes_back ty a by = shifted_left ty a by / 2 ^ by == a

-- and shifted back with its sign: no bit that was shifted out differs from the sign bit of the result
abbrev pub comes_back_signed : Scalar → ℕ → ℕ → Bool
comes_back_signed ty a by = int_eq (int_shr (signed_value ty (shifted_left ty a by)) by) (signed_value ty a)

abbrev pub shl_outcome : Flags → Scalar → ℕ → ℕ → Outcome
shl_outcome flags ty a by = shift ty by (poison_unless (implies flags.nuw (comes_back ty a by) && implies flags.nsw (comes_back_signed ty a by)) (shifted_left ty a by))

-- ---- to the right; with `exact` no bit that is shifted out is set

abbrev pub lshr_outcome : Bool → Scalar → ℕ → ℕ → Outcome
lshr_outcome exact ty a by = shift ty by (poison_unless (implies exact (a % 2 ^ by == 0)) (a / 2 ^ by))

-- the signed value over 2^by, rounded down
abbrev pub ashr_outcome : Bool → Scalar → ℕ → ℕ → Outcome
ashr_outcome exact ty a by = shift ty by (poison_unless (implies exact (a % 2 ^ by == 0)) (integer_modulo ty (int_shr (signed_value ty a) by)))
