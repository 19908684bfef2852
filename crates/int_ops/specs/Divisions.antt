-- Quotients and remainders (LLVM Language Reference Manual, 'udiv' Instruction, 'sdiv' Instruction, 'urem' Instruction, 'srem' Instruction).
use Rattle.std.specs.Prelude.{ℕ, Bool, ◌/◌, ◌%◌, ◌==◌, ◌&&◌, ℤ, pos, neg_ℤ, int_div, int_rem, if◌then◌else◌}
use Rattle.std.specs.Ordering.{int_eq}
use Rattle.ir_types.specs.declared.scalar.Scalar.{Scalar}
use Rattle.ir_types.specs.Scalars.{least_signed, integer_modulo}
use Rattle.int_ops.specs.declared.cause.Cause.TheVariants.{DivideByZero, DivideOverflow}
use Rattle.int_ops.specs.declared.outcome.Outcome.{Outcome}
use Rattle.int_ops.specs.declared.outcome.Outcome.TheVariants.{Num, Undefined}
use Rattle.int_ops.specs.Outcomes.{implies, poison_unless}

-- ---- of unsigned values

abbrev pub udiv_outcome : Bool → ℕ → ℕ → Outcome
udiv_outcome exact a b = if b == 0 then Undefined DivideByZero else poison_unless (implies exact (a % b == 0)) (a / b)

abbrev pub urem_outcome : ℕ → ℕ → Outcome
urem_outcome a b = if b == 0 then Undefined DivideByZero else Num (a % b)

-- ---- of signed values

-- -2^(w-1) over -1, which is 2^(w-1) and so no signed value
abbrev pub overflows : Scalar → ℤ → ℤ → Bool
overflows ty x y = int_eq x (least_signed ty) && int_eq y (neg_ℤ (pos 1))

-- Quotient and remainder are undefined alike by 0, and where the quotient overflows.
abbrev pub signed_division : Scalar → ℤ → ℤ → Outcome → Outcome
signed_division ty x y outcome = if int_eq y (pos 0) then Undefined DivideByZero else (if overflows ty x y then Undefined DivideOverflow else outcome)

-- rounded towards zero
abbrev pub sdiv_outcome : Bool → Scalar → ℤ → ℤ → Outcome
sdiv_outcome exact ty x y = signed_division ty x y (poison_unless (implies exact (int_eq (int_rem x y) (pos 0))) (integer_modulo ty (int_div x y)))

-- with the dividend's sign
abbrev pub srem_outcome : Scalar → ℤ → ℤ → Outcome
srem_outcome ty x y = signed_division ty x y (Num (integer_modulo ty (int_rem x y)))
