-- Sums, differences and products (LLVM Language Reference Manual, 'add' Instruction, 'sub' Instruction, 'mul' Instruction).
use Rattle.std.specs.Prelude.{ℕ, Bool, false, ℤ, pos, negsuc, ◌+ℤ◌, ◌-ℤ◌, ◌*ℤ◌, int_le, ◌&&◌}
use Rattle.ir_types.specs.declared.scalar.Scalar.{Scalar}
use Rattle.ir_types.specs.declared.scalar.Flags.{Flags}
use Rattle.ir_types.specs.Scalars.{is_number_of, signed_value, least_signed, greatest_signed, integer_modulo}
use Rattle.int_ops.specs.declared.outcome.Outcome.{Outcome}
use Rattle.int_ops.specs.Outcomes.{implies, poison_unless}

-- from 0 to 2^w - 1
abbrev pub is_unsigned : Scalar → ℤ → Bool
is_unsigned ty (pos n) = is_number_of ty n
is_unsigned ty (negsuc n) = false

-- from -2^(w-1) to 2^(w-1) - 1
abbrev pub is_signed : Scalar → ℤ → Bool
is_signed ty z = int_le (least_signed ty) z && int_le z (greatest_signed ty)

-- The result of the unsigned values modulo 2^w, which is that of the signed values too. With `nuw` the one, and with `nsw` the
-- other, is poison where it is outside its range.
abbrev pub wrapped : Flags → Scalar → ℤ → ℤ → Outcome
wrapped flags ty unsigned signed = poison_unless (implies flags.nuw (is_unsigned ty unsigned) && implies flags.nsw (is_signed ty signed)) (integer_modulo ty unsigned)

abbrev pub add_outcome : Flags → Scalar → ℕ → ℕ → Outcome
add_outcome flags ty a b = wrapped flags ty (pos a +ℤ pos b) (signed_value ty a +ℤ signed_value ty b)

abbrev pub sub_outcome : Flags → Scalar → ℕ → ℕ → Outcome
sub_outcome flags ty a b = wrapped flags ty (pos a -ℤ pos b) (signed_value ty a -ℤ signed_value ty b)

abbrev pub mul_outcome : Flags → Scalar → ℕ → ℕ → Outcome
mul_outcome flags ty a b = wrapped flags ty (pos a *ℤ pos b) (signed_value ty a *ℤ signed_value ty b)
