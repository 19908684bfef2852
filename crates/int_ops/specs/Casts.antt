-- Casts between integers (LLVM Language Reference Manual, 'zext .. to' Instruction, 'sext .. to' Instruction, 'trunc .. to' Instruction).
use Rattle.std.specs.Prelude.{ℕ, Bool, pos, int_le}
use Rattle.ir_types.specs.declared.scalar.Scalar.{Scalar}
use Rattle.ir_types.specs.declared.scalar.CastOp.{CastOp}
use Rattle.ir_types.specs.declared.scalar.CastOp.TheVariants.{Zext, Sext, Trunc}
use Rattle.ir_types.specs.Scalars.{number_modulo, signed_value, integer_modulo}
use Rattle.int_ops.specs.declared.outcome.Outcome.{Outcome}
use Rattle.int_ops.specs.declared.outcome.Outcome.TheVariants.{Num}
use Rattle.int_ops.specs.Outcomes.{implies, poison_unless}

-- An extension keeps the number, or the signed value, and a truncation the lowest bits. With `nneg` the operand isn't negative.
unfoldable pub cast_outcome : CastOp → Bool → Scalar → Scalar → ℕ → Outcome
cast_outcome Zext nneg from to a = poison_unless (implies nneg (int_le (pos 0) (signed_value from a))) a
cast_outcome Sext nneg from to a = Num (integer_modulo to (signed_value from a))
cast_outcome Trunc nneg from to a = Num (number_modulo to a)
