-- What an operation of two numbers gives: a number modulo 2^w, poison, or nothing, since it is undefined. An operation has no flag but
-- its own, and looks at no other.
use Rattle.std.specs.Prelude.{ℕ}
use Rattle.ir_types.specs.declared.scalar.Scalar.{Scalar}
use Rattle.ir_types.specs.declared.scalar.Flags.{Flags}
use Rattle.ir_types.specs.declared.scalar.BinOp.{BinOp}
use Rattle.ir_types.specs.declared.scalar.BinOp.TheVariants.{Add, Sub, Mul, Udiv, Sdiv, Urem, Srem, Shl, Lshr, Ashr, And, Or, Xor}
use Rattle.ir_types.specs.Scalars.{signed_value}
use Rattle.int_ops.specs.declared.outcome.Outcome.{Outcome}
use Rattle.int_ops.specs.Sums.{add_outcome, sub_outcome, mul_outcome}
use Rattle.int_ops.specs.Divisions.{udiv_outcome, urem_outcome, sdiv_outcome, srem_outcome}
use Rattle.int_ops.specs.Shifts.{shl_outcome, lshr_outcome, ashr_outcome}
use Rattle.int_ops.specs.Bitwise.{and_outcome, or_outcome, xor_outcome}

unfoldable pub bin_outcome : BinOp → Flags → Scalar → ℕ → ℕ → Outcome
bin_outcome Add flags ty a b = add_outcome flags ty a b
bin_outcome Sub flags ty a b = sub_outcome flags ty a b
bin_outcome Mul flags ty a b = mul_outcome flags ty a b
bin_outcome Udiv flags ty a b = udiv_outcome flags.exact a b
bin_outcome Sdiv flags ty a b = sdiv_outcome flags.exact ty (signed_value ty a) (signed_value ty b)
bin_outcome Urem flags ty a b = urem_outcome a b
bin_outcome Srem flags ty a b = srem_outcome ty (signed_value ty a) (signed_value ty b)
bin_outcome Shl flags ty a b = shl_outcome flags ty a b
bin_outcome Lshr flags ty a b = lshr_outcome flags.exact ty a b
bin_outcome Ashr flags ty a b = ashr_outcome flags.exact ty a b
bin_outcome And flags ty a b = and_outcome a b
bin_outcome Or flags ty a b = or_outcome flags.disjoint a b
bin_outcome Xor flags ty a b = xor_outcome a b
