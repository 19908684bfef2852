-- The operations on values. A value of an integer type is a number, or poison where there is none. Poison gives poison, but a
-- division by it is undefined (LLVM Language Reference Manual, 'Poison Values').
use Rattle.std.specs.Prelude.{ℕ, Bool, true, false, ◌==◌, ◌&&◌, if◌then◌else◌, Option, Some, None}
use Rattle.ir_types.specs.declared.scalar.Scalar.{Scalar}
use Rattle.ir_types.specs.declared.scalar.Flags.{Flags}
use Rattle.ir_types.specs.declared.scalar.Pred.{Pred}
use Rattle.ir_types.specs.declared.scalar.CastOp.{CastOp}
use Rattle.ir_types.specs.declared.scalar.BinOp.{BinOp}
use Rattle.ir_types.specs.declared.scalar.BinOp.TheVariants.{Udiv, Sdiv, Urem, Srem}
use Rattle.int_ops.specs.declared.cause.Cause.TheVariants.{DivideByZero}
use Rattle.int_ops.specs.declared.outcome.Outcome.{Outcome}
use Rattle.int_ops.specs.declared.outcome.Outcome.TheVariants.{Num, Poison, Undefined}
use Rattle.int_ops.specs.Binary.{bin_outcome}
use Rattle.int_ops.specs.Casts.{cast_outcome}
use Rattle.int_ops.specs.Comparisons.{icmp_holds}

abbrev pub divides : BinOp → Bool
divides Udiv = true
divides Sdiv = true
divides Urem = true
divides Srem = true
divides _ = false

-- A division by poison or by 0 is undefined whatever the dividend is.
abbrev pub bin_of_values : BinOp → Flags → Scalar → Option ℕ → Option ℕ → Outcome
bin_of_values op flags ty a None = if divides op then Undefined DivideByZero else Poison
bin_of_values op flags ty None (Some b) = if divides op && (b == 0) then Undefined DivideByZero else Poison
bin_of_values op flags ty (Some a) (Some b) = bin_outcome op flags ty a b

-- a number of i1
abbrev pub icmp_of_values : Pred → Scalar → Option ℕ → Option ℕ → Outcome
icmp_of_values pred ty (Some a) (Some b) = Num (if icmp_holds pred ty a b then 1 else 0)
icmp_of_values pred ty _ _ = Poison

abbrev pub cast_of_value : CastOp → Bool → Scalar → Scalar → Option ℕ → Outcome
cast_of_value op nneg from to None = Poison
cast_of_value op nneg from to (Some a) = cast_outcome op nneg from to a
