-- Operations worked by hand.
use Rattle.std.proofs.Common.{◌≡◌, ◌^◌, ◌-◌, true, false, refl, Some, None}
use Rattle.ir_types.specs.declared.scalar.Flags.{Flags}
use Rattle.ir_types.specs.declared.scalar.Scalar.TheVariants.{I1, I8, I16, I32, I64}
use Rattle.ir_types.specs.declared.scalar.BinOp.TheVariants.{Add, Sub, Mul, Udiv, Sdiv, Urem, Srem, Shl, Lshr, Ashr, Or}
use Rattle.ir_types.specs.declared.scalar.Pred.TheVariants.{Ugt, Sgt}
use Rattle.ir_types.specs.declared.scalar.CastOp.TheVariants.{Zext, Sext, Trunc}
use Rattle.int_ops.specs.declared.cause.Cause.TheVariants.{DivideByZero, DivideOverflow}
use Rattle.int_ops.specs.declared.outcome.Outcome.TheVariants.{Num, Poison, Undefined}
use Rattle.int_ops.specs.Binary.{bin_outcome}
use Rattle.int_ops.specs.Casts.{cast_outcome}
use Rattle.int_ops.specs.Comparisons.{icmp_holds}
use Rattle.int_ops.specs.PoisonOperands.{bin_of_values}

abbrev plain : Flags
plain = record { nuw = false; nsw = false; exact = false; disjoint = false }

abbrev unsigned : Flags
unsigned = record { nuw = true; nsw = false; exact = false; disjoint = false }

abbrev signed : Flags
signed = record { nuw = false; nsw = true; exact = false; disjoint = false }

abbrev exact : Flags
exact = record { nuw = false; nsw = false; exact = true; disjoint = false }

abbrev disjoint : Flags
disjoint = record { nuw = false; nsw = false; exact = false; disjoint = true }

-- ---- sums

-- in i1 the sum of 1 and 1 is 0; as signed values it is -2
bit-sum : bin_outcome Add plain I1 1 1 ≡ Num 0
unfolding bin_outcome
bit-sum = refl

bit-sum-signed : bin_outcome Add signed I1 1 1 ≡ Poison
unfolding bin_outcome
bit-sum-signed = refl

-- 127 + 1
byte-sum : bin_outcome Add unsigned I8 127 1 ≡ Num 128
unfolding bin_outcome
byte-sum = refl

byte-sum-signed : bin_outcome Add signed I8 127 1 ≡ Poison
unfolding bin_outcome
byte-sum-signed = refl

-- -1 + -128
byte-sum-below : bin_outcome Add signed I8 255 128 ≡ Poison
unfolding bin_outcome
byte-sum-below = refl

-- 0 - 1
below-zero : bin_outcome Sub signed I64 0 1 ≡ Num (2 ^ 64 - 1)
unfolding bin_outcome
below-zero = refl

below-zero-unsigned : bin_outcome Sub unsigned I64 0 1 ≡ Poison
unfolding bin_outcome
below-zero-unsigned = refl

-- -1 * -1
product : bin_outcome Mul signed I16 65535 65535 ≡ Num 1
unfolding bin_outcome
product = refl

product-unsigned : bin_outcome Mul unsigned I16 65535 65535 ≡ Poison
unfolding bin_outcome
product-unsigned = refl

-- ---- divisions

-- -128 / -1, and -7 / 2 = -3 with -1 left
quotient-overflow : bin_outcome Sdiv plain I8 128 255 ≡ Undefined DivideOverflow
unfolding bin_outcome
quotient-overflow = refl

remainder-overflow : bin_outcome Srem plain I8 128 255 ≡ Undefined DivideOverflow
unfolding bin_outcome
remainder-overflow = refl

bit-overflow : bin_outcome Sdiv plain I1 1 1 ≡ Undefined DivideOverflow
unfolding bin_outcome
bit-overflow = refl

quotient : bin_outcome Sdiv plain I8 249 2 ≡ Num 253
unfolding bin_outcome
quotient = refl

quotient-exact : bin_outcome Sdiv exact I8 249 2 ≡ Poison
unfolding bin_outcome
quotient-exact = refl

remainder : bin_outcome Srem plain I8 249 2 ≡ Num 255
unfolding bin_outcome
remainder = refl

-- 7 rem -2 = 1
remainder-by-negative : bin_outcome Srem plain I8 7 254 ≡ Num 1
unfolding bin_outcome
remainder-by-negative = refl

by-zero : bin_outcome Urem plain I32 7 0 ≡ Undefined DivideByZero
unfolding bin_outcome
by-zero = refl

poison-by-zero : bin_of_values Udiv plain I32 None (Some 0) ≡ Undefined DivideByZero
poison-by-zero = refl

poison-by-two : bin_of_values Udiv plain I32 None (Some 2) ≡ Poison
poison-by-two = refl

-- ---- shifts

left : bin_outcome Shl unsigned I8 64 1 ≡ Num 128
unfolding bin_outcome
left = refl

left-signed : bin_outcome Shl signed I8 64 1 ≡ Poison
unfolding bin_outcome
left-signed = refl

-- -1 to -2
left-negative : bin_outcome Shl signed I8 255 1 ≡ Num 254
unfolding bin_outcome
left-negative = refl

left-by-width : bin_outcome Shl plain I8 1 8 ≡ Poison
unfolding bin_outcome
left-by-width = refl

-- -4 to -1, and -3 to -1 where it may be rounded
right : bin_outcome Ashr exact I8 252 2 ≡ Num 255
unfolding bin_outcome
right = refl

right-rounded : bin_outcome Ashr plain I8 253 2 ≡ Num 255
unfolding bin_outcome
right-rounded = refl

right-exact : bin_outcome Ashr exact I8 253 2 ≡ Poison
unfolding bin_outcome
right-exact = refl

right-unsigned : bin_outcome Lshr plain I8 253 2 ≡ Num 63
unfolding bin_outcome
right-unsigned = refl

-- ---- bits, casts and comparisons

bits : bin_outcome Or disjoint I8 5 10 ≡ Num 15
unfolding bin_outcome
bits = refl

bits-shared : bin_outcome Or disjoint I8 5 4 ≡ Poison
unfolding bin_outcome
bits-shared = refl

widened : cast_outcome Zext false I8 I16 128 ≡ Num 128
unfolding cast_outcome
widened = refl

widened-negative : cast_outcome Zext true I8 I16 128 ≡ Poison
unfolding cast_outcome
widened-negative = refl

widened-signed : cast_outcome Sext false I8 I16 128 ≡ Num 65408
unfolding cast_outcome
widened-signed = refl

narrowed : cast_outcome Trunc false I16 I8 65409 ≡ Num 129
unfolding cast_outcome
narrowed = refl

above : icmp_holds Ugt I8 128 127 ≡ true
unfolding icmp_holds
above = refl

above-signed : icmp_holds Sgt I8 128 127 ≡ false
unfolding icmp_holds
above-signed = refl
