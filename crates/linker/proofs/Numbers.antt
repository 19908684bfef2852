-- The numbers of integer types.
use Rattle.std.proofs.Common.{◌≡◌, ◌≢◌, ℕ, ◌<◌, ◌^◌, true, nat_lt, ℤ, pos, negsuc, refl, arith}
use Rattle.std.proofs.lemmas.Bool.Decides.{nat_tests}
use Rattle.ir_types.specs.declared.scalar.Scalar.{Scalar}
use Rattle.ir_types.specs.declared.scalar.Scalar.TheVariants.{I1, I8, I16, I32, I64, Ptr}
use Rattle.ir_types.specs.Scalars.{width, is_number_of, integer_modulo}

less : (n m : ℕ) → n < m → nat_lt n m ≡ true
less n m h = grind (arith, nat_tests)

below : (ty : Scalar) (z : ℤ) → integer_modulo ty z < 2 ^ width ty
below I1 (pos n) = omega arith
below I1 (negsuc n) = omega arith
below I8 (pos n) = omega arith
below I8 (negsuc n) = omega arith
below I16 (pos n) = omega arith
below I16 (negsuc n) = omega arith
below I32 (pos n) = omega arith
below I32 (negsuc n) = omega arith
below I64 (pos n) = omega arith
below I64 (negsuc n) = omega arith
below Ptr (pos n) = omega arith
below Ptr (negsuc n) = omega arith

-- an integer modulo 2^w is a number of the type
pub is_number : (ty : Scalar) (z : ℤ) → ty ≢ Ptr → is_number_of ty (integer_modulo ty z) ≡ true
is_number I1 z plain = less (integer_modulo I1 z) 2 (below I1 z)
is_number I8 z plain = less (integer_modulo I8 z) (2 ^ 8) (below I8 z)
is_number I16 z plain = less (integer_modulo I16 z) (2 ^ 16) (below I16 z)
is_number I32 z plain = less (integer_modulo I32 z) (2 ^ 32) (below I32 z)
is_number I64 z plain = less (integer_modulo I64 z) (2 ^ 64) (below I64 z)
is_number Ptr z plain = absurd (plain refl)
