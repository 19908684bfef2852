-- Comparisons of integers (LLVM Language Reference Manual, 'icmp' Instruction).
use Rattle.std.specs.Prelude.{ℕ, Bool, not, ◌==◌, nat_lt, nat_le, int_lt, int_le}
use Rattle.ir_types.specs.declared.scalar.Scalar.{Scalar}
use Rattle.ir_types.specs.declared.scalar.Pred.{Pred}
use Rattle.ir_types.specs.declared.scalar.Pred.TheVariants.{Eq, Ne, Ugt, Uge, Ult, Ule, Sgt, Sge, Slt, Sle}
use Rattle.ir_types.specs.Scalars.{signed_value}

-- whether the predicate holds of two numbers of the type
unfoldable pub icmp_holds : Pred → Scalar → ℕ → ℕ → Bool
icmp_holds Eq ty a b = a == b
icmp_holds Ne ty a b = not (a == b)
icmp_holds Ugt ty a b = nat_lt b a
icmp_holds Uge ty a b = nat_le b a
icmp_holds Ult ty a b = nat_lt a b
icmp_holds Ule ty a b = nat_le a b
icmp_holds Sgt ty a b = int_lt (signed_value ty b) (signed_value ty a)
icmp_holds Sge ty a b = int_le (signed_value ty b) (signed_value ty a)
icmp_holds Slt ty a b = int_lt (signed_value ty a) (signed_value ty b)
icmp_holds Sle ty a b = int_le (signed_value ty a) (signed_value ty b)
