-- The number that an operation gives, if it gives one, is one of the result's type.
use Rattle.std.proofs.Common.{◌≡◌, ℕ, ◌^◌, ◌<◌, ◌≤◌, Bool, true, false, ℤ, pos, negsuc, ◌+ℤ◌, ◌-ℤ◌, ◌*ℤ◌, ◌&&◌, int_eq, int_div, int_rem, cond, refl, subst, arith, rules, IsTrue, Option, Some, None, IfSome}
use Rattle.std.proofs.Math.Nat.{div-le_self, mod-le}
use Rattle.std.proofs.lemmas.Nat.{and_le_l, or_lt, xor_lt, pow_below, pow_pos, mod_below}
use Rattle.ir_types.specs.declared.scalar.Scalar.{Scalar}
use Rattle.ir_types.specs.declared.scalar.Scalar.TheVariants.{I1, I8, I16, I32, I64, Ptr}
use Rattle.ir_types.specs.declared.scalar.Flags.{Flags}
use Rattle.ir_types.specs.declared.scalar.Pred.{Pred}
use Rattle.ir_types.specs.declared.scalar.CastOp.{CastOp}
use Rattle.ir_types.specs.declared.scalar.CastOp.TheVariants.{Zext, Sext, Trunc}
use Rattle.ir_types.specs.declared.scalar.BinOp.{BinOp}
use Rattle.ir_types.specs.declared.scalar.BinOp.TheVariants.{Add, Sub, Mul, Udiv, Sdiv, Urem, Srem, Shl, Lshr, Ashr, And, Or, Xor}
use Rattle.ir_types.specs.Scalars.{width, IsInteger, is_number_of, number_modulo, integer_modulo, signed_value}
use Rattle.int_ops.specs.declared.cause.Cause.{Cause}
use Rattle.int_ops.specs.declared.outcome.Outcome.{Outcome}
use Rattle.int_ops.specs.declared.outcome.Outcome.TheVariants.{Num, Poison, Undefined}
use Rattle.int_ops.specs.declared.cause.Cause.TheVariants.{DivideByZero, DivideOverflow}
use Rattle.int_ops.specs.Outcomes.{implies, poison_unless}
use Rattle.int_ops.specs.Sums.{is_unsigned, is_signed, wrapped}
use Rattle.int_ops.specs.Divisions.{overflows, signed_division}
use Rattle.int_ops.specs.Binary.{bin_outcome}
use Rattle.int_ops.specs.Casts.{cast_outcome}
use Rattle.int_ops.specs.Comparisons.{icmp_holds}
use Rattle.int_ops.specs.PoisonOperands.{divides, bin_of_values, cast_of_value, icmp_of_values}

-- ---- numbers of a type are those below 2^w

is_integer : (ty : Scalar) (n : ℕ) → IsTrue (is_number_of ty n) → IsInteger ty
is_integer I1 n h = search rules
is_integer I8 n h = search rules
is_integer I16 n h = search rules
is_integer I32 n h = search rules
is_integer I64 n h = search rules
is_integer Ptr n h = search rules

below : (ty : Scalar) (n : ℕ) → IsTrue (is_number_of ty n) → n < 2 ^ width ty
below I1 n h = grind (arith, h)
below I8 n h = grind (arith, h)
below I16 n h = grind (arith, h)
below I32 n h = grind (arith, h)
below I64 n h = grind (arith, h)
below Ptr n h = search rules

is_number : (ty : Scalar) (n : ℕ) → IsInteger ty → n < 2 ^ width ty → IsTrue (is_number_of ty n)
is_number I1 n i h = grind (arith, h)
is_number I8 n i h = grind (arith, h)
is_number I16 n i h = grind (arith, h)
is_number I32 n i h = grind (arith, h)
is_number I64 n i h = grind (arith, h)
is_number Ptr n i h = absurd (i refl)

is_no_greater : (ty : Scalar) (n m : ℕ) → m ≤ n → IsTrue (is_number_of ty n) → IsTrue (is_number_of ty m)
is_no_greater ty n m h e = is_number ty m (is_integer ty n e) (omega (arith, h, below ty n e))

is_remainder : (ty : Scalar) (n : ℕ) → IsInteger ty → IsTrue (is_number_of ty (number_modulo ty n))
is_remainder ty n i = is_number ty _ i (mod_below n (2 ^ width ty) (pow_pos (width ty)))

is_modulo : (ty : Scalar) (z : ℤ) → IsInteger ty → IsTrue (is_number_of ty (integer_modulo ty z))
is_modulo ty (pos n) i = is_remainder ty n i
is_modulo ty (negsuc n) i = is_number ty _ i (omega (arith, pow_pos (width ty)))

-- ---- outcomes

-- abstract, so that the outcome is found in the goal
IsOf : Scalar → Outcome → Type 0
IsOf ty (Num n) = IsTrue (is_number_of ty n)
IsOf ty Poison = Unit {0}
IsOf ty (Undefined cause) = Unit {0}

num_is : (ty : Scalar) (n : ℕ) → IsTrue (is_number_of ty n) → IsOf ty (Num n)
unfolding IsOf
num_is ty n h = h

poison_is : (ty : Scalar) → IsOf ty Poison
unfolding IsOf
poison_is ty = tt

undefined_is : (ty : Scalar) (cause : Cause) → IsOf ty (Undefined cause)
unfolding IsOf
undefined_is ty cause = tt

unless_is : (ty : Scalar) (b : Bool) (n : ℕ) → IsTrue (is_number_of ty n) → IsOf ty (poison_unless b n)
unless_is ty true n h = num_is ty n h
unless_is ty false n h = poison_is ty

if_is : (ty : Scalar) (b : Bool) (x y : Outcome) → IsOf ty x → IsOf ty y → IsOf ty (cond b x y)
if_is ty true x y h k = h
if_is ty false x y h k = k

wrapped_is : (flags : Flags) (ty : Scalar) (unsigned signed : ℤ) → IsInteger ty → IsOf ty (wrapped flags ty unsigned signed)
wrapped_is flags ty unsigned signed i = unless_is ty (implies flags.nuw (is_unsigned ty unsigned) && implies flags.nsw (is_signed ty signed)) (integer_modulo ty unsigned) (is_modulo ty unsigned i)

division_is : (ty : Scalar) (x y : ℤ) (o : Outcome) → IsOf ty o → IsOf ty (signed_division ty x y o)
division_is ty x y o h = if_is ty (int_eq y (pos 0)) _ _ (undefined_is ty DivideByZero) (if_is ty (overflows ty x y) _ o (undefined_is ty DivideOverflow) h)

bin_is : (op : BinOp) (flags : Flags) (ty : Scalar) (a b : ℕ) → IsTrue (is_number_of ty a) → IsTrue (is_number_of ty b) → IsOf ty (bin_outcome op flags ty a b)
unfolding bin_outcome
bin_is Add flags ty a b h k = wrapped_is flags ty (pos a +ℤ pos b) (signed_value ty a +ℤ signed_value ty b) (is_integer ty a h)
bin_is Sub flags ty a b h k = wrapped_is flags ty (pos a -ℤ pos b) (signed_value ty a -ℤ signed_value ty b) (is_integer ty a h)
bin_is Mul flags ty a b h k = wrapped_is flags ty (pos a *ℤ pos b) (signed_value ty a *ℤ signed_value ty b) (is_integer ty a h)
bin_is Udiv flags ty a b h k = if_is ty _ _ _ (undefined_is ty _) (unless_is ty _ _ (is_no_greater ty a _ (div-le_self a b) h))
bin_is Sdiv flags ty a b h k = division_is ty (signed_value ty a) (signed_value ty b) _ (unless_is ty (implies flags.exact (int_eq (int_rem (signed_value ty a) (signed_value ty b)) (pos 0))) _ (is_modulo ty (int_div (signed_value ty a) (signed_value ty b)) (is_integer ty a h)))
bin_is Urem flags ty a b h k = if_is ty _ _ _ (undefined_is ty _) (num_is ty _ (is_no_greater ty a _ (mod-le a b) h))
bin_is Srem flags ty a b h k = division_is ty (signed_value ty a) (signed_value ty b) _ (num_is ty _ (is_modulo ty (int_rem (signed_value ty a) (signed_value ty b)) (is_integer ty a h)))
bin_is Shl flags ty a b h k = if_is ty _ _ _ (poison_is ty) (unless_is ty _ _ (is_remainder ty _ (is_integer ty a h)))
bin_is Lshr flags ty a b h k = if_is ty _ _ _ (poison_is ty) (unless_is ty _ _ (is_no_greater ty a _ (div-le_self a (2 ^ b)) h))
bin_is Ashr flags ty a b h k = if_is ty _ _ _ (poison_is ty) (unless_is ty _ _ (is_modulo ty _ (is_integer ty a h)))
bin_is And flags ty a b h k = num_is ty _ (is_no_greater ty a _ (and_le_l a b) h)
bin_is Or flags ty a b h k = unless_is ty _ _ (is_number ty _ (is_integer ty a h) (or_lt (width ty) a b (below ty a h) (below ty b k)))
bin_is Xor flags ty a b h k = num_is ty _ (is_number ty _ (is_integer ty a h) (xor_lt (width ty) a b (below ty a h) (below ty b k)))

values_are : (op : BinOp) (flags : Flags) (ty : Scalar) (a b : Option ℕ) → IfSome a (λ m. IsTrue (is_number_of ty m)) → IfSome b (λ m. IsTrue (is_number_of ty m)) → IsOf ty (bin_of_values op flags ty a b)
values_are op flags ty (Some a) (Some b) h k = bin_is op flags ty a b h k
values_are op flags ty (Some a) None h k = if_is ty (divides op) _ _ (undefined_is ty _) (poison_is ty)
values_are op flags ty None (Some b) h k = if_is ty _ _ _ (undefined_is ty _) (poison_is ty)
values_are op flags ty None None h k = if_is ty (divides op) _ _ (undefined_is ty _) (poison_is ty)

cast_is : (op : CastOp) (nneg : Bool) (from to : Scalar) (a : ℕ) → IsInteger to → (op ≡ Zext → width from < width to) → IsTrue (is_number_of from a) → IsOf to (cast_outcome op nneg from to a)
unfolding cast_outcome
cast_is Zext nneg from to a i goes h = unless_is to _ a (is_number to a i (omega (arith, below from a h, pow_below (width from) (width to) (goes refl))))
cast_is Sext nneg from to a i goes h = num_is to _ (is_modulo to _ i)
cast_is Trunc nneg from to a i goes h = num_is to _ (is_remainder to a i)

cast_value_is : (op : CastOp) (nneg : Bool) (from to : Scalar) (a : Option ℕ) → IsInteger to → (op ≡ Zext → width from < width to) → IfSome a (λ m. IsTrue (is_number_of from m)) → IsOf to (cast_of_value op nneg from to a)
cast_value_is op nneg from to (Some a) i goes h = cast_is op nneg from to a i goes h
cast_value_is op nneg from to None i goes h = poison_is to

bit_is : (b : Bool) → IsTrue (is_number_of I1 (cond b 1 0))
bit_is true = refl
bit_is false = refl

icmp_is : (pred : Pred) (ty : Scalar) (a b : Option ℕ) → IsOf I1 (icmp_of_values pred ty a b)
icmp_is pred ty (Some a) (Some b) = num_is I1 _ (bit_is (icmp_holds pred ty a b))
icmp_is pred ty (Some a) None = poison_is I1
icmp_is pred ty None (Some b) = poison_is I1
icmp_is pred ty None None = poison_is I1

-- ---- the laws

given : (ty : Scalar) (o : Outcome) (n : ℕ) → IsOf ty o → o ≡ Num n → IsTrue (is_number_of ty n)
unfolding IsOf
given ty o n h e = subst (λ (x : Outcome). IsOf ty x) e h

pub bin_law : (op : BinOp) (flags : Flags) (ty : Scalar) (a b n : ℕ) → IsTrue (is_number_of ty a) → IsTrue (is_number_of ty b) → bin_outcome op flags ty a b ≡ Num n → IsTrue (is_number_of ty n)
bin_law op flags ty a b n h k e = given ty _ n (bin_is op flags ty a b h k) e

pub values_law : (op : BinOp) (flags : Flags) (ty : Scalar) (a b : Option ℕ) (n : ℕ) → IfSome a (λ m. IsTrue (is_number_of ty m)) → IfSome b (λ m. IsTrue (is_number_of ty m)) → bin_of_values op flags ty a b ≡ Num n → IsTrue (is_number_of ty n)
values_law op flags ty a b n h k e = given ty _ n (values_are op flags ty a b h k) e

pub cast_law : (op : CastOp) (nneg : Bool) (from to : Scalar) (a n : ℕ) → IsInteger to → (op ≡ Zext → width from < width to) → IsTrue (is_number_of from a) → cast_outcome op nneg from to a ≡ Num n → IsTrue (is_number_of to n)
cast_law op nneg from to a n i goes h e = given to _ n (cast_is op nneg from to a i goes h) e

pub cast_value_law : (op : CastOp) (nneg : Bool) (from to : Scalar) (a : Option ℕ) (n : ℕ) → IsInteger to → (op ≡ Zext → width from < width to) → IfSome a (λ m. IsTrue (is_number_of from m)) → cast_of_value op nneg from to a ≡ Num n → IsTrue (is_number_of to n)
cast_value_law op nneg from to a n i goes h e = given to _ n (cast_value_is op nneg from to a i goes h) e

pub icmp_law : (pred : Pred) (ty : Scalar) (a b : Option ℕ) (n : ℕ) → icmp_of_values pred ty a b ≡ Num n → IsTrue (is_number_of I1 n)
icmp_law pred ty a b n e = given I1 _ n (icmp_is pred ty a b) e
