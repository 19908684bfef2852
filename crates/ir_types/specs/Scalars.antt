-- Scalar types: whether two are one, their widths, the numbers of the integer types, and signed values in two's complement.
use Rattle.std.specs.Prelude.{◌≢◌, ℕ, ◌-◌, ◌%◌, ◌^◌, Bool, true, false, nat_lt, ℤ, pos, negsuc, ◌-ℤ◌, neg_ℤ, if◌then◌else◌}
use Rattle.ir_types.specs.declared.scalar.Scalar.{Scalar}
use Rattle.ir_types.specs.declared.scalar.Scalar.TheVariants.{I1, I8, I16, I32, I64, Ptr}

-- whether two scalars are one
abbrev pub same : Scalar → Scalar → Bool
same I1 I1 = true
same I8 I8 = true
same I16 I16 = true
same I32 I32 = true
same I64 I64 = true
same Ptr Ptr = true
same _ _ = false

-- how many bits a value has
abbrev pub width : Scalar → ℕ
width I1 = 1
width I8 = 8
width I16 = 16
width I32 = 32
width I64 = 64
width Ptr = 64

abbrev pub IsInteger : Scalar → Type 0
IsInteger ty = ty ≢ Ptr

-- the number is below 2^w of the integer type of width w; a pointer is no integer
abbrev pub is_number_of : Scalar → ℕ → Bool
is_number_of I1 n = nat_lt n 2
is_number_of I8 n = nat_lt n (2 ^ 8)
is_number_of I16 n = nat_lt n (2 ^ 16)
is_number_of I32 n = nat_lt n (2 ^ 32)
is_number_of I64 n = nat_lt n (2 ^ 64)
is_number_of Ptr n = false

-- a number modulo 2^w
abbrev pub number_modulo : Scalar → ℕ → ℕ
number_modulo ty n = n % 2 ^ width ty

-- The signed value of a number below 2^w: from half of 2^w on, the number less 2^w.
abbrev pub signed_of : Scalar → ℕ → ℤ
signed_of ty n = if nat_lt n (2 ^ (width ty - 1)) then pos n else (pos n -ℤ pos (2 ^ width ty))

-- and of any number, that of the number modulo 2^w
abbrev pub signed_value : Scalar → ℕ → ℤ
signed_value ty n = signed_of ty (number_modulo ty n)

-- the least signed value, and the greatest
abbrev pub least_signed : Scalar → ℤ
least_signed ty = neg_ℤ (pos (2 ^ (width ty - 1)))

abbrev pub greatest_signed : Scalar → ℤ
greatest_signed ty = pos (2 ^ (width ty - 1) - 1)

-- the number modulo 2^w of an integer: -1 is 2^w - 1
abbrev pub integer_modulo : Scalar → ℤ → ℕ
integer_modulo ty (pos n) = n % 2 ^ width ty
integer_modulo ty (negsuc n) = 2 ^ width ty - 1 - n % 2 ^ width ty
