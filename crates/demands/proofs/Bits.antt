-- The bits of a pattern.
use Rattle.std.proofs.Common.{ℕ, zero, suc, ◌+◌, ◌*◌, ◌^◌, ◌<◌, ◌≤◌, List, [], ◌∷◌, length, arith}
use Rattle.std.proofs.Math.Nat.{pow-suc}
use Rattle.std.proofs.lemmas.Nat.{pow_pos}
use Rattle.ir_types.specs.declared.scalar.Known.{Known}
use Rattle.ir_types.specs.declared.scalar.Known.TheVariants.{Unknown, Num, Null}
use Rattle.demands.specs.Rows.{number_bit, null_bit, bits_by, pattern_bits}

pub number_bit-le : (k : Known) → number_bit k ≤ 1
number_bit-le Unknown = omega arith
number_bit-le (Num n) = omega arith
number_bit-le Null = omega arith

pub null_bit-le : (k : Known) → null_bit k ≤ 1
null_bit-le Unknown = omega arith
null_bit-le (Num n) = omega arith
null_bit-le Null = omega arith

pub bits_by-lt : (bit : Known → ℕ) → ((k : Known) → bit k ≤ 1) → (items : List Known) (n : ℕ) → length items ≤ n → bits_by bit items < 2 ^ n
bits_by-lt bit low [] n h = pow_pos n
bits_by-lt bit low (item ∷ more) zero h = absurd (omega arith)
bits_by-lt bit low (item ∷ more) (suc n) h = omega (arith, low item, pow-suc 2 n, bits_by-lt bit low more n (omega arith))

-- one more item still fits
pub more-fits : (items : List Known) (mark : ℕ) → length items ≤ 31 → mark ≤ 2 ^ 32 → 2 * pattern_bits items + mark < 2 ^ 64
more-fits items mark h g = omega (arith, bits_by-lt number_bit number_bit-le items 31 h, bits_by-lt null_bit null_bit-le items 31 h)
