-- Decimal digits, and powers of two.
use Rattle.std.specs.Prelude.{ℕ, ◌+◌, ◌-◌, ◌*◌, ◌^◌, nat_lt, nat_eq, is_some, List, [], ◌∷◌, fold, Option, Some, None, if◌then◌else◌}
use Rattle.ir_grammar.specs.declared.shape.Digits.{Digits}
use Rattle.ir_grammar.specs.declared.shape.Digits.TheVariants.{Power, Count, Other}

-- the number that decimal digits stand for
abbrev pub number_of : List ℕ → ℕ
number_of digits = fold (λ n digit. 10 * n + (digit - 48)) 0 digits

-- the exponents from 0 to 32
abbrev pub exponents : List ℕ
exponents = 0 ∷ 1 ∷ 2 ∷ 3 ∷ 4 ∷ 5 ∷ 6 ∷ 7 ∷ 8 ∷ 9 ∷ 10 ∷ 11 ∷ 12 ∷ 13 ∷ 14 ∷ 15 ∷ 16 ∷ 17 ∷ 18 ∷ 19 ∷ 20 ∷ 21 ∷ 22 ∷ 23 ∷ 24 ∷ 25 ∷ 26 ∷ 27 ∷ 28 ∷ 29 ∷ 30 ∷ 31 ∷ 32 ∷ []

-- the first of these exponents to which two is the number
abbrev pub exponent_among : List ℕ → ℕ → Option ℕ
exponent_among [] n = None
exponent_among (e ∷ es) n = if nat_eq n (2 ^ e) then Some e else exponent_among es n

-- the exponent of a power of two from 1 to 2^32
unfoldable pub exponent_of : ℕ → Option ℕ
exponent_of n = exponent_among exponents n

-- a number, where it is below 2^64
abbrev pub below_limit : ℕ → Option ℕ
below_limit n = if nat_lt n (2 ^ 64) then Some n else None

abbrev pub unsigned_shape : ℕ → Digits
unsigned_shape n = if is_some (exponent_of n) then Power else (if nat_lt n (2 ^ 64) then Count else Other)

-- what kind of integer this is: one with a sign is neither a power nor a count
abbrev pub digits_shape : List ℕ → Digits
digits_shape [] = Other
digits_shape (b ∷ bs) = if nat_eq b 45 then Other else unsigned_shape (number_of (b ∷ bs))
