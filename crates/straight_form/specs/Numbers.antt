-- Integers of 32 bits, as they are read.
use Rattle.std.specs.Prelude.{ℕ, ◌+◌, ◌-◌, ◌*◌, ◌%◌, ◌^◌, nat_lt, nat_le, nat_eq, List, [], ◌∷◌, fold, Option, Some, None, if◌then◌else◌}

-- the number that decimal digits stand for
abbrev pub number_of_digits : List ℕ → ℕ
number_of_digits digits = fold (λ n digit. 10 * n + (digit - 48)) 0 digits

-- an integer from -2^31 to 2^32 - 1, modulo 2^32
abbrev pub integer_of : List ℕ → Option ℕ
integer_of [] = None
integer_of (first ∷ rest) =
    if nat_eq first 45 then (if nat_le (number_of_digits rest) (2 ^ 31) then Some ((2 ^ 32 - number_of_digits rest) % 2 ^ 32) else None)
    else (if nat_lt (number_of_digits (first ∷ rest)) (2 ^ 32) then Some (number_of_digits (first ∷ rest)) else None)
