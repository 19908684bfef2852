-- Numbers in words: decimal digits without a leading zero, but of `0` itself, and before them at most a minus.
use Rattle.std.specs.Prelude.{ℕ, zero, suc, ◌-◌, ◌^◌, ℤ, pos, negsuc, ◌&&◌, ◌==◌, nat_le, bytes_eq, List, [], ◌∷◌, Option, Some, None, option_map, option_and_then, if◌then◌else◌}
use Rattle.std.specs.Fmt.{decimal}
use Rattle.std.specs.Str.Parse.{digits_value}

-- The number, of at most `most`, whose decimal the word is.
abbrev pub number_of : ℕ → List ℕ → Option ℕ
number_of most word = if nat_le (digits_value 10 word) most && bytes_eq word (decimal (digits_value 10 word)) then Some (digits_value 10 word) else None

-- -n, but for 0
abbrev pub negative : ℕ → Option ℤ
negative zero = None
negative (suc n) = Some (negsuc n)

-- An argument: such a number to 2^64 - 1, or a minus and such a number from 1 to 2^63.
abbrev pub argument_of : List ℕ → Option ℤ
argument_of [] = None
argument_of (byte ∷ bytes) = if byte == 45 then option_and_then negative (number_of (2 ^ 63) bytes) else option_map pos (number_of (2 ^ 64 - 1) (byte ∷ bytes))

-- Arguments, each of a word.
abbrev pub arguments_of : List (List ℕ) → Option (List ℤ)
arguments_of [] = Some []
arguments_of (word ∷ words) = option_and_then (λ z. option_map (λ zs. z ∷ zs) (arguments_of words)) (argument_of word)
