-- Integers by half of their number.
use Rattle.std.specs.Prelude.{ℕ, ◌+◌, ◌-◌, ◌*◌, ◌^◌, ◌%◌, nat_lt, nat_le, nat_eq, List, [], ◌∷◌, Option, Some, None, option_map, if◌then◌else◌}
use Rattle.ir_types.specs.declared.scalar.Scalar.{Scalar}
use Rattle.ir_grammar.specs.declared.shape.Value.{Value}
use Rattle.ir_grammar.specs.declared.shape.Value.TheVariants as val
use Rattle.ir_grammar.specs.Numbers.{number_of}
use Rattle.ir_scope.specs.Integers.{width, truth}

-- the number, where it is below 2^64
abbrev pub number_below : ℕ → Option ℕ
number_below n = if nat_lt n (2 ^ 64) then Some n else None

-- half of 2^w
abbrev pub half_of : Scalar → Option ℕ
half_of ty = option_map (λ w. 2 ^ (w - 1)) (width ty)

-- the integer below 0, or 0, modulo 2 * half
abbrev pub negated : ℕ → ℕ → Option ℕ
negated half n = if nat_le n half then Some ((2 * half - n) % (2 * half)) else None

-- an integer from -half to 2 * half - 1, modulo 2 * half
abbrev pub integer_by : ℕ → List ℕ → Option ℕ
integer_by half [] = None
integer_by half (first ∷ rest) =
    if nat_eq first 45 then negated half (number_of rest)
    else (if nat_lt (number_of (first ∷ rest)) (2 * half) then Some (number_of (first ∷ rest)) else None)

-- what a word stands for
abbrev pub word_number : Scalar → Value → Option ℕ
word_number ty val.True = truth ty 1
word_number ty val.False = truth ty 0
word_number ty val.Zero = option_map (λ w. 0) (width ty)
word_number ty _ = None
