-- Integers of a width, as they are written.
use Rattle.std.specs.Prelude.{ℕ, ◌+◌, ◌-◌, ◌^◌, ◌%◌, nat_lt, nat_le, nat_eq, List, [], ◌∷◌, Option, Some, None, option_map, option_and_then, if◌then◌else◌}
use Rattle.ir_types.specs.declared.scalar.Scalar.{Scalar}
use Rattle.ir_types.specs.declared.scalar.Scalar.TheVariants.{I1, I8, I16, I32, I64, Ptr}
use Rattle.ir_grammar.specs.declared.shape.Shape.{Shape}
use Rattle.ir_grammar.specs.declared.shape.Shape.TheVariants as is
use Rattle.ir_grammar.specs.declared.shape.Value.TheVariants as val
use Rattle.ir_grammar.specs.Numbers.{number_of}
use Rattle.ir_grammar.specs.Tokens.{Kept}

-- the bits of an integer type
abbrev pub width : Scalar → Option ℕ
width I1 = Some 1
width I8 = Some 8
width I16 = Some 16
width I32 = Some 32
width I64 = Some 64
width Ptr = None

-- an integer from -2^(w-1) to 2^w - 1, modulo 2^w
abbrev pub integer_of : ℕ → List ℕ → Option ℕ
integer_of w [] = None
integer_of w (first ∷ rest) =
    if nat_eq first 45 then (if nat_le (number_of rest) (2 ^ (w - 1)) then Some ((2 ^ w - number_of rest) % 2 ^ w) else None)
    else (if nat_lt (number_of (first ∷ rest)) (2 ^ w) then Some (number_of (first ∷ rest)) else None)

-- the number, where the type is i1
abbrev pub truth : Scalar → ℕ → Option ℕ
truth I1 n = Some n
truth _ n = None

-- a constant that is a number: an integer, `true`, `false` or `zeroinitializer`, at an integer type that has it
abbrev pub number : Scalar → Kept → Option ℕ
number ty (is.Int digits, text) = option_and_then (λ w. integer_of w text) (width ty)
number ty (is.Value val.True, text) = truth ty 1
number ty (is.Value val.False, text) = truth ty 0
number ty (is.Value val.Zero, text) = option_map (λ w. 0) (width ty)
number ty _ = None

-- a number of an integer type as one of 64 bits with the same sign; a pointer has no bits
abbrev pub extended : Option ℕ → ℕ → ℕ
extended None n = n
extended (Some w) n = if nat_lt n (2 ^ (w - 1)) then n else n + 2 ^ 64 - 2 ^ w
