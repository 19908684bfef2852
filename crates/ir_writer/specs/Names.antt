-- Names and strings as they are written, and which bytes stand in quotes as themselves.
use Rattle.std.specs.Prelude.{ℕ, ◌+◌, ◌/◌, ◌%◌, Bool, not, ◌&&◌, ◌==◌, nat_lt, nat_le, List, [], ◌∷◌, ◌++◌, flat_map, slice_get, unwrap_or, if◌then◌else◌}
use Rattle.ir_lexer.specs.Signs.{begins_name, is_name_byte}
use Rattle.ir_lexer.specs.Spelled.{headed}

-- the upper case hexadecimal digit of a number below 16
abbrev pub hex_digit : ℕ → ℕ
hex_digit n = if nat_lt n 10 then 48 + n else 55 + n

-- a byte that stands for itself between quotes
abbrev pub stands_itself : ℕ → Bool
stands_itself b = nat_le 32 b && nat_le b 126 && not (b == 34) && not (b == 92)

-- any other byte is a backslash and two digits
abbrev pub escaped : ℕ → List ℕ
escaped b = if stands_itself b then b ∷ [] else 92 ∷ hex_digit (b / 16) ∷ hex_digit (b % 16) ∷ []

-- bytes in quotes
abbrev pub quoted : List ℕ → List ℕ
quoted bytes = 34 ∷ (flat_map escaped bytes ++ 34 ∷ [])

-- a name that may stand without quotes and isn't decimal
abbrev pub is_unquoted : List ℕ → Bool
is_unquoted name = headed begins_name is_name_byte name

-- a name, in quotes where it can't stand without
abbrev pub name_text : List ℕ → List ℕ
name_text name = if is_unquoted name then name else quoted name

-- the name of the item at a place
abbrev pub name_at : List (List ℕ) → ℕ → List ℕ
name_at names place = unwrap_or (slice_get names place) []
