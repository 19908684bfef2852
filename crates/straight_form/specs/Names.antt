-- Names of the form.
use Rattle.std.specs.Prelude.{ℕ, Bool, ◌&&◌, not, nat_eq, nat_le, nat_lt, ◌==◌, codes, List, length}
use Rattle.std.specs.List.{list_all, starts_with}
use Rattle.ir_lexer.specs.Signs.{begins_name, is_name_byte}
use Rattle.ir_lexer.specs.Spelled.{headed}

-- A name has 1 to 4,096 bytes, none of them zero.
abbrev pub is_name : List ℕ → Bool
is_name name = nat_lt 0 (length name) && nat_le (length name) 4096 && list_all (λ byte. not (byte == 0)) name

abbrev pub is_reserved : List ℕ → Bool
is_reserved name = starts_with nat_eq name (codes "llvm.")

-- A function's name isn't an intrinsic's.
abbrev pub is_function_name : List ℕ → Bool
is_function_name name = is_name name && not (is_reserved name)

-- a name that may be written without quotes and isn't decimal
abbrev pub is_unquoted : List ℕ → Bool
is_unquoted name = headed begins_name is_name_byte name

-- A name that is written without quotes, isn't decimal, isn't an intrinsic's, and has at most 4,096 bytes.
abbrev pub is_plain_name : List ℕ → Bool
is_plain_name name = is_unquoted name && nat_le (length name) 4096 && not (is_reserved name)
