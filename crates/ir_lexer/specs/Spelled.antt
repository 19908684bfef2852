-- Whether a whole list of bytes is one token of a kind.
use Rattle.std.specs.Prelude.{ℕ, ◌-◌, Bool, false, ◌&&◌, ◌||◌, ◌==◌, nat_lt, List, [], ◌∷◌, length, take, slice_index, if◌then◌else◌}
use Rattle.std.specs.List.{list_all}
use Rattle.std.specs.Char.{is_ascii_digit}
use Rattle.ir_lexer.specs.declared.token.Kind.{Kind}
use Rattle.ir_lexer.specs.declared.token.Kind.TheVariants.{AtName, LocalName, Hash, Meta, Str, CStr, Label, Word, Int, Mark}
use Rattle.ir_lexer.specs.Signs.{begins_word, begins_name, is_name_byte, is_meta_byte, is_mark}

-- one byte that passes the first test, and then any number of bytes that pass the second
abbrev pub headed : (ℕ → Bool) → (ℕ → Bool) → List ℕ → Bool
headed first rest [] = false
headed first rest (b ∷ bs) = first b && list_all rest bs

-- the sign, and then bytes that pass the test
abbrev pub after : ℕ → (List ℕ → Bool) → List ℕ → Bool
after sign test [] = false
after sign test (b ∷ bs) = (b == sign) && test bs

-- bytes up to the next quote, which is the last of them
abbrev pub closes : List ℕ → Bool
closes [] = false
closes (b ∷ bs) = if b == 34 then (length bs == 0) else closes bs

-- a quote, and bytes up to the next one
unfoldable pub is_quoted : List ℕ → Bool
is_quoted text = after 34 closes text

unfoldable pub is_decimal : List ℕ → Bool
is_decimal text = headed is_ascii_digit is_ascii_digit text

-- one or more bytes of names
unfoldable pub is_run : List ℕ → Bool
is_run text = headed is_name_byte is_name_byte text

-- what stands behind @ or %
unfoldable pub is_name : List ℕ → Bool
is_name text = headed begins_name is_name_byte text || is_decimal text || is_quoted text

-- this byte is at this place
unfoldable pub has : List ℕ → ℕ → ℕ → Bool
has bytes at b = nat_lt at (length bytes) && (slice_index bytes at == b)

-- a run of bytes of names, or a quoted string, and then a colon
unfoldable pub is_label : List ℕ → Bool
is_label text = let n = length text - 1 in has text n 58 && (is_run (take n text) || is_quoted (take n text))

unfoldable pub is_word : List ℕ → Bool
is_word text = headed begins_word is_name_byte text

-- decimal digits, with - before them or not
unfoldable pub is_integer : List ℕ → Bool
is_integer text = is_decimal text || after 45 is_decimal text

unfoldable pub is_one_mark : List ℕ → Bool
is_one_mark text = headed is_mark (λ b. false) text

abbrev pub is_spelled : Kind → List ℕ → Bool
is_spelled AtName text = after 64 is_name text
is_spelled LocalName text = after 37 is_name text
is_spelled Hash text = after 35 is_run text
is_spelled Meta text = after 33 (list_all is_meta_byte) text
is_spelled Str text = is_quoted text
is_spelled CStr text = after 99 is_quoted text
is_spelled Label text = is_label text
is_spelled Word text = is_word text
is_spelled Int text = is_integer text
is_spelled Mark text = is_one_mark text
