-- Which bytes may stand where in a token.
use Rattle.std.specs.Prelude.{ℕ, Bool, [], ◌∷◌, not, ◌||◌, ◌==◌}
use Rattle.std.specs.List.{list_any}
use Rattle.std.specs.Char.{is_ascii_digit, is_ascii_alphabetic}

-- space, tab, carriage return and line feed
unfoldable pub is_blank : ℕ → Bool
is_blank b = (b == 32) || (b == 9) || (b == 13) || (b == 10)

-- a letter, or one of $ . _
unfoldable pub begins_word : ℕ → Bool
begins_word b = is_ascii_alphabetic b || (b == 36) || (b == 46) || (b == 95)

-- what begins a word, or -
unfoldable pub begins_name : ℕ → Bool
begins_name b = begins_word b || (b == 45)

-- what begins a name, or a decimal digit
unfoldable pub is_name_byte : ℕ → Bool
is_name_byte b = begins_name b || is_ascii_digit b

-- a byte of a name, or a backslash
unfoldable pub is_meta_byte : ℕ → Bool
is_meta_byte b = is_name_byte b || (b == 92)

-- = , * ( ) [ ] { } < > | + : ^
unfoldable pub is_mark : ℕ → Bool
is_mark b = list_any (λ mark. b == mark) (61 ∷ 44 ∷ 42 ∷ 40 ∷ 41 ∷ 91 ∷ 93 ∷ 123 ∷ 125 ∷ 60 ∷ 62 ∷ 124 ∷ 43 ∷ 58 ∷ 94 ∷ [])

-- neither of these ends what it is in: a quote ends a string, a line feed a comment
unfoldable pub is_no_quote : ℕ → Bool
is_no_quote b = not (b == 34)

unfoldable pub is_no_line_feed : ℕ → Bool
is_no_line_feed b = not (b == 10)
