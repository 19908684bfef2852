-- What the text of a token stands for: a name without its sign and quotes, a string without its quotes, escapes as bytes.
use Rattle.std.specs.Prelude.{ℕ, ◌+◌, ◌-◌, ◌*◌, Bool, true, false, IsTrue, ◌&&◌, ◌==◌, List, [], ◌∷◌, length, take, drop, if◌then◌else◌}
use Rattle.std.specs.List.{list_any}
use Rattle.std.specs.Char.{is_ascii_hexdigit, digit_value}
use Rattle.ir_lexer.specs.declared.token.Kind.{Kind}
use Rattle.ir_lexer.specs.declared.token.Kind.TheVariants.{AtName, LocalName, Hash, Meta, Str, CStr, Label, Word, Int, Mark}
use Rattle.ir_lexer.specs.Spelled.{has}

-- two hexadecimal digits
abbrev pub is_hex_pair : ℕ → ℕ → Bool
is_hex_pair high low = is_ascii_hexdigit high && is_ascii_hexdigit low

abbrev pub hex_byte : ℕ → ℕ → ℕ
hex_byte high low = 16 * digit_value high + digit_value low

-- Escapes, from left to right: two backslashes are one, a backslash and two hexadecimal digits are
-- that byte, and any other backslash is itself.
unfoldable pub unescaped : List ℕ → List ℕ
unescaped [] = []
unescaped (b ∷ []) = b ∷ []
unescaped (b ∷ c ∷ []) = elim (b == 92) [
  | false ↦ b ∷ unescaped (c ∷ [])
  | true ↦ elim (c == 92) [ true ↦ 92 ∷ [] | false ↦ 92 ∷ unescaped (c ∷ []) ]
]
unescaped (b ∷ c ∷ d ∷ bs) = elim (b == 92) [
  | false ↦ b ∷ unescaped (c ∷ d ∷ bs)
  | true ↦ elim (c == 92) [
    | true ↦ 92 ∷ unescaped (d ∷ bs)
    | false ↦ elim (is_hex_pair c d) [
      | true ↦ hex_byte c d ∷ unescaped bs
      | false ↦ 92 ∷ unescaped (c ∷ d ∷ bs)
    ]
  ]
]

abbrev pub HasBackslash : List ℕ → Type 0
HasBackslash text = IsTrue (list_any (λ b. b == 92) text)

-- what stands between the quotes of a string
abbrev pub inside : List ℕ → List ℕ
inside text = take (length text - 2) (drop 1 text)

-- a name that is written plainly or in quotes
unfoldable pub name_of : List ℕ → List ℕ
name_of text = if has text 0 34 then unescaped (inside text) else text

-- what a token of this kind and text stands for; a token without a name or a string stands for its text
abbrev pub stands_for : Kind → List ℕ → List ℕ
stands_for AtName text = name_of (drop 1 text)
stands_for LocalName text = name_of (drop 1 text)
stands_for Label text = name_of (take (length text - 1) text)
stands_for Str text = unescaped (inside text)
stands_for CStr text = unescaped (inside (drop 1 text))
stands_for Hash text = text
stands_for Meta text = text
stands_for Word text = text
stands_for Int text = text
stands_for Mark text = text
