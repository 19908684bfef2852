-- How long the longest token at the front of some bytes is, and of which kind: what the code computes.
use Rattle.std.specs.Prelude.{ℕ, suc, Bool, ◌||◌, ◌==◌, nat_lt, List, [], ◌∷◌, length, if◌then◌else◌, Option, Some, None}
use Rattle.std.specs.List.{prefix_len}
use Rattle.std.specs.Char.{is_ascii_digit}
use Rattle.ir_lexer.specs.declared.token.Kind.{Kind}
use Rattle.ir_lexer.specs.declared.token.Kind.TheVariants as kinds
use Rattle.ir_lexer.specs.declared.class.Class.{Class}
use Rattle.ir_lexer.specs.declared.class.Class.TheVariants as classes
use Rattle.ir_lexer.specs.Signs.{is_blank, begins_word, begins_name, is_name_byte, is_meta_byte, is_mark, is_no_quote, is_no_line_feed}
use Rattle.ir_lexer.specs.Spelled.{has}

-- what a token that begins with this byte may be
unfoldable pub class_of : ℕ → Class
class_of b =
    if begins_word b then classes.Letter
    else (if is_ascii_digit b || (b == 45) then classes.Number
    else (if b == 64 then classes.At
    else (if b == 37 then classes.Percent
    else (if b == 35 then classes.Hash
    else (if b == 33 then classes.Bang
    else (if b == 34 then classes.Quote
    else (if is_mark b then classes.Mark
    else classes.Other)))))))

-- one more for the sign in front, where there is something behind it
abbrev pub with_sign : ℕ → ℕ
with_sign n = if n == 0 then 0 else suc n

-- How long what begins here is, and 0 where it doesn't begin here.
unfoldable pub closing_len : List ℕ → ℕ
closing_len bytes = let n = prefix_len is_no_quote bytes in if nat_lt n (length bytes) then suc n else 0

-- with this sign in front
abbrev pub behind : ℕ → (List ℕ → ℕ) → List ℕ → ℕ
behind sign len [] = 0
behind sign len (b ∷ bs) = if b == sign then with_sign (len bs) else 0

unfoldable pub quoted_len : List ℕ → ℕ
quoted_len bytes = behind 34 closing_len bytes

unfoldable pub name_len : List ℕ → ℕ
name_len [] = 0
name_len (b ∷ bs) =
    if b == 34 then with_sign (closing_len bs)
    else (if begins_name b then prefix_len is_name_byte (b ∷ bs)
    else prefix_len is_ascii_digit (b ∷ bs))

unfoldable pub integer_len : List ℕ → ℕ
integer_len [] = 0
integer_len (b ∷ bs) = if b == 45 then with_sign (prefix_len is_ascii_digit bs) else prefix_len is_ascii_digit (b ∷ bs)

unfoldable pub c_string_len : List ℕ → ℕ
c_string_len bytes = behind 99 quoted_len bytes

unfoldable pub gap_len : List ℕ → ℕ
gap_len [] = 0
gap_len (b ∷ bs) = if is_blank b then 1 else (if b == 59 then suc (prefix_len is_no_line_feed bs) else 0)

-- a colon directly behind the bytes of names that stand at the front
unfoldable pub is_labelled : List ℕ → Bool
is_labelled rest = has rest (prefix_len is_name_byte rest) 58

abbrev pub sized : Kind → ℕ → Option (Kind × ℕ)
sized kind n = if n == 0 then None else Some (kind, n)

unfoldable pub quoted : List ℕ → Option (Kind × ℕ)
quoted rest = let n = quoted_len rest in if n == 0 then None else (if has rest n 58 then Some (kinds.Label, suc n) else Some (kinds.Str, n))

unfoldable pub lettered : List ℕ → Option (Kind × ℕ)
lettered rest =
    if is_labelled rest then Some (kinds.Label, suc (prefix_len is_name_byte rest))
    else (if c_string_len rest == 0 then Some (kinds.Word, prefix_len is_name_byte rest) else Some (kinds.CStr, c_string_len rest))

unfoldable pub numbered : List ℕ → Option (Kind × ℕ)
numbered rest =
    if is_labelled rest then Some (kinds.Label, suc (prefix_len is_name_byte rest))
    else sized kinds.Int (integer_len rest)

abbrev pub front_of : Class → List ℕ → List ℕ → Option (Kind × ℕ)
front_of classes.At rest more = sized kinds.AtName (with_sign (name_len more))
front_of classes.Percent rest more = sized kinds.LocalName (with_sign (name_len more))
front_of classes.Hash rest more = sized kinds.Hash (with_sign (prefix_len is_name_byte more))
front_of classes.Bang rest more = Some (kinds.Meta, suc (prefix_len is_meta_byte more))
front_of classes.Quote rest more = quoted rest
front_of classes.Letter rest more = lettered rest
front_of classes.Number rest more = numbered rest
front_of classes.Mark rest more = Some (kinds.Mark, 1)
front_of classes.Other rest more = None

abbrev pub front : List ℕ → Option (Kind × ℕ)
front [] = None
front (b ∷ bs) = front_of (class_of b) (b ∷ bs) bs
