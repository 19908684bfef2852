-- The tokens of a text: with blanks and comments between them they tile its bytes, the longest one at each place.
use Rattle.std.specs.Prelude.{◌≡◌, ℕ, ◌+◌, ◌-◌, ◌<◌, ◌≤◌, IsTrue, IsFalse, List, [], ◌∷◌, map, length, take, drop, slice_index, Result, Ok, Err}
use Rattle.std.specs.List.{list_all}
use Rattle.ir_lexer.specs.declared.token.Kind.{Kind}
use Rattle.ir_lexer.specs.declared.token.Token.{Token}
use Rattle.ir_lexer.specs.declared.token.LexFault.{LexFault}
use Rattle.ir_lexer.specs.declared.token.LexFault.TheVariants.{BadByte, OutOfMemory}
use Rattle.ir_lexer.specs.Signs.{is_blank, is_no_line_feed}
use Rattle.ir_lexer.specs.Spelled.{is_spelled}

-- The first byte of rest is a blank.
pub record IsBlank (rest : List ℕ) : Type 0 where
  pub within : 0 < length rest
  pub blank : IsTrue (is_blank (slice_index rest 0))

-- The first len bytes of rest are a comment: a semicolon, and all up to the next line feed or the end.
pub record IsComment (rest : List ℕ) (len : ℕ) : Type 0 where
  pub some : 0 < len
  pub within : len ≤ length rest
  pub begins : slice_index rest 0 ≡ 59
  pub one_line : IsTrue (list_all is_no_line_feed (take len rest))
  pub ends : len < length rest → slice_index rest len ≡ 10

-- The first len bytes of rest are a token of this kind, and no longer front of rest is a token of any kind.
pub record IsLongest (rest : List ℕ) (kind : Kind) (len : ℕ) : Type 0 where
  pub within : len ≤ length rest
  pub spelled : IsTrue (is_spelled kind (take len rest))
  pub longest : (other : Kind) (longer : ℕ) → len < longer → longer ≤ length rest → IsFalse (is_spelled other (take longer rest))

-- No blank, no comment and no token begins where rest does.
pub record NothingBegins (rest : List ℕ) : Type 0 where
  pub no_blank : IsBlank rest → ⊥
  pub no_comment : (len : ℕ) → IsComment rest len → ⊥
  pub no_token : (kind : Kind) (len : ℕ) → len ≤ length rest → IsFalse (is_spelled kind (take len rest))

-- A piece of a text: one blank, a comment of some length, or a token of some kind and length.
pub data Piece : Type 0 where
  Blank : Piece
  Comment : (len : ℕ) → Piece
  Lexeme : (kind : Kind) (len : ℕ) → Piece

abbrev pub len_of : Piece → ℕ
len_of Blank = 1
len_of (Comment len) = len
len_of (Lexeme kind len) = len

abbrev pub BeginsWith : List ℕ → Piece → Type 0
BeginsWith rest Blank = IsBlank rest
BeginsWith rest (Comment len) = IsComment rest len
BeginsWith rest (Lexeme kind len) = IsLongest rest kind len

-- The pieces tile the bytes from one place to another.
abbrev pub Tiles : List ℕ → ℕ → List Piece → ℕ → Type 0
Tiles bytes from [] to = from ≡ to
Tiles bytes from (piece ∷ pieces) to = BeginsWith (drop from bytes) piece × Tiles bytes (from + len_of piece) pieces to

-- the tokens among the pieces that tile from a place on
abbrev pub tokens_of : ℕ → List Piece → List Token
tokens_of from [] = []
tokens_of from (Blank ∷ pieces) = tokens_of (from + 1) pieces
tokens_of from (Comment len ∷ pieces) = tokens_of (from + len) pieces
tokens_of from (Lexeme kind len ∷ pieces) = record { kind = kind; from = from; to = from + len } ∷ tokens_of (from + len) pieces

-- These are the tokens of the bytes.
pub record Tokens (bytes : List ℕ) (ts : List Token) : Type 0 where
  pub pieces : List Piece
  pub tile : Tiles bytes 0 pieces (length bytes)
  pub tokens : ts ≡ tokens_of 0 pieces

-- The bytes before this place are tiled, and from it nothing goes on.
pub record IsBadByte (bytes : List ℕ) (at : ℕ) : Type 0 where
  pub pieces : List Piece
  pub tile : Tiles bytes 0 pieces at
  pub within : at < length bytes
  pub nothing : NothingBegins (drop at bytes)

-- the bytes of a token
abbrev pub text_of : List ℕ → Token → List ℕ
text_of bytes t = take (t.to - t.from) (drop t.from bytes)

-- the tokens of the bytes, each as its kind and its text
abbrev pub texts_of : List ℕ → List Token → List (Kind × List ℕ)
texts_of bytes ts = map (λ (t : Token). (t.kind, text_of bytes t)) ts

-- From a place on the tokens stand in order up to an end, each of one byte or more.
abbrev pub InOrder : ℕ → List Token → ℕ → Type 0
InOrder from [] end = from ≤ end
InOrder from (t ∷ ts) end = (from ≤ t.from) × (t.from < t.to) × InOrder t.to ts end

-- a token that lies within the bytes, and whose text is of its kind
pub record IsTokenIn (bytes : List ℕ) (t : Token) : Type 0 where
  pub some : t.from < t.to
  pub within : t.to ≤ length bytes
  pub spelled : IsTrue (is_spelled t.kind (text_of bytes t))

-- The answer is the wanted one, unless memory ran out.
abbrev pub Answers : {X : Type 0} → Result X LexFault → Result X LexFault → Type 0
Answers (Err OutOfMemory) wanted = Unit {0}
Answers (Err (BadByte at)) wanted = wanted ≡ Err (BadByte at)
Answers (Ok x) wanted = wanted ≡ Ok x

-- A fault other than want of memory carries the bad byte.
abbrev pub IsCause : List ℕ → LexFault → Type 0
IsCause bytes (BadByte at) = IsBadByte bytes at
IsCause bytes OutOfMemory = Unit {0}
