-- Text that is written token by token, so that it is read as these tokens again.
use Rattle.std.specs.Prelude.{ℕ, Bool, not, ◌&&◌, ◌||◌, ◌==◌, IsTrue, List, [], ◌∷◌, ◌++◌}
use Rattle.ir_lexer.specs.declared.token.Kind.{Kind}
use Rattle.ir_lexer.specs.declared.token.Kind.TheVariants.{AtName, LocalName, Hash, Meta, Str, CStr, Label, Word, Int, Mark}
use Rattle.ir_lexer.specs.Signs.{is_blank, is_mark}
use Rattle.ir_lexer.specs.Spelled.{is_spelled}

-- A part of a written text: one blank byte, or the text of a token.
pub data Part : Type 0 where
  Space : (byte : ℕ) → Part
  Spelling : (kind : Kind) (text : List ℕ) → Part

-- the whole text
abbrev pub bytes_of : List Part → List ℕ
bytes_of [] = []
bytes_of (Space byte ∷ parts) = byte ∷ bytes_of parts
bytes_of (Spelling kind text ∷ parts) = text ++ bytes_of parts

-- the tokens, each with its text
abbrev pub spellings_of : List Part → List (Kind × List ℕ)
spellings_of [] = []
spellings_of (Space byte ∷ parts) = spellings_of parts
spellings_of (Spelling kind text ∷ parts) = (kind, text) ∷ spellings_of parts

-- a blank or a mark other than the colon, behind which no token goes on
unfoldable pub is_end : ℕ → Bool
is_end b = is_blank b || (is_mark b && not (b == 58))

abbrev pub IsEnd : List ℕ → Type 0
IsEnd [] = Unit {0}
IsEnd (b ∷ bs) = IsTrue (is_end b)

-- what may follow a token: anything after a mark, and such a byte or the end after any other
abbrev pub MayFollow : Kind → List ℕ → Type 0
MayFollow Mark rest = Unit {0}
MayFollow AtName rest = IsEnd rest
MayFollow LocalName rest = IsEnd rest
MayFollow Hash rest = IsEnd rest
MayFollow Meta rest = IsEnd rest
MayFollow Str rest = IsEnd rest
MayFollow CStr rest = IsEnd rest
MayFollow Label rest = IsEnd rest
MayFollow Word rest = IsEnd rest
MayFollow Int rest = IsEnd rest

-- Each blank is one, each token is spelled as its kind, and what follows it may follow it.
abbrev pub IsReadable : List Part → Type 0
IsReadable [] = Unit {0}
IsReadable (Space byte ∷ parts) = IsTrue (is_blank byte) × IsReadable parts
IsReadable (Spelling kind text ∷ parts) = IsTrue (is_spelled kind text) × MayFollow kind (bytes_of parts) × IsReadable parts
