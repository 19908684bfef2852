-- Tokens of bytes have texts of bytes.
use Rattle.std.proofs.Common.{ℕ, ◌-◌, List, ◌∷◌, drop}
use Rattle.std.specs.Prelude.{All, slice_index_or}
use Rattle.std.proofs.lemmas.List.Elements.{All-cons, All-head, All-tail, All-drop, All-map}
use Rattle.ir_lexer.specs.declared.token.Token.{Token}
use Rattle.ir_lexer.specs.Tokens.{text_of, texts_of}
use Rattle.ir_grammar.specs.Tokens.{Piece, Kept}
use Rattle.ir_writer.specs.Ranges.{AreBytes}
use Rattle.round_trip.proofs.Ranges.Escapes.{taken_bytes, dropped_bytes}

abbrev pub IsOfBytes : Kept → Type 0
IsOfBytes k = AreBytes k.1

-- kept lexemes whose texts are bytes
abbrev pub LexemesAreBytes : List Kept → Type 0
LexemesAreBytes ks = All (λ (k : Kept). AreBytes k.1) ks

-- tokens whose texts are bytes
abbrev pub PiecesAreBytes : List Piece → Type 0
PiecesAreBytes pieces = All (λ (piece : Piece). AreBytes piece.1) pieces

pub lexeme_before : (k : Kept) (ks : List Kept) → AreBytes k.1 → LexemesAreBytes ks → LexemesAreBytes (k ∷ ks)
lexeme_before k ks here are = All-cons IsOfBytes k ks here are

pub first_lexeme : (k : Kept) (ks : List Kept) → LexemesAreBytes (k ∷ ks) → AreBytes k.1
first_lexeme k ks are = All-head IsOfBytes k ks are

pub lexemes_behind : (k : Kept) (ks : List Kept) → LexemesAreBytes (k ∷ ks) → LexemesAreBytes ks
lexemes_behind k ks are = All-tail IsOfBytes k ks are

pub dropped_lexemes : (n : ℕ) (ks : List Kept) → LexemesAreBytes ks → LexemesAreBytes (drop n ks)
dropped_lexemes n ks are = All-drop IsOfBytes n ks are

pub texts_are_bytes : (bytes : List ℕ) (tokens : List Token) → AreBytes bytes → PiecesAreBytes (texts_of bytes tokens)
texts_are_bytes bytes tokens are =
    All-map (λ (piece : Piece). AreBytes piece.1) (λ (t : Token). (t.kind, text_of bytes t)) tokens
    (λ k d within. token_is_bytes (slice_index_or tokens k d))
  where
    token_is_bytes : (t : Token) → AreBytes (text_of bytes t)
    token_is_bytes t = taken_bytes (t.to - t.from) (drop t.from bytes) (dropped_bytes t.from bytes are)
