-- What the grammar keeps of tokens of bytes is lexemes of bytes.
use Rattle.std.proofs.Common.{ℕ, List, [], ◌∷◌, ◌++◌, drop, Option, Some, None}
use Rattle.std.specs.Prelude.{All}
use Rattle.std.proofs.lemmas.List.Elements.{All-nil, All-cons, All-head, All-tail, All-drop}
use Rattle.ir_grammar.specs.declared.shape.Shape.{Shape}
use Rattle.ir_grammar.specs.declared.shape.Shape.TheVariants as is
use Rattle.ir_grammar.specs.declared.grammar.Keep.{Keep}
use Rattle.ir_grammar.specs.declared.grammar.Keep.TheVariants as keep
use Rattle.ir_grammar.specs.declared.grammar.FlagPart.{FlagPart}
use Rattle.ir_grammar.specs.declared.grammar.Item.{Item}
use Rattle.ir_grammar.specs.declared.grammar.Item.TheVariants as item
use Rattle.ir_grammar.specs.declared.grammar.Name.TheVariants as the
use Rattle.ir_grammar.specs.Tokens.{Piece, Kept, shape_before, returned, keeping}
use Rattle.ir_grammar.specs.Derives.{without_a, without_b, without_c, keeping_flag, Derives, nothing, one, left_out, is_there, ended, one_more, empty, some, no_further, further, no_flag, flag_a, flag_b, flag_c}
use Rattle.ir_grammar.specs.Derives as by
use Rattle.ir_parser.specs.Spelled.{Entity, Splits, kept_of}
use Rattle.ir_writer.specs.Ranges.{AreBytes}
use Rattle.round_trip.proofs.Ranges.Texts.{IsOfBytes, LexemesAreBytes, PiecesAreBytes, lexeme_before}

keeping_bytes : (kept_as : Keep) (at : Shape) (text : List ℕ) (ks : List Kept) → AreBytes text → LexemesAreBytes ks → LexemesAreBytes (keeping kept_as at text ks)
keeping_bytes keep.Drops at text ks here are = are
keeping_bytes keep.Keeps at text ks here are = lexeme_before (at, text) ks here are
keeping_bytes keep.AsResult at text ks here are = lexeme_before (is.Result, text) ks here are
keeping_bytes keep.AsAddress at text ks here are = lexeme_before (is.Address, text) ks here are
keeping_bytes keep.AsReturned at text ks here are = lexeme_before (returned at, text) ks here are

keeping_flag_bytes : (part : Option FlagPart) (at : Shape) (text : List ℕ) (ks : List Kept) → AreBytes text → LexemesAreBytes ks → LexemesAreBytes (keeping_flag part at text ks)
keeping_flag_bytes None at text ks here are = are
keeping_flag_bytes (Some part) at text ks here are = keeping_bytes part.keep at text ks here are

abbrev IsPieceOfBytes : Piece → Type 0
IsPieceOfBytes piece = AreBytes piece.1

-- a token that is kept, or not, before what is kept of those behind it
token_bytes : (kept_as : Keep) (piece : Piece) (pieces : List Piece) (ks : List Kept) → PiecesAreBytes (piece ∷ pieces) → (PiecesAreBytes pieces → LexemesAreBytes ks) →
    LexemesAreBytes (keeping kept_as (shape_before piece pieces) piece.1 ks)
token_bytes kept_as piece pieces ks are behind =
    keeping_bytes kept_as (shape_before piece pieces) piece.1 ks (All-head IsPieceOfBytes piece pieces are) (behind (All-tail IsPieceOfBytes piece pieces are))

flag_bytes : (part : Option FlagPart) (piece : Piece) (pieces : List Piece) (ks : List Kept) → PiecesAreBytes (piece ∷ pieces) → (PiecesAreBytes pieces → LexemesAreBytes ks) →
    LexemesAreBytes (keeping_flag part (shape_before piece pieces) piece.1 ks)
flag_bytes part piece pieces ks are behind =
    keeping_flag_bytes part (shape_before piece pieces) piece.1 ks (All-head IsPieceOfBytes piece pieces are) (behind (All-tail IsPieceOfBytes piece pieces are))

pub derived_bytes : (items : List Item) (pieces : List Piece) (kept : List Kept) (rest : List Piece) → Derives items pieces kept rest → PiecesAreBytes pieces → LexemesAreBytes kept
derived_bytes _ _ _ _ (nothing rest) are = All-nil IsOfBytes
derived_bytes _ _ _ _ (by.token terminal kept_as items piece pieces kept rest stands d) are = token_bytes kept_as piece pieces kept are (derived_bytes items pieces kept rest d)
derived_bytes _ _ _ _ (one name production items piece pieces kept rest among stands d) are =
    token_bytes production.keep piece pieces kept are (derived_bytes (production.behind ++ items) pieces kept rest d)
derived_bytes _ _ _ _ (left_out name items pieces kept rest none d) are = derived_bytes items pieces kept rest d are
derived_bytes _ _ _ _ (is_there name items pieces kept rest d) are = derived_bytes (item.One name ∷ items) pieces kept rest d are
derived_bytes _ _ _ _ (ended name items pieces kept rest none d) are = derived_bytes items pieces kept rest d are
derived_bytes _ _ _ _ (one_more name items pieces kept rest d) are = derived_bytes (item.One name ∷ item.Many name ∷ items) pieces kept rest d are
derived_bytes _ _ _ _ (empty name items pieces kept rest none d) are = derived_bytes items pieces kept rest d are
derived_bytes _ _ _ _ (some name items pieces kept rest d) are = derived_bytes (item.One name ∷ item.Further name ∷ items) pieces kept rest d are
derived_bytes _ _ _ _ (no_further name items pieces kept rest none d) are = derived_bytes items pieces kept rest d are
derived_bytes _ _ _ _ (further name items piece pieces kept rest comma d) are =
    derived_bytes (item.One name ∷ item.Further name ∷ items) pieces kept rest d (All-tail IsPieceOfBytes piece pieces are)
derived_bytes _ _ _ _ (no_flag flags items pieces kept rest none d) are = derived_bytes items pieces kept rest d are
derived_bytes _ _ _ _ (flag_a flags items piece pieces kept rest is_so d) are =
    flag_bytes flags.a piece pieces kept are (derived_bytes (item.AnyOrder (without_a flags) ∷ items) pieces kept rest d)
derived_bytes _ _ _ _ (flag_b flags items piece pieces kept rest is_so d) are =
    flag_bytes flags.b piece pieces kept are (derived_bytes (item.AnyOrder (without_b flags) ∷ items) pieces kept rest d)
derived_bytes _ _ _ _ (flag_c flags items piece pieces kept rest is_so d) are =
    flag_bytes flags.c piece pieces kept are (derived_bytes (item.AnyOrder (without_c flags) ∷ items) pieces kept rest d)

-- ---- entities

pub entities_are_bytes : (entities : List Entity) (pieces rest : List Piece) → Splits pieces entities rest → PiecesAreBytes pieces → All LexemesAreBytes (kept_of entities)
entities_are_bytes [] pieces rest split are = All-nil LexemesAreBytes
entities_are_bytes (e ∷ es) pieces rest split are =
    All-cons LexemesAreBytes e.0 (kept_of es) (derived_bytes (item.One the.Entity ∷ []) pieces e.0 (drop e.1 pieces) split.0.1 are)
    (entities_are_bytes es (drop e.1 pieces) rest split.1 (All-drop IsPieceOfBytes e.1 pieces are))
