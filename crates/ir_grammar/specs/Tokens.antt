-- The tokens that the grammar sees, and those that are kept.
use Rattle.std.specs.Prelude.{ℕ, Bool, true, false, List, [], ◌∷◌, map}
use Rattle.ir_lexer.specs.declared.token.Kind.{Kind}
use Rattle.ir_grammar.specs.declared.shape.Shape.{Shape}
use Rattle.ir_grammar.specs.declared.shape.Shape.TheVariants as is
use Rattle.ir_grammar.specs.declared.lexeme.Lexeme.{Lexeme}
use Rattle.ir_grammar.specs.declared.grammar.Keep.{Keep}
use Rattle.ir_grammar.specs.declared.grammar.Keep.TheVariants as keep
use Rattle.ir_grammar.specs.Shapes.{shape_of}

-- a token without its place: its kind and its text
abbrev pub Piece : Type 0
Piece = Kind × List ℕ

-- a token that is kept: its shape and its text
abbrev pub Kept : Type 0
Kept = Shape × List ℕ

-- the shape of a token alone
abbrev pub shape : Piece → Shape
shape piece = shape_of piece.0 piece.1

abbrev pub opens_group : Shape → Bool
opens_group is.OpenParen = true
opens_group is.OpenBrace = true
opens_group _ = false

-- whether an opening parenthesis or brace is the next token
abbrev pub is_group : List Piece → Bool
is_group [] = false
is_group (piece ∷ pieces) = opens_group (shape piece)

-- #dbg_name without a group behind it is any other #name
abbrev pub told : Shape → Bool → Shape
told is.Record false = is.Hash
told shape group = shape

-- the shape of a token, with these behind it
abbrev pub shape_before : Piece → List Piece → Shape
shape_before piece pieces = told (shape piece) (is_group pieces)

-- a scalar as what a call returns
abbrev pub returned : Shape → Shape
returned (is.Scalar ty) = is.Returned ty
returned shape = shape

-- a token that is kept stands before those kept later
abbrev pub keeping : Keep → Shape → List ℕ → List Kept → List Kept
keeping keep.Drops shape text kept = kept
keeping keep.Keeps shape text kept = (shape, text) ∷ kept
keeping keep.AsResult shape text kept = (is.Result, text) ∷ kept
keeping keep.AsAddress shape text kept = (is.Address, text) ∷ kept
keeping keep.AsReturned shape text kept = (returned shape, text) ∷ kept

-- what contracts see of kept tokens
abbrev pub seen : List Lexeme → List Kept
seen lexemes = map (λ l. (l.shape, l.text.now)) lexemes
