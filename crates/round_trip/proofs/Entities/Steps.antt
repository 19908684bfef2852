-- The items go through tokens, one part behind another.
use Rattle.std.proofs.Common.{◌≡◌, ◌∙◌, ℕ, List, [], ◌∷◌, ◌++◌, option_map, ap, append-nil}
use Rattle.ir_lexer.specs.Written.{spellings_of}
use Rattle.ir_lexer.specs.declared.token.Kind.TheVariants as kind
use Rattle.ir_types.specs.declared.scalar.Scalar.{Scalar}
use Rattle.ir_grammar.specs.declared.shape.Shape.{Shape}
use Rattle.ir_grammar.specs.declared.shape.Shape.TheVariants as is
use Rattle.ir_grammar.specs.declared.grammar.Keep.{Keep}
use Rattle.ir_grammar.specs.declared.grammar.Keep.TheVariants as keep
use Rattle.ir_grammar.specs.Tokens.{Piece, shape, keeping}
use Rattle.ir_grammar.specs.Mirrors.Walk.{Taken, settle}
use Rattle.ir_writer.specs.Words.{Parts, line_end, scalar_text}
use Rattle.ir_writer.specs.Instructions.{line}
use Rattle.round_trip.proofs.Grammar.Words.{scalar_shape}
use Rattle.round_trip.proofs.Grammar.Kept.{Lexemes}
use Rattle.round_trip.proofs.Grammar.Walking.{Gone, take_on, goes, Takes, Items}
use Rattle.round_trip.proofs.Grammar.Goes.{spellings_append}

-- one token more stands in front
abbrev pub taken : Keep → Shape → List ℕ → Gone → Gone
taken kept_as at text gone = option_map (λ found. (keeping kept_as at text found.0, found.1)) gone

-- a token of which the shape is known
pub shape_taken : (piece : Piece) (pieces : List Piece) (at : Shape) (kept_as : Keep) (items next : Items) → shape piece ≡ at → settle at items ≡ Taken kept_as next →
    goes items (piece ∷ pieces) ≡ taken kept_as at piece.1 (goes next pieces)
shape_taken piece pieces at kept_as items next is_so e =
    ap (take_on (λ s. goes s pieces) piece) (ap (λ a. settle a items) is_so ∙ e)
    ∙ ap (λ a. taken kept_as a piece.1 (goes next pieces)) is_so

pub scalar_taken : (ty : Scalar) (pieces : List Piece) (items next : Items) → settle (is.Scalar ty) items ≡ Taken keep.Keeps next →
    goes items ((kind.Word, scalar_text ty) ∷ pieces) ≡ taken keep.Keeps (is.Scalar ty) (scalar_text ty) (goes next pieces)
scalar_taken ty pieces items next e = shape_taken (kind.Word, scalar_text ty) pieces (is.Scalar ty) keep.Keeps items next (scalar_shape ty) e

-- ---- other items

-- Two lists of items that do the same at the first token do the same at all.
pub goes_alike : (items others : Items) (piece : Piece) (pieces : List Piece) → settle (shape piece) items ≡ settle (shape piece) others → goes items (piece ∷ pieces) ≡ goes others (piece ∷ pieces)
goes_alike items others piece pieces e = ap (take_on (λ next. goes next pieces) piece) e

-- From other items that do the same, the same is taken.
pub takes_alike : (items others last : Items) (pieces : List Piece) (kept : Lexemes) → goes items pieces ≡ goes others pieces → Takes others pieces kept last → Takes items pieces kept last
takes_alike items others last pieces kept e t = record { left = t.left; gone = e ∙ t.gone; quiet = t.quiet }

-- ---- what is spelled

pub spelled_line : (parts : Parts) → spellings_of (line parts) ≡ spellings_of parts
spelled_line parts = spellings_append parts (line_end ∷ []) ∙ append-nil (spellings_of parts)

-- a line, and what stands behind it
pub spelled_behind_line : (parts more : Parts) → spellings_of (line parts ++ more) ≡ spellings_of parts ++ spellings_of more
spelled_behind_line parts more = spellings_append (line parts) more ∙ ap (λ pieces. pieces ++ spellings_of more) (spelled_line parts)
