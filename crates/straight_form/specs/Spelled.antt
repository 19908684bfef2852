-- The productions of the form: the tokens of each.
use Rattle.std.specs.Prelude.{◌≡◌, ℕ, Bool, List, [], ◌∷◌, ◌++◌, map, flat_map, codes, Option, Some, None, if◌then◌else◌}
use Rattle.ir_lexer.specs.declared.token.Kind.{Kind}
use Rattle.ir_lexer.specs.declared.token.Kind.TheVariants as kind
use Rattle.ir_lexer.specs.declared.token.Token.{Token}
use Rattle.ir_lexer.specs.Tokens.{Tokens, text_of}
use Rattle.straight_form.specs.declared.lexeme.Lexeme.{Lexeme}
use Rattle.straight_form.specs.declared.surface.Value.{Value}
use Rattle.straight_form.specs.declared.surface.Value.TheVariants.{Number, Local}
use Rattle.straight_form.specs.declared.surface.Line.{Line}
use Rattle.straight_form.specs.declared.surface.Line.TheVariants.{Add, Call}
use Rattle.straight_form.specs.declared.surface.Entity.{Entity}

-- a token without its place: its kind and its text
abbrev pub Piece : Type 0
Piece = Kind × List ℕ

abbrev pub word : List ℕ → Piece
word text = (kind.Word, text)

abbrev pub mark : ℕ → Piece
mark byte = (kind.Mark, byte ∷ [])

-- @name, %name and name:
abbrev pub at_name : List ℕ → Piece
at_name name = (kind.AtName, 64 ∷ name)

abbrev pub local_name : List ℕ → Piece
local_name name = (kind.LocalName, 37 ∷ name)

abbrev pub label_of : List ℕ → Piece
label_of name = (kind.Label, name ++ 58 ∷ [])

abbrev pub value_piece : Value → Piece
value_piece (Number digits) = (kind.Int, digits)
value_piece (Local name) = local_name name

-- i32 a
abbrev pub word_pieces : Piece → List Piece
word_pieces piece = word (codes "i32") ∷ piece ∷ []

-- , i32 b, i32 c
abbrev pub more_pieces : List Piece → List Piece
more_pieces pieces = flat_map (λ piece. mark 44 ∷ word_pieces piece) pieces

-- i32 a, i32 b, i32 c
abbrev pub listed_pieces : List Piece → List Piece
listed_pieces [] = []
listed_pieces (piece ∷ pieces) = word_pieces piece ++ more_pieces pieces

-- (i32 a, i32 b)
abbrev pub group_pieces : List Piece → List Piece
group_pieces pieces = mark 40 ∷ (listed_pieces pieces ++ mark 41 ∷ [])

-- %name = add i32 a, b and %name = call i32 @callee(i32 a, i32 b)
abbrev pub line_pieces : Line → List Piece
line_pieces (Add name a b) = local_name name ∷ mark 61 ∷ word (codes "add") ∷ word (codes "i32") ∷ value_piece a ∷ mark 44 ∷ value_piece b ∷ []
line_pieces (Call name callee args) = local_name name ∷ mark 61 ∷ word (codes "call") ∷ word (codes "i32") ∷ at_name callee ∷ group_pieces (map value_piece args)

abbrev pub label_pieces : Option (List ℕ) → List Piece
label_pieces None = []
label_pieces (Some name) = label_of name ∷ []

abbrev pub linkage_pieces : Bool → List Piece
linkage_pieces internal = if internal then word (codes "internal") ∷ [] else []

-- ret i32 result }
abbrev pub end_pieces : Value → List Piece
end_pieces result = word (codes "ret") ∷ word (codes "i32") ∷ value_piece result ∷ mark 125 ∷ []

-- i32 @name(i32 %p, i32 %q) {
abbrev pub head_pieces : List ℕ → List (List ℕ) → List Piece
head_pieces name params = word (codes "i32") ∷ at_name name ∷ (group_pieces (map local_name params) ++ mark 123 ∷ [])

-- define [internal] i32 @name(i32 %p, i32 %q) { [label:] lines ret i32 result }
abbrev pub entity_pieces : Entity → List Piece
entity_pieces e = word (codes "define") ∷ (linkage_pieces e.internal ++ (head_pieces e.name e.params ++ (label_pieces e.label ++ (flat_map line_pieces e.lines ++ end_pieces e.result))))

-- the tokens of a text, without their places
abbrev pub pieces_of : List ℕ → List Token → List Piece
pieces_of bytes tokens = map (λ t. (t.kind, text_of bytes t)) tokens

-- what contracts see of lexemes
abbrev pub seen : List Lexeme → List Piece
seen lexemes = map (λ l. (l.kind, l.text.now)) lexemes

-- The tokens of the text are those of these definitions, one after another.
pub record IsTextOf (bytes : List ℕ) (entities : List Entity) : Type 0 where
  pub tokens : List Token
  pub tile : Tokens bytes tokens
  pub spelled : pieces_of bytes tokens ≡ flat_map entity_pieces entities
