-- How the items of the grammar go through tokens that are written.
use Rattle.std.proofs.Common.{refl}
use Rattle.std.specs.Prelude.{◌≡◌, Bool, true, false, IsTrue, List, [], ◌∷◌, Option, Some, None, option_map}
use Rattle.ir_grammar.specs.declared.shape.Shape.{Shape}
use Rattle.ir_grammar.specs.declared.shape.Shape.TheVariants as is
use Rattle.ir_grammar.specs.declared.grammar.Item.{Item}
use Rattle.ir_grammar.specs.declared.grammar.Item.TheVariants as item
use Rattle.ir_grammar.specs.declared.grammar.Name.TheVariants as the
use Rattle.ir_grammar.specs.declared.grammar.Terminal.TheVariants as a
use Rattle.ir_grammar.specs.Items as grammar
use Rattle.ir_grammar.specs.Tokens.{Piece, Kept, shape, keeping}
use Rattle.ir_grammar.specs.Mirrors.Walk.{Settled, Taken, AllLeft, Refused, settle, may_end}

-- What stands at a place, the first in front.
abbrev pub Items : Type 0
Items = List Item

-- a top-level entity
abbrev pub entity : Items
entity = item.One the.Entity ∷ []

-- what ends a struct and an array, and the cases of a switch
abbrev pub end_brace : Item
end_brace = grammar.kept (a.Only is.CloseBrace)

abbrev pub end_square : Item
end_square = grammar.kept (a.Only is.CloseSquare)

-- What is kept of tokens that are all taken, and which items stand there then.
abbrev pub Gone : Type 0
Gone = Option (List Kept × Items)

abbrev pub take_on : (Items → Gone) → Piece → Settled → Gone
take_on onwards piece (Taken kept_as items) = option_map (λ found. (keeping kept_as (shape piece) piece.1 found.0, found.1)) (onwards items)
take_on onwards piece AllLeft = None
take_on onwards piece Refused = None

-- Each token is taken by its shape alone, whatever comes behind it.
abbrev pub goes : Items → List Piece → Gone
goes items [] = Some ([], items)
goes items (piece ∷ pieces) = take_on (λ next. goes next pieces) piece (settle (shape piece) items)

-- A shape at which no attribute, attachment, alignment, index or other optional part begins: it begins a line, a block
-- or an entity, or ends a body.
abbrev pub is_quiet : Shape → Bool
is_quiet (is.At name) = true
is_quiet is.Local = true
is_quiet is.Label = true
is_quiet is.CloseBrace = true
is_quiet is.Store = true
is_quiet is.Call = true
is_quiet is.Ret = true
is_quiet is.Br = true
is_quiet is.Switch = true
is_quiet is.Unreachable = true
is_quiet is.Declare = true
is_quiet is.Define = true
is_quiet is.Target = true
is_quiet _ = false

-- At such a shape, and where the tokens end, the items do what the others do: what stands before these is left out.
pub record Quietly (items others : Items) : Type 0 where
  pub settles : (at : Shape) → IsTrue (is_quiet at) → settle at items ≡ settle at others
  pub ends : may_end items ≡ may_end others

-- the same items
pub alike : (items : Items) → Quietly items items
alike items = record { settles = λ at quiet. refl; ends = refl }

-- From these items the tokens are taken and this is kept of them, and then the others stand there, at a quiet shape.
pub record Takes (items : Items) (pieces : List Piece) (kept : List Kept) (others : Items) : Type 0 where
  pub left : Items
  pub gone : goes items pieces ≡ Some (kept, left)
  pub quiet : Quietly left others
