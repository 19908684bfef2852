-- Types.
-- LLVM Language Reference Manual: "Integer Type", "Pointer Type", "Array Type", "Structure Type".
use Rattle.std.specs.Prelude.{List, [], ◌∷◌}
use Rattle.ir_grammar.specs.declared.shape.Shape.TheVariants as is
use Rattle.ir_grammar.specs.declared.grammar.Terminal.TheVariants as a
use Rattle.ir_grammar.specs.declared.grammar.Name.TheVariants as the
use Rattle.ir_grammar.specs.declared.grammar.Item.TheVariants as item
use Rattle.ir_grammar.specs.Items.{Production, keeps, kept, dropped, close_square}

-- iN or ptr, %name, [ n x T ], { T, T }
abbrev pub type : List Production
type =
    keeps a.AnyScalar []
    ∷ keeps (a.Only is.Local) []
    ∷ keeps (a.Only is.OpenSquare) (kept a.CountInt ∷ dropped is.X ∷ item.One the.Type ∷ close_square ∷ [])
    ∷ keeps (a.Only is.OpenBrace) (item.Separated the.Type ∷ kept (a.Only is.CloseBrace) ∷ [])
    ∷ []

-- opaque or a type
abbrev pub type_body : List Production
type_body = keeps (a.Only is.Opaque) [] ∷ type
