-- Calls.
-- LLVM Language Reference Manual: "'call' Instruction".
use Rattle.std.specs.Prelude.{Bool, false, List, [], ◌∷◌, ◌++◌}
use Rattle.ir_grammar.specs.declared.grammar.Item.{Item}
use Rattle.ir_grammar.specs.declared.shape.AtName.TheVariants as at
use Rattle.ir_grammar.specs.declared.shape.Shape.TheVariants as is
use Rattle.ir_grammar.specs.declared.grammar.Terminal.TheVariants as a
use Rattle.ir_grammar.specs.declared.grammar.Keep.TheVariants as keep
use Rattle.ir_grammar.specs.declared.grammar.Name.TheVariants as the
use Rattle.ir_grammar.specs.declared.grammar.Item.TheVariants as item
use Rattle.ir_grammar.specs.Items.{Production, keeps, drops, keeps_as, kept, each_then, open_paren, close_paren, extended, attachments}
use Rattle.ir_grammar.specs.Constants.{operand_of}

-- ( types )
abbrev pub whole_type : List Production
whole_type = keeps (a.Only is.OpenParen) (item.One the.Types ∷ []) ∷ []

-- ), or ... ), or T and more of them
abbrev pub types : List Production
types =
    keeps (a.Only is.CloseParen) []
    ∷ keeps (a.Only is.Dots) (close_paren ∷ [])
    ∷ keeps a.AnyScalar (item.One the.MoreTypes ∷ [])
    ∷ []

-- ), or a comma and more types
abbrev pub more_types : List Production
more_types =
    keeps (a.Only is.CloseParen) []
    ∷ drops (a.Only is.Comma) (item.One the.NextType ∷ [])
    ∷ []

-- ... ), or T and more of them
abbrev pub next_type : List Production
next_type =
    keeps (a.Only is.Dots) (close_paren ∷ [])
    ∷ keeps a.AnyScalar (item.One the.MoreTypes ∷ [])
    ∷ []

-- T attributes a
abbrev pub argument : List Production
argument = keeps a.AnyScalar (extended (item.One the.Operand ∷ [])) ∷ []

-- ( arguments ) attributes attachments
abbrev pub arguments : List Item
arguments = open_paren ∷ item.Separated the.Argument ∷ close_paren ∷ item.Many the.CallAttribute ∷ attachments

-- T [( types )] f ( arguments ) attributes attachments
abbrev pub returned : List Item → Production
returned more = keeps_as keep.AsReturned a.AnyScalar (item.May the.WholeType ∷ item.One the.Operand ∷ (arguments ++ more))

-- [tail] call attributes T [( types )] f ( arguments ) attributes attachments
abbrev pub call_behind : List Item
call_behind = extended (item.Token a.AnyScalar keep.AsReturned ∷ item.May the.WholeType ∷ item.One the.Operand ∷ arguments)

abbrev pub named_call : List Production
named_call =
    keeps (a.Only is.Call) call_behind
    ∷ drops (a.Only is.Tail) (kept (a.Only is.Call) ∷ call_behind)
    ∷ []

-- behind the attributes of a call without a name: what it returns, the rest of it, and the lines behind it
abbrev pub called : Bool → List Production
called phis =
    returned (item.One (the.Lines false) ∷ [])
    ∷ keeps (a.Only is.Void) (item.May the.WholeType ∷ item.One (the.VoidCallee phis) ∷ [])
    ∷ []

-- the callee of a call of void: to a name of debug information any group is given, and phis may still come
abbrev pub void_callee : Bool → List Production
void_callee phis =
    keeps (a.Only (is.At at.Debug)) (item.One the.Group ∷ item.Many the.CallAttribute ∷ item.Many the.CommaAttachment ∷ item.One (the.Lines phis) ∷ [])
    ∷ each_then (arguments ++ (item.One (the.Lines false) ∷ [])) (operand_of a.CalledAt)
