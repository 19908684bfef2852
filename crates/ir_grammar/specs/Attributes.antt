-- Attributes, groups and metadata, which are dropped; but one extension of a value is kept.
-- LLVM Language Reference Manual: "Parameter Attributes", "Function Attributes", "Metadata", "Attribute Groups".
use Rattle.std.specs.Prelude.{List, [], ◌∷◌}
use Rattle.ir_grammar.specs.declared.shape.Digits.TheVariants as digits
use Rattle.ir_grammar.specs.declared.shape.Shape.TheVariants as is
use Rattle.ir_grammar.specs.declared.grammar.Terminal.TheVariants as a
use Rattle.ir_grammar.specs.declared.grammar.Name.TheVariants as the
use Rattle.ir_grammar.specs.declared.grammar.Item.TheVariants as item
use Rattle.ir_grammar.specs.Items.{Production, keeps, drops, dropped, power, attachments}

-- ( .. ), all tokens up to the closing partner
abbrev pub parenthesized : List Production
parenthesized =
    drops (a.Only is.OpenParen) (item.Many the.ParenthesesPart ∷ dropped is.CloseParen ∷ []) ∷ []

-- between parentheses: ( .. ) again, or any other token
abbrev pub parentheses_part : List Production
parentheses_part =
    drops (a.Only is.OpenParen) (item.Many the.ParenthesesPart ∷ dropped is.CloseParen ∷ [])
    ∷ drops a.NoParenthesis []
    ∷ []

-- { .. }, all tokens up to the closing partner
abbrev pub braced : List Production
braced =
    drops (a.Only is.OpenBrace) (item.Many the.BracesPart ∷ dropped is.CloseBrace ∷ []) ∷ []

-- between braces: { .. } again, or any other token
abbrev pub braces_part : List Production
braces_part =
    drops (a.Only is.OpenBrace) (item.Many the.BracesPart ∷ dropped is.CloseBrace ∷ [])
    ∷ drops a.NoBrace []
    ∷ []

-- ( .. ) or { .. }
abbrev pub group : List Production
group =
    drops (a.Only is.OpenParen) (item.Many the.ParenthesesPart ∷ dropped is.CloseParen ∷ [])
    ∷ drops (a.Only is.OpenBrace) (item.Many the.BracesPart ∷ dropped is.CloseBrace ∷ [])
    ∷ []

-- word [( .. )], or string [= string], or #name, or align n
abbrev pub attribute : List Production
attribute =
    drops a.FreeWord (item.May the.Parenthesized ∷ [])
    ∷ drops (a.Only is.Str) (item.May the.EqualString ∷ [])
    ∷ drops a.AnyHash []
    ∷ drops (a.Only is.Align) (item.One the.AttributeAlign ∷ [])
    ∷ []

-- the same, but no debug record
abbrev pub call_attribute : List Production
call_attribute =
    drops a.FreeWord (item.May the.Parenthesized ∷ [])
    ∷ drops (a.Only is.Str) (item.May the.EqualString ∷ [])
    ∷ drops (a.Only is.Hash) []
    ∷ drops (a.Only is.Align) (item.One the.AttributeAlign ∷ [])
    ∷ []

-- = string
abbrev pub equal_string : List Production
equal_string = drops (a.Only is.Equals) (dropped is.Str ∷ []) ∷ []

-- n, or ( n )
abbrev pub attribute_align : List Production
attribute_align =
    drops (a.Only (is.Int digits.Power)) []
    ∷ drops (a.Only is.OpenParen) (dropped (is.Int digits.Power) ∷ dropped is.CloseParen ∷ [])
    ∷ []

-- signext or zeroext
abbrev pub extension : List Production
extension = keeps a.AnyExt [] ∷ []

-- !name node
abbrev pub attachment : List Production
attachment = drops a.AnyMeta (item.One the.AttachedNode ∷ []) ∷ []

-- ! { .. }, or !name [( .. )]
abbrev pub attached_node : List Production
attached_node =
    drops (a.Only is.Bang) (item.One the.Braced ∷ [])
    ∷ drops (a.Only is.Meta) (item.May the.Parenthesized ∷ [])
    ∷ []

-- , !name node
abbrev pub comma_attachment : List Production
comma_attachment = drops (a.Only is.Comma) (item.One the.Attachment ∷ []) ∷ []

-- , align n attachments, or attachments
abbrev pub align_part : List Production
align_part = drops (a.Only is.Comma) (item.One the.AlignOrAttachment ∷ []) ∷ []

-- align n attachments, or !name node attachments
abbrev pub align_or_attachment : List Production
align_or_attachment =
    drops (a.Only is.Align) (power ∷ attachments)
    ∷ drops a.AnyMeta (item.One the.AttachedNode ∷ attachments)
    ∷ []

-- [distinct] node
abbrev pub meta_value : List Production
meta_value =
    drops (a.Only is.Distinct) (item.One the.MetaNode ∷ [])
    ∷ drops a.AnyMeta (item.May the.Group ∷ [])
    ∷ []

-- !name [group]
abbrev pub meta_node : List Production
meta_node = drops a.AnyMeta (item.May the.Group ∷ []) ∷ []
