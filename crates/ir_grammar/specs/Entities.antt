-- Top-level entities of a module.
-- LLVM Language Reference Manual: "Source Filename", "Target Triple", "Data Layout", "Structure Type", "Global Variables",
-- "Functions", "Attribute Groups", "Metadata".
use Rattle.std.specs.Prelude.{List, [], ◌∷◌, ◌++◌}
use Rattle.ir_grammar.specs.declared.grammar.Item.{Item}
use Rattle.ir_syntax.specs.declared.item.Linkage.TheVariants as linkage
use Rattle.ir_grammar.specs.declared.shape.AtName.TheVariants as at
use Rattle.ir_grammar.specs.declared.shape.Free.TheVariants as free
use Rattle.ir_grammar.specs.declared.shape.Shape.TheVariants as is
use Rattle.ir_grammar.specs.declared.grammar.Terminal.TheVariants as a
use Rattle.ir_grammar.specs.declared.grammar.Keep.TheVariants as keep
use Rattle.ir_grammar.specs.declared.grammar.Name.TheVariants as the
use Rattle.ir_grammar.specs.declared.grammar.Item.TheVariants as item
use Rattle.ir_grammar.specs.Items.{Production, keeps, drops, kept, dropped, each_then, equals, open_paren, close_paren, power, extended}
use Rattle.ir_grammar.specs.Attributes.{attribute}

abbrev pub entity : List Production
entity =
    -- source_filename = string
    drops (a.Only is.SourceFilename) (equals ∷ dropped is.Str ∷ [])
    -- target datalayout = string, or target triple = string
    ∷ drops (a.Only is.Target) (item.One the.TargetPart ∷ [])
    -- %name = type T, or %name = type opaque
    ∷ keeps (a.Only is.Local) (equals ∷ dropped is.TypeWord ∷ item.One the.TypeBody ∷ [])
    -- @name = [linkage] attributes global T C, or constant T C
    ∷ keeps (a.Only (is.At at.Plain)) (equals ∷ item.One the.Variable ∷ [])
    -- declare attachments [external] attributes R @name ( parameters ) attributes
    ∷ keeps (a.Only is.Declare) (item.Many the.Attachment ∷ item.May the.External ∷ extended (kept a.VoidOrScalar ∷ item.One the.Declared ∷ []))
    -- define [linkage] attributes R @name ( parameters ) attributes attachments body
    ∷ keeps (a.Only is.Define)
    (item.May the.LinkageWord ∷ extended
    (kept a.VoidOrScalar ∷ kept (a.Only (is.At at.Plain)) ∷ open_paren ∷ item.Separated the.Param ∷ close_paren ∷ item.Many the.Attribute ∷ item.Many the.Attachment ∷ item.One the.Body ∷ []))
    -- attributes #name = group
    ∷ drops (a.Only is.AttributesWord) (item.Token a.AnyHash keep.Drops ∷ equals ∷ item.One the.Group ∷ [])
    -- !name = [distinct] node
    ∷ drops a.AnyMeta (equals ∷ item.One the.MetaValue ∷ [])
    ∷ []

-- datalayout = string, or triple = string
abbrev pub target_part : List Production
target_part =
    keeps (a.Only (is.Free free.Datalayout)) (equals ∷ kept (a.Only is.Str) ∷ [])
    ∷ keeps (a.Only (is.Free free.Triple)) (equals ∷ kept (a.Only is.Str) ∷ [])
    ∷ []

-- T C, and alignments and attachments
abbrev pub initialized : List Item
initialized = item.One the.Type ∷ item.One the.Constant ∷ item.Many the.VariablePart ∷ []

abbrev pub attributed : List Item
attributed = item.Many the.Attribute ∷ kept a.GlobalOrConstant ∷ initialized

-- behind the name of a variable, what isn't an attribute: one that is external has no constant
abbrev pub own_variable : List Production
own_variable =
    keeps (a.Only (is.Linkage linkage.External)) (item.Many the.Attribute ∷ kept a.GlobalOrConstant ∷ item.One the.Type ∷ item.Many the.VariablePart ∷ [])
    ∷ keeps (a.Only (is.Linkage linkage.Internal)) attributed
    ∷ keeps (a.Only (is.Linkage linkage.Private)) attributed
    ∷ keeps a.GlobalOrConstant initialized
    ∷ []

abbrev pub variable : List Production
variable = own_variable ++ each_then attributed attribute

-- , align n, or an attachment
abbrev pub variable_part : List Production
variable_part = drops (a.Only is.Comma) (item.One the.VariableOption ∷ []) ∷ []

-- align n, or !name node
abbrev pub variable_option : List Production
variable_option =
    drops (a.Only is.Align) (power ∷ [])
    ∷ drops a.AnyMeta (item.One the.AttachedNode ∷ [])
    ∷ []

abbrev pub external : List Production
external = drops (a.Only (is.Linkage linkage.External)) [] ∷ []

abbrev pub linkage_word : List Production
linkage_word = keeps a.AnyLinkage [] ∷ []

-- @name ( parameters ) attributes; a name of debug information has any group
abbrev pub declared : List Production
declared =
    keeps a.DeclaredAt (open_paren ∷ item.One the.DeclaredParams ∷ item.Many the.Attribute ∷ [])
    ∷ keeps (a.Only (is.At at.Debug)) (item.One the.Group ∷ item.Many the.Attribute ∷ [])
    ∷ []

-- T attributes [%name], and more parameters of a declaration
abbrev pub declared_param : Production
declared_param = keeps a.AnyScalar (extended (item.May the.ParamName ∷ item.One the.MoreDeclared ∷ []))

-- ), or ... ), or a parameter and more of them
abbrev pub declared_params : List Production
declared_params =
    keeps (a.Only is.CloseParen) []
    ∷ keeps (a.Only is.Dots) (close_paren ∷ [])
    ∷ declared_param
    ∷ []

-- ), or a comma and more parameters
abbrev pub more_declared : List Production
more_declared =
    keeps (a.Only is.CloseParen) []
    ∷ drops (a.Only is.Comma) (item.One the.NextDeclared ∷ [])
    ∷ []

-- ... ), or a parameter and more of them
abbrev pub next_declared : List Production
next_declared =
    keeps (a.Only is.Dots) (close_paren ∷ [])
    ∷ declared_param
    ∷ []

-- T attributes [%name]
abbrev pub param : List Production
param = keeps a.AnyScalar (extended (item.May the.ParamName ∷ [])) ∷ []

abbrev pub param_name : List Production
param_name = keeps (a.Only is.Local) [] ∷ []
