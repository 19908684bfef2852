-- Bodies, blocks, phis and terminators.
-- LLVM Language Reference Manual: "Functions", "'phi' Instruction", "'store' Instruction", "Terminator Instructions".
use Rattle.std.specs.Prelude.{Bool, true, false, List, [], ◌∷◌, ◌++◌, map}
use Rattle.ir_types.specs.declared.scalar.Scalar.{Scalar}
use Rattle.ir_types.specs.declared.scalar.Scalar.TheVariants as scalar
use Rattle.ir_grammar.specs.declared.shape.Shape.TheVariants as is
use Rattle.ir_grammar.specs.declared.grammar.Terminal.TheVariants as a
use Rattle.ir_grammar.specs.declared.grammar.Keep.TheVariants as keep
use Rattle.ir_grammar.specs.declared.grammar.Name.TheVariants as the
use Rattle.ir_grammar.specs.declared.grammar.Item.TheVariants as item
use Rattle.ir_grammar.specs.Items.{Production, keeps, drops, keeps_as, kept, each_then, comma, equals, open_square, close_square, ptr, label, a_scalar, a_local, extended, attachments, scalars}
use Rattle.ir_grammar.specs.Values.{value}
use Rattle.ir_grammar.specs.Calls.{named_call}

-- { [label] lines blocks }
abbrev pub body : List Production
body = keeps (a.Only is.OpenBrace) (item.May the.Label ∷ item.One (the.Lines true) ∷ item.Many the.Block ∷ kept (a.Only is.CloseBrace) ∷ []) ∷ []

-- label lines
abbrev pub block : List Production
block = keeps (a.Only is.Label) (item.One (the.Lines true) ∷ []) ∷ []

abbrev pub label_alone : List Production
label_alone = keeps (a.Only is.Label) [] ∷ []

-- phi T [ a, %l ], [ b, %m ] attachments, behind which phis may still come
abbrev pub phi_alone : List Production
phi_alone = keeps (a.Only is.Phi) (a_scalar ∷ kept (a.Only is.OpenSquare) ∷ item.One the.Operand ∷ comma ∷ a_local ∷ close_square ∷ item.May the.EntryPart ∷ item.One (the.Lines true) ∷ []) ∷ []

abbrev pub phis_where : Bool → List Production
phis_where true = phi_alone
phis_where false = []

-- , and an entry or an attachment
abbrev pub entry_part : List Production
entry_part = drops (a.Only is.Comma) (item.One the.EntryOrAttachment ∷ []) ∷ []

-- [ a, %l ], and more of them, or !name node attachments
abbrev pub entry_or_attachment : List Production
entry_or_attachment =
    keeps (a.Only is.OpenSquare) (item.One the.Operand ∷ comma ∷ a_local ∷ close_square ∷ item.May the.EntryPart ∷ [])
    ∷ drops a.AnyMeta (item.One the.AttachedNode ∷ attachments)
    ∷ []

abbrev pub terminators : List Production
terminators =
    -- ret void, or ret T a
    keeps (a.Only is.Ret) (item.One the.ReturnValue ∷ attachments)
    -- br label %l, or br i1 c, label %l, label %m
    ∷ keeps (a.Only is.Br) (item.One the.Branch ∷ attachments)
    -- switch T v, label %d [ cases ]
    ∷ keeps (a.Only is.Switch) (item.One the.SwitchType ∷ attachments)
    ∷ keeps (a.Only is.Unreachable) attachments
    ∷ []

-- lines other than instructions that have a result and terminators
abbrev pub own_lines : Bool → List Production
own_lines phis =
    -- %name = instruction
    keeps_as keep.AsResult (a.Only is.Local) (equals ∷ item.One (the.NamedLine phis) ∷ [])
    -- #dbg_name group
    ∷ drops (a.Only is.Record) (item.One the.Group ∷ item.One (the.Lines phis) ∷ [])
    -- store T a, ptr p [, align n] attachments
    ∷ keeps (a.Only is.Store) (a_scalar ∷ item.One the.Operand ∷ comma ∷ ptr ∷ item.One the.Operand ∷ item.May the.AlignPart ∷ item.One (the.Lines false) ∷ [])
    -- [tail] call attributes ..
    ∷ keeps (a.Only is.Call) (extended (item.One (the.Called phis) ∷ []))
    ∷ drops (a.Only is.Tail) (kept (a.Only is.Call) ∷ extended (item.One (the.Called phis) ∷ []))
    ∷ []

-- The lines of a block: phis, then other instructions, then a terminator, and debug records and calls that are dropped
-- between them.
abbrev pub lines : Bool → List Production
lines phis = own_lines phis ++ (phis_where phis ++ (terminators ++ each_then (item.One (the.Lines false) ∷ []) value))

-- an instruction with a name, and the lines behind it
abbrev pub named_line : Bool → List Production
named_line phis = phis_where phis ++ each_then (item.One (the.Lines false) ∷ []) (named_call ++ value)

-- void, or T a
abbrev pub return_value : List Production
return_value = keeps (a.Only is.Void) [] ∷ keeps a.AnyScalar (item.One the.Operand ∷ []) ∷ []

-- label %l, or i1 c, label %l, label %m
abbrev pub branch : List Production
branch =
    drops (a.Only is.LabelWord) (a_local ∷ [])
    ∷ keeps (a.Only (is.Scalar scalar.I1)) (item.One the.Operand ∷ comma ∷ label ∷ a_local ∷ comma ∷ label ∷ a_local ∷ [])
    ∷ []

-- T v, label %d [ cases ]
abbrev pub switch_of : Scalar → Production
switch_of ty = keeps (a.Only (is.Scalar ty)) (item.One the.Operand ∷ comma ∷ label ∷ a_local ∷ open_square ∷ item.Many (the.Case ty) ∷ kept (a.Only is.CloseSquare) ∷ [])

abbrev pub switch_type : List Production
switch_type = map switch_of scalars

-- T n, label %l
abbrev pub case : Scalar → List Production
case ty = drops (a.Only (is.Scalar ty)) (item.One the.Number ∷ comma ∷ label ∷ a_local ∷ []) ∷ []
