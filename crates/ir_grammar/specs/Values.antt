-- Instructions that have a result, other than phis.
-- LLVM Language Reference Manual: "Binary Operations", "Bitwise Binary Operations", "Memory Access and Addressing
-- Operations", "Conversion Operations", "Other Operations".
use Rattle.std.specs.Prelude.{List, [], ◌∷◌, ◌++◌, map, None}
use Rattle.ir_types.specs.declared.scalar.Scalar.{Scalar}
use Rattle.ir_types.specs.declared.scalar.BinOp.{BinOp}
use Rattle.ir_grammar.specs.declared.grammar.Item.{Item}
use Rattle.ir_types.specs.declared.scalar.Scalar.TheVariants as scalar
use Rattle.ir_types.specs.declared.scalar.BinOp.TheVariants as op
use Rattle.ir_types.specs.declared.scalar.CastOp.TheVariants as cast
use Rattle.ir_grammar.specs.declared.shape.Flag.TheVariants as is_a
use Rattle.ir_grammar.specs.declared.shape.Shape.TheVariants as is
use Rattle.ir_grammar.specs.declared.grammar.Terminal.TheVariants as a
use Rattle.ir_grammar.specs.declared.grammar.Name.TheVariants as the
use Rattle.ir_grammar.specs.declared.grammar.Item.TheVariants as item
use Rattle.ir_grammar.specs.Items.{Production, keeps, drops, kept, dropped, comma, ptr, a_scalar, power, flag, flags, attachments, scalars}
use Rattle.ir_grammar.specs.Constants.{address_flags}

-- T a, b attachments
abbrev pub two_operands : List Item
two_operands = a_scalar ∷ item.One the.Operand ∷ comma ∷ item.One the.Operand ∷ attachments

-- op [nuw] [nsw] T a, b
abbrev pub wrapping : BinOp → Production
wrapping name = keeps (a.Only (is.Bin name)) (flags (flag is_a.Nuw) (flag is_a.Nsw) None ∷ two_operands)

-- op [exact] T a, b
abbrev pub exact : BinOp → Production
exact name = keeps (a.Only (is.Bin name)) (flags (flag is_a.Exact) None None ∷ two_operands)

-- op T a, b
abbrev pub plain : BinOp → Production
plain name = keeps (a.Only (is.Bin name)) two_operands

abbrev pub arithmetic : List Production
arithmetic =
    wrapping op.Add ∷ wrapping op.Sub ∷ wrapping op.Mul ∷ wrapping op.Shl
    ∷ exact op.Udiv ∷ exact op.Sdiv ∷ exact op.Lshr ∷ exact op.Ashr
    ∷ plain op.Urem ∷ plain op.Srem ∷ plain op.And ∷ plain op.Xor
    ∷ keeps (a.Only (is.Bin op.Or)) (flags (flag is_a.Disjoint) None None ∷ two_operands)
    ∷ []

-- T a to U attachments
abbrev pub converted : List Item
converted = a_scalar ∷ item.One the.Operand ∷ dropped is.To ∷ a_scalar ∷ attachments

abbrev pub other_value : List Production
other_value =
    -- icmp pred T a, b
    keeps (a.Only is.Icmp) (kept a.AnyPred ∷ two_operands)
    -- select i1 c, T a, T b
    ∷ keeps (a.Only is.Select) (dropped (is.Scalar scalar.I1) ∷ item.One the.Operand ∷ comma ∷ item.One the.SelectArms ∷ attachments)
    -- zext [nneg] T a to U, sext T a to U, trunc T a to U
    ∷ keeps (a.Only (is.Cast cast.Zext)) (flags (flag is_a.Nneg) None None ∷ converted)
    ∷ keeps (a.Only (is.Cast cast.Sext)) converted
    ∷ keeps (a.Only (is.Cast cast.Trunc)) converted
    -- alloca T [, iN n] [, align n] attachments
    ∷ keeps (a.Only is.Alloca) (item.One the.Type ∷ item.May the.AllocaPart ∷ [])
    -- load T, ptr p [, align n] attachments
    ∷ keeps (a.Only is.Load) (a_scalar ∷ comma ∷ ptr ∷ item.One the.Operand ∷ item.May the.AlignPart ∷ [])
    -- getelementptr flags T, ptr p [, iN i] attachments
    ∷ keeps (a.Only is.Gep) (address_flags ∷ item.One the.Type ∷ comma ∷ ptr ∷ item.One the.Operand ∷ item.May the.IndexPart ∷ [])
    ∷ []

abbrev pub value : List Production
value = arithmetic ++ other_value

-- T a, T b, with one type
abbrev pub arms_of : Scalar → Production
arms_of ty = keeps (a.Only (is.Scalar ty)) (item.One the.Operand ∷ comma ∷ dropped (is.Scalar ty) ∷ item.One the.Operand ∷ [])

abbrev pub select_arms : List Production
select_arms = map arms_of scalars

-- , and a count, an alignment or an attachment
abbrev pub alloca_part : List Production
alloca_part = drops (a.Only is.Comma) (item.One the.AllocaOption ∷ []) ∷ []

-- iN n [, align n] attachments, or align n attachments, or !name node attachments
abbrev pub alloca_option : List Production
alloca_option =
    keeps a.IntegerScalar (item.One the.Number ∷ item.May the.AlignPart ∷ [])
    ∷ drops (a.Only is.Align) (power ∷ attachments)
    ∷ drops a.AnyMeta (item.One the.AttachedNode ∷ attachments)
    ∷ []

-- , and an index or an attachment
abbrev pub index_part : List Production
index_part = drops (a.Only is.Comma) (item.One the.IndexOrAttachment ∷ []) ∷ []

-- iN i, and more of them, or !name node attachments
abbrev pub index_or_attachment : List Production
index_or_attachment =
    keeps a.IntegerScalar (item.One the.Operand ∷ item.May the.IndexPart ∷ [])
    ∷ drops a.AnyMeta (item.One the.AttachedNode ∷ attachments)
    ∷ []
