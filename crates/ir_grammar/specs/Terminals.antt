-- Which tokens a terminal stands for.
use Rattle.std.specs.Prelude.{ℕ, ◌+◌, Bool, true, false, ◌&&◌, nat_eq}
use Rattle.ir_types.specs.declared.scalar.Scalar.{Scalar}
use Rattle.ir_types.specs.declared.scalar.Scalar.TheVariants as scalar
use Rattle.ir_types.specs.declared.scalar.BinOp.{BinOp}
use Rattle.ir_types.specs.declared.scalar.BinOp.TheVariants as op
use Rattle.ir_types.specs.declared.scalar.CastOp.{CastOp}
use Rattle.ir_types.specs.declared.scalar.CastOp.TheVariants as cast
use Rattle.ir_types.specs.declared.scalar.Pred.{Pred}
use Rattle.ir_types.specs.declared.scalar.Pred.TheVariants as pred
use Rattle.ir_types.specs.declared.scalar.Ext.{Ext}
use Rattle.ir_types.specs.declared.scalar.Ext.TheVariants as ext
use Rattle.ir_syntax.specs.declared.item.Linkage.{Linkage}
use Rattle.ir_syntax.specs.declared.item.Linkage.TheVariants as linkage
use Rattle.ir_grammar.specs.declared.shape.AtName.{AtName}
use Rattle.ir_grammar.specs.declared.shape.AtName.TheVariants as at
use Rattle.ir_grammar.specs.declared.shape.Digits.{Digits}
use Rattle.ir_grammar.specs.declared.shape.Digits.TheVariants as digits
use Rattle.ir_grammar.specs.declared.shape.Value.{Value}
use Rattle.ir_grammar.specs.declared.shape.Value.TheVariants as val
use Rattle.ir_grammar.specs.declared.shape.Flag.{Flag}
use Rattle.ir_grammar.specs.declared.shape.Flag.TheVariants as flag
use Rattle.ir_grammar.specs.declared.shape.Free.{Free}
use Rattle.ir_grammar.specs.declared.shape.Free.TheVariants as free
use Rattle.ir_grammar.specs.declared.shape.Shape.{Shape}
use Rattle.ir_grammar.specs.declared.shape.Shape.TheVariants as is
use Rattle.ir_grammar.specs.declared.grammar.Terminal.{Terminal}
use Rattle.ir_grammar.specs.declared.grammar.Terminal.TheVariants as a

-- ---- a number for each shape: two shapes are the same where both numbers of theirs are

abbrev pub at_code : AtName → ℕ
at_code at.Plain = 0
at_code at.Memory = 1
at_code at.Debug = 2
at_code at.Other = 3

abbrev pub digits_code : Digits → ℕ
digits_code digits.Power = 0
digits_code digits.Count = 1
digits_code digits.Other = 2

abbrev pub value_code : Value → ℕ
value_code val.True = 0
value_code val.False = 1
value_code val.Null = 2
value_code val.Undef = 3
value_code val.Poison = 4
value_code val.Zero = 5

abbrev pub flag_code : Flag → ℕ
flag_code flag.Nuw = 0
flag_code flag.Nsw = 1
flag_code flag.Exact = 2
flag_code flag.Disjoint = 3
flag_code flag.Nneg = 4
flag_code flag.Inbounds = 5
flag_code flag.Nusw = 6

abbrev pub pred_code : Pred → ℕ
pred_code pred.Eq = 0
pred_code pred.Ne = 1
pred_code pred.Ugt = 2
pred_code pred.Uge = 3
pred_code pred.Ult = 4
pred_code pred.Ule = 5
pred_code pred.Sgt = 6
pred_code pred.Sge = 7
pred_code pred.Slt = 8
pred_code pred.Sle = 9

abbrev pub scalar_code : Scalar → ℕ
scalar_code scalar.I1 = 0
scalar_code scalar.I8 = 1
scalar_code scalar.I16 = 2
scalar_code scalar.I32 = 3
scalar_code scalar.I64 = 4
scalar_code scalar.Ptr = 5

abbrev pub linkage_code : Linkage → ℕ
linkage_code linkage.External = 0
linkage_code linkage.Internal = 1
linkage_code linkage.Private = 2

abbrev pub ext_code : Ext → ℕ
ext_code ext.Plain = 0
ext_code ext.Signed = 1
ext_code ext.Unsigned = 2

abbrev pub bin_code : BinOp → ℕ
bin_code op.Add = 0
bin_code op.Sub = 1
bin_code op.Mul = 2
bin_code op.Udiv = 3
bin_code op.Sdiv = 4
bin_code op.Urem = 5
bin_code op.Srem = 6
bin_code op.Shl = 7
bin_code op.Lshr = 8
bin_code op.Ashr = 9
bin_code op.And = 10
bin_code op.Or = 11
bin_code op.Xor = 12

abbrev pub cast_code : CastOp → ℕ
cast_code cast.Zext = 0
cast_code cast.Sext = 1
cast_code cast.Trunc = 2

abbrev pub free_code : Free → ℕ
free_code (free.Flag name) = flag_code name
free_code (free.Pred name) = 10 + pred_code name
free_code free.Datalayout = 30
free_code free.Triple = 31
free_code free.Other = 32

-- what kind of token it is
abbrev pub kind_code : Shape → ℕ
kind_code (is.At _) = 0
kind_code is.Local = 1
kind_code is.Hash = 2
kind_code is.Record = 3
kind_code is.Bang = 4
kind_code is.Meta = 5
kind_code is.Str = 6
kind_code is.CStr = 7
kind_code is.Label = 8
kind_code (is.Int _) = 9
kind_code is.Equals = 10
kind_code is.Comma = 11
kind_code is.OpenParen = 12
kind_code is.CloseParen = 13
kind_code is.OpenSquare = 14
kind_code is.CloseSquare = 15
kind_code is.OpenBrace = 16
kind_code is.CloseBrace = 17
kind_code is.OtherMark = 18
kind_code (is.Scalar _) = 19
kind_code is.Void = 20
kind_code (is.Linkage _) = 21
kind_code (is.Ext _) = 22
kind_code (is.Value _) = 23
kind_code (is.Bin _) = 24
kind_code (is.Cast _) = 25
kind_code is.Icmp = 26
kind_code is.Select = 27
kind_code is.Phi = 28
kind_code is.Alloca = 29
kind_code is.Load = 30
kind_code is.Store = 31
kind_code is.Gep = 32
kind_code is.Call = 33
kind_code is.Ret = 34
kind_code is.Br = 35
kind_code is.Switch = 36
kind_code is.Unreachable = 37
kind_code is.Tail = 38
kind_code is.To = 39
kind_code is.LabelWord = 40
kind_code is.X = 41
kind_code is.Dots = 42
kind_code is.Global = 43
kind_code is.ConstantWord = 44
kind_code is.Declare = 45
kind_code is.Define = 46
kind_code is.TypeWord = 47
kind_code is.Opaque = 48
kind_code is.Target = 49
kind_code is.SourceFilename = 50
kind_code is.AttributesWord = 51
kind_code is.Distinct = 52
kind_code is.Align = 53
kind_code (is.Free _) = 54
kind_code is.Reserved = 55
kind_code is.End = 56
kind_code is.Result = 57
kind_code is.Address = 58
kind_code (is.Returned _) = 59

-- and which of its kind
abbrev pub inner_code : Shape → ℕ
inner_code (is.At name) = at_code name
inner_code (is.Int number) = digits_code number
inner_code (is.Scalar ty) = scalar_code ty
inner_code (is.Linkage linked) = linkage_code linked
inner_code (is.Ext extension) = ext_code extension
inner_code (is.Value value) = value_code value
inner_code (is.Bin name) = bin_code name
inner_code (is.Cast name) = cast_code name
inner_code (is.Free word) = free_code word
inner_code (is.Returned ty) = scalar_code ty
inner_code _ = 0

abbrev pub is_same : Shape → Shape → Bool
is_same one other = nat_eq (kind_code one) (kind_code other) && nat_eq (inner_code one) (inner_code other)

-- ---- sets of tokens

abbrev pub is_at : Shape → Bool
is_at (is.At name) = true
is_at _ = false

abbrev pub is_called_at : Shape → Bool
is_called_at (is.At at.Plain) = true
is_called_at (is.At at.Memory) = true
is_called_at (is.At at.Other) = true
is_called_at _ = false

abbrev pub is_declared_at : Shape → Bool
is_declared_at (is.At at.Plain) = true
is_declared_at (is.At at.Memory) = true
is_declared_at _ = false

abbrev pub is_hash : Shape → Bool
is_hash is.Hash = true
is_hash is.Record = true
is_hash _ = false

abbrev pub is_meta : Shape → Bool
is_meta is.Bang = true
is_meta is.Meta = true
is_meta _ = false

abbrev pub is_int : Shape → Bool
is_int (is.Int number) = true
is_int _ = false

abbrev pub is_count : Shape → Bool
is_count (is.Int digits.Power) = true
is_count (is.Int digits.Count) = true
is_count _ = false

abbrev pub is_scalar : Shape → Bool
is_scalar (is.Scalar ty) = true
is_scalar _ = false

abbrev pub is_integer : Shape → Bool
is_integer (is.Scalar scalar.I1) = true
is_integer (is.Scalar scalar.I8) = true
is_integer (is.Scalar scalar.I16) = true
is_integer (is.Scalar scalar.I32) = true
is_integer (is.Scalar scalar.I64) = true
is_integer _ = false

abbrev pub is_void_or_scalar : Shape → Bool
is_void_or_scalar is.Void = true
is_void_or_scalar (is.Scalar ty) = true
is_void_or_scalar _ = false

abbrev pub is_linkage : Shape → Bool
is_linkage (is.Linkage linked) = true
is_linkage _ = false

abbrev pub is_ext : Shape → Bool
is_ext (is.Ext extension) = true
is_ext _ = false

abbrev pub is_value : Shape → Bool
is_value (is.Value value) = true
is_value _ = false

abbrev pub is_pred : Shape → Bool
is_pred (is.Free (free.Pred name)) = true
is_pred _ = false

abbrev pub is_global_or_constant : Shape → Bool
is_global_or_constant is.Global = true
is_global_or_constant is.ConstantWord = true
is_global_or_constant _ = false

abbrev pub is_free : Shape → Bool
is_free (is.Free word) = true
is_free _ = false

abbrev pub is_no_parenthesis : Shape → Bool
is_no_parenthesis is.OpenParen = false
is_no_parenthesis is.CloseParen = false
is_no_parenthesis _ = true

abbrev pub is_no_brace : Shape → Bool
is_no_brace is.OpenBrace = false
is_no_brace is.CloseBrace = false
is_no_brace _ = true

-- whether the terminal stands for a token of the shape
abbrev pub stands_for : Terminal → Shape → Bool
stands_for (a.Only shape) other = is_same shape other
stands_for a.AnyAt shape = is_at shape
stands_for a.CalledAt shape = is_called_at shape
stands_for a.DeclaredAt shape = is_declared_at shape
stands_for a.AnyHash shape = is_hash shape
stands_for a.AnyMeta shape = is_meta shape
stands_for a.AnyInt shape = is_int shape
stands_for a.CountInt shape = is_count shape
stands_for a.AnyScalar shape = is_scalar shape
stands_for a.IntegerScalar shape = is_integer shape
stands_for a.VoidOrScalar shape = is_void_or_scalar shape
stands_for a.AnyLinkage shape = is_linkage shape
stands_for a.AnyExt shape = is_ext shape
stands_for a.AnyValue shape = is_value shape
stands_for a.AnyPred shape = is_pred shape
stands_for a.GlobalOrConstant shape = is_global_or_constant shape
stands_for a.FreeWord shape = is_free shape
stands_for a.NoParenthesis shape = is_no_parenthesis shape
stands_for a.NoBrace shape = is_no_brace shape
