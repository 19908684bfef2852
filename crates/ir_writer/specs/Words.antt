-- Words, marks and lists of parts as they are written.
use Rattle.std.specs.Prelude.{ℕ, Bool, true, false, codes, List, [], ◌∷◌, ◌++◌, flat_map, Option, Some, None}
use Rattle.ir_lexer.specs.declared.token.Kind.TheVariants as kind
use Rattle.ir_lexer.specs.Written.{Part, Space, Spelling}
use Rattle.ir_types.specs.declared.scalar.Scalar.{Scalar}
use Rattle.ir_types.specs.declared.scalar.Scalar.TheVariants.{I1, I8, I16, I32, I64, Ptr}
use Rattle.ir_types.specs.declared.scalar.Ext.{Ext}
use Rattle.ir_types.specs.declared.scalar.Ext.TheVariants.{Plain, Signed, Unsigned}
use Rattle.ir_types.specs.declared.scalar.BinOp.{BinOp}
use Rattle.ir_types.specs.declared.scalar.BinOp.TheVariants as op
use Rattle.ir_types.specs.declared.scalar.CastOp.{CastOp}
use Rattle.ir_types.specs.declared.scalar.CastOp.TheVariants as cast
use Rattle.ir_types.specs.declared.scalar.Pred.{Pred}
use Rattle.ir_types.specs.declared.scalar.Pred.TheVariants as pred
use Rattle.ir_syntax.specs.declared.item.Linkage.{Linkage}
use Rattle.ir_syntax.specs.declared.item.Linkage.TheVariants as linkage

-- what is written: blanks and tokens, one after another
abbrev pub Parts : Type 0
Parts = List Part

abbrev pub space : Part
space = Space 32

abbrev pub line_end : Part
line_end = Space 10

abbrev pub word : List ℕ → Part
word text = Spelling kind.Word text

abbrev pub mark : ℕ → Part
mark byte = Spelling kind.Mark (byte ∷ [])

abbrev pub comma : Part
comma = mark 44

abbrev pub equals : Part
equals = mark 61

abbrev pub open_paren : Part
open_paren = mark 40

abbrev pub close_paren : Part
close_paren = mark 41

abbrev pub open_square : Part
open_square = mark 91

abbrev pub close_square : Part
close_square = mark 93

abbrev pub open_brace : Part
open_brace = mark 123

abbrev pub close_brace : Part
close_brace = mark 125

-- each part behind a comma and a blank
abbrev pub more : List Parts → Parts
more lists = flat_map (λ parts. comma ∷ space ∷ parts) lists

-- lists with a comma and a blank between them
abbrev pub listed : List Parts → Parts
listed [] = []
listed (parts ∷ lists) = parts ++ more lists

-- ---- words

abbrev pub scalar_text : Scalar → List ℕ
scalar_text I1 = codes "i1"
scalar_text I8 = codes "i8"
scalar_text I16 = codes "i16"
scalar_text I32 = codes "i32"
scalar_text I64 = codes "i64"
scalar_text Ptr = codes "ptr"

abbrev pub scalar : Scalar → Part
scalar ty = word (scalar_text ty)

abbrev pub returned : Option Scalar → Part
returned None = word (codes "void")
returned (Some ty) = scalar ty

abbrev pub op_text : BinOp → List ℕ
op_text op.Add = codes "add"
op_text op.Sub = codes "sub"
op_text op.Mul = codes "mul"
op_text op.Udiv = codes "udiv"
op_text op.Sdiv = codes "sdiv"
op_text op.Urem = codes "urem"
op_text op.Srem = codes "srem"
op_text op.Shl = codes "shl"
op_text op.Lshr = codes "lshr"
op_text op.Ashr = codes "ashr"
op_text op.And = codes "and"
op_text op.Or = codes "or"
op_text op.Xor = codes "xor"

abbrev pub cast_text : CastOp → List ℕ
cast_text cast.Zext = codes "zext"
cast_text cast.Sext = codes "sext"
cast_text cast.Trunc = codes "trunc"

abbrev pub pred_text : Pred → List ℕ
pred_text pred.Eq = codes "eq"
pred_text pred.Ne = codes "ne"
pred_text pred.Ugt = codes "ugt"
pred_text pred.Uge = codes "uge"
pred_text pred.Ult = codes "ult"
pred_text pred.Ule = codes "ule"
pred_text pred.Sgt = codes "sgt"
pred_text pred.Sge = codes "sge"
pred_text pred.Slt = codes "slt"
pred_text pred.Sle = codes "sle"

-- a word and a blank, where it is said
abbrev pub said : Bool → List ℕ → Parts
said false text = []
said true text = word text ∷ space ∷ []

abbrev pub linkage_parts : Linkage → Parts
linkage_parts linkage.External = []
linkage_parts linkage.Internal = word (codes "internal") ∷ space ∷ []
linkage_parts linkage.Private = word (codes "private") ∷ space ∷ []

-- before a return type
abbrev pub ext_before : Ext → Parts
ext_before Plain = []
ext_before Signed = word (codes "signext") ∷ space ∷ []
ext_before Unsigned = word (codes "zeroext") ∷ space ∷ []

-- and behind the type of a parameter or an argument
abbrev pub ext_behind : Ext → Parts
ext_behind Plain = []
ext_behind Signed = space ∷ word (codes "signext") ∷ []
ext_behind Unsigned = space ∷ word (codes "zeroext") ∷ []
