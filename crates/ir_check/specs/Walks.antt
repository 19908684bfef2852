-- The part of a type that an index enters.
use Rattle.std.specs.Prelude.{List, Option, None, Some}
use Rattle.ir_types.specs.declared.scalar.Scalar.{Scalar}
use Rattle.ir_types.specs.declared.scalar.Scalar.TheVariants.{I1, I8, I16, I32, I64, Ptr}
use Rattle.ir_types.specs.declared.shape.Ty.{Ty, out-Ty}
use Rattle.ir_types.specs.declared.shape.Ty.TheOpen.{Ty-F}
use Rattle.ir_syntax.specs.declared.constant.Operand.{Operand}
use Rattle.ir_syntax.specs.Typed.{number_of, field_at}

-- a struct's field is named by an index of i32
abbrev pub field_by : List Ty → Scalar → Operand → Option Ty
field_by fields I32 operand = field_at fields (number_of operand)
field_by fields I1 operand = None
field_by fields I8 operand = None
field_by fields I16 operand = None
field_by fields I64 operand = None
field_by fields Ptr operand = None

abbrev pub part_in : Ty-F Ty → Scalar × Operand → Option Ty
part_in (Ty-F.One scalar) index = None
part_in (Ty-F.Array count element) index = Some element
part_in (Ty-F.Struct fields) index = field_by fields index.0 index.1

unfoldable pub part : Ty → Scalar × Operand → Option Ty
part ty index = part_in (out-Ty ty) index
