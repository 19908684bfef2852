-- The types of functions.
use Rattle.std.specs.Prelude.{Option, None, Some, map}
use Rattle.ir_types.specs.declared.scalar.FnType.{FnType}
use Rattle.ir_syntax.specs.declared.item.Func.{Func}
use Rattle.ir_syntax.specs.declared.item.Item.{Item}
use Rattle.ir_syntax.specs.declared.item.Item.TheVariants as item

abbrev pub type_of : Func → FnType
type_of func = record { params = map (λ param. param.ty) func.params; variadic = func.variadic; returns = func.returns }

abbrev pub function_type : Option Item → Option FnType
function_type None = None
function_type (Some (item.Var var)) = None
function_type (Some (item.Func func)) = Some (type_of func)
