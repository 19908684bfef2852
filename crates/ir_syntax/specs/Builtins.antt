-- The functions that every program may call without defining them: their names and types.
use Rattle.std.specs.Prelude.{ℕ, false, List, [], ◌∷◌, Option, None, Some, codes, bytes_eq, if◌then◌else◌}
use Rattle.ir_types.specs.declared.scalar.Scalar.TheVariants.{I32, I64, Ptr}
use Rattle.ir_types.specs.declared.scalar.FnType.{FnType}
use Rattle.ir_syntax.specs.declared.symbol.Builtin.{Builtin}
use Rattle.ir_syntax.specs.declared.symbol.Builtin.TheVariants.{Malloc, Calloc, Free, Exit, Abort}

abbrev pub builtin_name : Builtin → List ℕ
builtin_name Malloc = codes "malloc"
builtin_name Calloc = codes "calloc"
builtin_name Free = codes "free"
builtin_name Exit = codes "exit"
builtin_name Abort = codes "abort"

-- the function that has the name
abbrev pub builtin_named : List ℕ → Option Builtin
builtin_named name =
    if bytes_eq name (builtin_name Malloc) then Some Malloc
    else if bytes_eq name (builtin_name Calloc) then Some Calloc
    else if bytes_eq name (builtin_name Free) then Some Free
    else if bytes_eq name (builtin_name Exit) then Some Exit
    else if bytes_eq name (builtin_name Abort) then Some Abort
    else None

-- `ptr (i64)`, `ptr (i64, i64)`, `void (ptr)`, `void (i32)` and `void ()`
abbrev pub type_of_builtin : Builtin → FnType
type_of_builtin Malloc = record { params = I64 ∷ []; variadic = false; returns = Some Ptr }
type_of_builtin Calloc = record { params = I64 ∷ I64 ∷ []; variadic = false; returns = Some Ptr }
type_of_builtin Free = record { params = Ptr ∷ []; variadic = false; returns = None }
type_of_builtin Exit = record { params = I32 ∷ []; variadic = false; returns = None }
type_of_builtin Abort = record { params = []; variadic = false; returns = None }
