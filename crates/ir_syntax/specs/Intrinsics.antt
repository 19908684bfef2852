-- The intrinsics of the subset: their names and types.
use Rattle.std.specs.Prelude.{ℕ, Bool, false, ◌||◌, List, [], ◌∷◌, Option, None, Some, codes, bytes_eq, if◌then◌else◌}
use Rattle.ir_types.specs.declared.scalar.Scalar.TheVariants.{I1, I8, I64, Ptr}
use Rattle.ir_types.specs.declared.scalar.FnType.{FnType}
use Rattle.ir_syntax.specs.declared.symbol.Intrinsic.{Intrinsic}
use Rattle.ir_syntax.specs.declared.symbol.Intrinsic.TheVariants.{Memcpy, Memmove, Memset}

abbrev pub intrinsic_name : Intrinsic → List ℕ
intrinsic_name Memcpy = codes "llvm.memcpy.p0.p0.i64"
intrinsic_name Memmove = codes "llvm.memmove.p0.p0.i64"
intrinsic_name Memset = codes "llvm.memset.p0.i64"

-- the intrinsic that has the name
abbrev pub intrinsic_named : List ℕ → Option Intrinsic
intrinsic_named name =
    if bytes_eq name (intrinsic_name Memcpy) then Some Memcpy
    else if bytes_eq name (intrinsic_name Memmove) then Some Memmove
    else if bytes_eq name (intrinsic_name Memset) then Some Memset
    else None

-- the intrinsics: they copy and fill memory
abbrev pub is_intrinsic : List ℕ → Bool
is_intrinsic name = bytes_eq name (codes "llvm.memcpy.p0.p0.i64") || bytes_eq name (codes "llvm.memmove.p0.p0.i64") || bytes_eq name (codes "llvm.memset.p0.i64")

-- copies take two pointers, a length and a flag; a fill takes a byte for the second pointer
abbrev pub intrinsic_type : List ℕ → FnType
intrinsic_type name = record {
  params = Ptr ∷ (if bytes_eq name (codes "llvm.memset.p0.i64") then I8 else Ptr) ∷ I64 ∷ I1 ∷ [];
  variadic = false;
  returns = None;
}

-- copies: `void (ptr, ptr, i64, i1)`; a fill: `void (ptr, i8, i64, i1)`
abbrev pub type_of_intrinsic : Intrinsic → FnType
type_of_intrinsic Memcpy = record { params = Ptr ∷ Ptr ∷ I64 ∷ I1 ∷ []; variadic = false; returns = None }
type_of_intrinsic Memmove = record { params = Ptr ∷ Ptr ∷ I64 ∷ I1 ∷ []; variadic = false; returns = None }
type_of_intrinsic Memset = record { params = Ptr ∷ I8 ∷ I64 ∷ I1 ∷ []; variadic = false; returns = None }
