-- Walks into a type, index by index.
use Rattle.std.specs.Prelude.{◌+◌, ◌<◌, pos, negsuc, List, [], ◌∷◌, take, Option, None, Some, IsSome, IsNone, length, slice_get, option_and_then, ℕ, ⊤}
use Rattle.std.specs.Option.{option_map}
use Rattle.ir_types.specs.declared.shape.Ty.{Ty, out-Ty}
use Rattle.ir_types.specs.declared.shape.Ty.TheOpen.{Ty-F}
use Rattle.ir_types.specs.declared.shape.Index.{Index}
use Rattle.ir_types.specs.declared.shape.Index.TheVariants.{Num, Register}
use Rattle.ir_types.specs.declared.shape.Stride.{Stride}
use Rattle.ir_types.specs.declared.shape.Stride.TheVariants.{Each, Field}
use Rattle.ir_types.specs.declared.shape.WalkFault.{WalkFault}
use Rattle.ir_types.specs.declared.shape.WalkFault.TheVariants as fault
use Rattle.ir_types.specs.Layout.{size, offset_of, IsTooWide}

-- the place that an index names, where it is a number from 0 on
abbrev pub place : Index → Option ℕ
place (Num (pos k)) = Some k
place (Num (negsuc k)) = None
place Register = None

-- the part that an index enters: any index enters an array's element, and a number that field of a struct
abbrev pub part_in : Ty-F Ty → Index → Option Ty
part_in (Ty-F.One scalar) index = None
part_in (Ty-F.Array count element) index = Some element
part_in (Ty-F.Struct fields) index = option_and_then (slice_get fields) (place index)

unfoldable pub part : Ty → Index → Option Ty
part ty index = part_in (out-Ty ty) index

-- what that index adds: an array steps by its element's size, and a struct by the field's offset
abbrev pub stride_in : Ty → Ty-F Ty → Index → Option Stride
stride_in ty (Ty-F.One scalar) index = None
stride_in ty (Ty-F.Array count element) index = Some (Each (size element))
stride_in ty (Ty-F.Struct fields) index = option_map Field (option_and_then (offset_of ty) (place index))

unfoldable pub stride : Ty → Index → Option Stride
stride ty index = stride_in ty (out-Ty ty) index

-- what indices add, each within the part that the one before it entered
abbrev pub strides_within : Ty → List Index → Option (List Stride)
strides_within ty [] = Some []
strides_within ty (index ∷ more) =
    option_and_then (λ here. option_and_then (λ inner. option_map (λ rest. here ∷ rest) (strides_within inner more)) (part ty index)) (stride ty index)

-- The first index steps over whole values of the type.
abbrev pub strides : Ty → List Index → Option (List Stride)
strides ty [] = Some []
strides ty (index ∷ more) = option_map (λ rest. Each (size ty) ∷ rest) (strides_within ty more)

-- The first index that goes nowhere: those before it go somewhere, and with it they don't.
pub record IsFirstLost (walk : List Index → Option (List Stride)) (indices : List Index) (at : ℕ) : Type 0 where
  pub within : at < length indices
  pub before : IsSome (walk (take at indices))
  pub here : IsNone (walk (take (at + 1) indices))

-- Why a walk fails. Want of memory has no cause.
abbrev pub IsCause : Ty → List Index → WalkFault → Type 0
IsCause ty indices (fault.NoSuch at) = IsFirstLost (strides ty) indices at
IsCause ty indices fault.TooWide = IsTooWide ty × IsSome (strides ty indices)
IsCause ty indices fault.OutOfMemory = ⊤

-- The same once each index is known to go somewhere.
abbrev pub IsWideOrNoMemory : Ty → WalkFault → Type 0
IsWideOrNoMemory ty (fault.NoSuch at) = ⊥
IsWideOrNoMemory ty fault.TooWide = IsTooWide ty
IsWideOrNoMemory ty fault.OutOfMemory = ⊤
