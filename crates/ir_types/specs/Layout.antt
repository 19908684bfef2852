-- Sizes, alignments and offsets in bytes. They are whole numbers without a bound.
use Rattle.std.specs.Prelude.{ℕ, ◌+◌, ◌-◌, ◌*◌, ◌%◌, ◌^◌, ◌≤◌, List, [], ◌∷◌, Option, map, max, slice_get, ⊤}
use Rattle.ir_types.specs.declared.scalar.Scalar.{Scalar}
use Rattle.ir_types.specs.declared.scalar.Scalar.TheVariants.{I1, I8, I16, I32, I64, Ptr}
use Rattle.ir_types.specs.declared.shape.Ty.{Ty, out-Ty}
use Rattle.ir_types.specs.declared.shape.Ty.TheOpen.{Ty-F}
use Rattle.ir_types.specs.declared.shape.Ty.TheFolds.{fold-Ty}
use Rattle.ir_types.specs.declared.layouts.LayoutFault.{LayoutFault}
use Rattle.ir_types.specs.declared.layouts.LayoutFault.TheVariants as fault

-- a scalar's size, which is its alignment too
abbrev pub scalar_size : Scalar → ℕ
scalar_size I1 = 1
scalar_size I8 = 1
scalar_size I16 = 2
scalar_size I32 = 4
scalar_size I64 = 8
scalar_size Ptr = 8

-- the next multiple of an alignment, from an offset on
unfoldable pub round_up : ℕ → ℕ → ℕ
round_up offset align = offset + (align - offset % align) % align

-- What a type takes: its size, its alignment, and the greatest size among itself and its parts.
pub record Extent : Type 0 where
  pub size : ℕ
  pub align : ℕ
  pub widest : ℕ

-- the greatest alignment, 1 without fields
abbrev pub greatest_align : List Extent → ℕ
greatest_align [] = 1
greatest_align (f ∷ fs) = max f.align (greatest_align fs)

abbrev pub greatest_width : List Extent → ℕ
greatest_width [] = 0
greatest_width (f ∷ fs) = max f.widest (greatest_width fs)

-- Fields that lie from an offset on, each at the next multiple of its own alignment: their offsets,
abbrev pub offsets_from : ℕ → List Extent → List ℕ
offsets_from at [] = []
offsets_from at (f ∷ fs) = round_up at f.align ∷ offsets_from (round_up at f.align + f.size) fs

-- and the offset after the last.
abbrev pub end_from : ℕ → List Extent → ℕ
end_from at [] = at
end_from at (f ∷ fs) = end_from (round_up at f.align + f.size) fs

-- A struct's size is the end of its fields, rounded up to its alignment.
abbrev pub struct_size : List Extent → ℕ
struct_size fields = round_up (end_from 0 fields) (greatest_align fields)

-- the greatest size among a struct and its parts
abbrev pub struct_width : List Extent → ℕ
struct_width fields = max (struct_size fields) (greatest_width fields)

abbrev pub extent_step : Ty-F Extent → Extent
extent_step (Ty-F.One scalar) = record { size = scalar_size scalar; align = scalar_size scalar; widest = scalar_size scalar }
extent_step (Ty-F.Array count element) = record { size = count * element.size; align = element.align; widest = max (count * element.size) element.widest }
extent_step (Ty-F.Struct fields) = record { size = struct_size fields; align = greatest_align fields; widest = struct_width fields }

unfoldable pub extent : Ty → Extent
extent = fold-Ty Extent extent_step

abbrev pub size : Ty → ℕ
size ty = (extent ty).size

abbrev pub align : Ty → ℕ
align ty = (extent ty).align

-- The type, or one of its parts, has a size of at least 2^31.
abbrev pub IsTooWide : Ty → Type 0
IsTooWide ty = 2 ^ 31 ≤ (extent ty).widest

-- the types of a struct's fields; no other type has any
abbrev pub fields_in : Ty-F Ty → List Ty
fields_in (Ty-F.One scalar) = []
fields_in (Ty-F.Array count element) = []
fields_in (Ty-F.Struct fields) = fields

unfoldable pub fields_of : Ty → List Ty
fields_of ty = fields_in (out-Ty ty)

-- the offset of the struct's k-th field, where there is one
abbrev pub offset_of : Ty → ℕ → Option ℕ
offset_of ty k = slice_get (offsets_from 0 (map extent (fields_of ty))) k

-- Why a struct of these fields has no list of offsets. Want of memory has no cause.
abbrev pub IsLayoutCause : List Ty → LayoutFault → Type 0
IsLayoutCause fields fault.TooWide = 2 ^ 31 ≤ struct_width (map extent fields)
IsLayoutCause fields fault.OutOfMemory = ⊤
