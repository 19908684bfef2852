-- How far indices go into a type.
use Rattle.std.specs.Prelude.{ℕ, ◌+◌, ◌*◌, ◌^◌, Bool, true, false, nat_lt, List, [], ◌∷◌, map, Option, Some, None, option_map, option_and_then, if◌then◌else◌}
use Rattle.ir_types.specs.declared.scalar.Scalar.{Scalar}
use Rattle.ir_types.specs.declared.scalar.Scalar.TheVariants.{I32}
use Rattle.ir_types.specs.declared.shape.Ty.{Ty}
use Rattle.ir_types.specs.declared.shape.Index.{Index}
use Rattle.ir_types.specs.declared.shape.Index.TheVariants.{Num}
use Rattle.ir_types.specs.declared.shape.Stride.{Stride}
use Rattle.ir_types.specs.declared.shape.Stride.TheVariants.{Each, Field}
use Rattle.ir_types.specs.Layout.{extent}
use Rattle.ir_types.specs.Scalars.{signed_value}
use Rattle.ir_types.specs.Walk.{strides}
use Rattle.ir_scope.specs.Integers.{width, extended}

-- an index: its type, and its number modulo 2^w
abbrev pub Indexed : Type 0
Indexed = Scalar × ℕ

-- its number with 64 bits
abbrev pub wide : Indexed → ℕ
wide index = extended (width index.0) index.1

-- its signed value
abbrev pub index_of : Indexed → Index
index_of index = Num (signed_value index.0 index.1)

abbrev pub is_i32 : Scalar → Bool
is_i32 I32 = true
is_i32 _ = false

-- what an index adds; the index of a struct is of i32
abbrev pub added : Indexed → Stride → Option ℕ
added index (Each size) = Some (size * wide index)
added index (Field offset) = if is_i32 index.0 then Some offset else None

abbrev pub total : List Indexed → List Stride → Option ℕ
total [] strides = Some 0
total (i ∷ is) [] = Some 0
total (i ∷ is) (s ∷ ss) = option_and_then (λ n. option_map (λ m. n + m) (total is ss)) (added i s)

-- a type whose size and whose parts' sizes are below 2^31
abbrev pub is_narrow : Ty → Bool
is_narrow ty = nat_lt (extent ty).widest (2 ^ 31)

-- how far the indices go, as a number that may be any; each goes somewhere
abbrev pub offset_of : Ty → List Indexed → Option ℕ
offset_of ty indices = if is_narrow ty then option_and_then (total indices) (strides ty (map index_of indices)) else None
