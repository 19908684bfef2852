-- Layouts worked by hand.
use Rattle.std.proofs.Common.{◌≡◌, ℕ, ◌^◌, [], ◌∷◌, ◌∙◌}
use Rattle.ir_types.specs.declared.scalar.Scalar.TheVariants.{I8, I16, I32, I64, Ptr}
use Rattle.ir_types.specs.declared.shape.Ty.{Ty}
use Rattle.ir_types.specs.declared.shape.Ty.TheViews.{Array, Struct}
use Rattle.ir_types.specs.declared.shape.Ty.TheBlock.{One}
use Rattle.ir_types.specs.Layout.{Extent, extent, round_up}
use Rattle.ir_types.proofs.Extents.{extent-One, extent-Array, extent-Struct}

abbrev takes : ℕ → ℕ → ℕ → Extent
takes bytes alignment widest = record { size = bytes; align = alignment; widest = widest }

-- `{ i8, i32 }`
abbrev pair : Ty
pair = Struct (One I8 ∷ One I32 ∷ [])

pair-extent : extent pair ≡ takes 8 4 8
unfolding round_up
pair-extent = extent-Struct (One I8 ∷ One I32 ∷ []) ∙ simp (extent-One)

-- `{ i8, ptr, i16 }`
triple-extent : extent (Struct (One I8 ∷ One Ptr ∷ One I16 ∷ [])) ≡ takes 24 8 24
unfolding round_up
triple-extent = extent-Struct (One I8 ∷ One Ptr ∷ One I16 ∷ []) ∙ simp (extent-One)

-- `[2 x { i8, i32 }]`
pairs-extent : extent (Array 2 pair) ≡ takes 16 4 16
pairs-extent = extent-Array 2 pair ∙ simp pair-extent

-- `{}`
empty-extent : extent (Struct []) ≡ takes 0 1 0
unfolding round_up
empty-extent = extent-Struct []

-- `[0 x i64]`
none-extent : extent (Array 0 (One I64)) ≡ takes 0 8 8
none-extent = extent-Array 0 (One I64) ∙ simp (extent-One)

-- 2^62 empty structs take nothing, and aren't wide
huge-extent : extent (Array (2 ^ 62) (Struct [])) ≡ takes 0 1 0
huge-extent = extent-Array (2 ^ 62) (Struct []) ∙ simp empty-extent

-- no elements of 2^31 bytes take nothing, and are wide
wide-extent : extent (Array 0 (Array (2 ^ 31) (One I8))) ≡ takes 0 1 (2 ^ 31)
wide-extent = extent-Array 0 (Array (2 ^ 31) (One I8)) ∙ simp (extent-Array, extent-One)
