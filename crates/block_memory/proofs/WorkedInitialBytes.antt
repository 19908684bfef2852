-- Initial bytes worked by hand.
use Rattle.std.proofs.Common.{◌≡◌, pos, List, [], ◌∷◌, ◌++◌, drop, map, replicate, ap, ◌∙◌}
use Rattle.ir_types.specs.declared.scalar.Scalar.TheVariants.{I8, I16, I32, Ptr}
use Rattle.ir_types.specs.declared.shape.Ty.{Ty}
use Rattle.ir_types.specs.declared.shape.Ty.TheViews.{Array, Struct}
use Rattle.ir_types.specs.declared.shape.Ty.TheBlock.{One}
use Rattle.ir_types.specs.declared.shape.Ty.TheVariants.{outs-Array, outs-Struct}
use Rattle.ir_types.specs.declared.shape.Ty.TheOpen.{Ty-F}
use Rattle.ir_types.specs.Layout.{extent, extent_step, round_up}
use Rattle.ir_types.proofs.Extents.{extent-One, extent-Struct}
use Rattle.ir_syntax.specs.declared.constant.Const.{Const}
use Rattle.ir_syntax.specs.declared.constant.Const.TheBlock as of
use Rattle.ir_syntax.specs.declared.constant.Const.TheViews.{Many}
use Rattle.ir_syntax.specs.InitialBytes.{InitialPart, Poison, Num, Of, little_endian, zeros, fields_from, parts_in, initial_parts}
use Rattle.block_memory.proofs.InitialParts.{initial-Int, initial-Addr, initial-Undef, initial-Text, initial-Many, fields_from-cons}

-- `@text = constant [4 x i8] c"ok\00\00"`
text : initial_parts (of.Text (111 ∷ 107 ∷ 0 ∷ 0 ∷ [])) (Array 4 (One I8)) ≡ Num 111 ∷ Num 107 ∷ Num 0 ∷ Num 0 ∷ []
text = initial-Text (111 ∷ 107 ∷ 0 ∷ 0 ∷ []) (Array 4 (One I8))

-- `i32 -2`
negative : initial_parts (of.Int 0xFFFFFFFE) (One I32) ≡ Num 254 ∷ Num 255 ∷ Num 255 ∷ Num 255 ∷ []
negative = initial-Int 0xFFFFFFFE (One I32) ∙ ap (λ e. map Num (little_endian e.size 0xFFFFFFFE)) (extent-One I32)

byte : initial_parts (of.Int 7) (One I8) ≡ Num 7 ∷ []
byte = initial-Int 7 (One I8) ∙ ap (λ e. map Num (little_endian e.size 7)) (extent-One I8)

half : initial_parts (of.Int 258) (One I16) ≡ Num 2 ∷ Num 1 ∷ []
half = initial-Int 258 (One I16) ∙ ap (λ e. map Num (little_endian e.size 258)) (extent-One I16)

undefined : initial_parts of.Undef (One I16) ≡ Poison ∷ Poison ∷ []
undefined = initial-Undef (One I16) ∙ ap (λ e. replicate e.size Poison) (extent-One I16)

-- `[2 x i16] [i16 258, i16 undef]`
array : initial_parts (Many (of.Int 258 ∷ of.Undef ∷ [])) (Array 2 (One I16)) ≡ Num 2 ∷ Num 1 ∷ Poison ∷ Poison ∷ []
array = initial-Many (of.Int 258 ∷ of.Undef ∷ []) (Array 2 (One I16)) ∙ simp (outs-Array 2 (One I16), half, undefined)

-- `{ i8, ptr, i16 } { i8 7, ptr getelementptr (i8, ptr @f, i64 4), i16 258 }`, where `@f` is the second item: zeros fill it up to the
-- pointer's alignment, and to its end.
abbrev triple : List Ty
triple = One I8 ∷ One Ptr ∷ One I16 ∷ []

abbrev constants : List Const
constants = of.Int 7 ∷ of.Addr 1 (pos 4) ∷ of.Int 258 ∷ []

abbrev laid : List (Ty → List InitialPart)
laid = map initial_parts constants

triple-extent : extent (Struct triple) ≡ record { size = 24; align = 8; widest = 24 }
unfolding round_up
triple-extent = extent-Struct triple ∙ simp (extent-One)

abbrev address : List InitialPart
address = Of 1 (pos 4) 0 ∷ Of 1 (pos 4) 1 ∷ Of 1 (pos 4) 2 ∷ Of 1 (pos 4) 3 ∷ Of 1 (pos 4) 4 ∷ Of 1 (pos 4) 5 ∷ Of 1 (pos 4) 6 ∷ Of 1 (pos 4) 7 ∷ []

struct : initial_parts (Many constants) (Struct triple) ≡ Num 7 ∷ zeros 7 ++ address ++ (Num 2 ∷ Num 1 ∷ zeros 6)
unfolding round_up
struct =
    initial-Many constants (Struct triple)
    ∙ ap (λ x. parts_in (Struct triple) x laid) (outs-Struct triple)
    ∙ ap (λ e. fields_from 0 e.size laid triple) triple-extent
    ∙ fields_from-cons 0 24 (initial_parts (of.Int 7)) (drop 1 laid) (One I8) (drop 1 triple) (extent_step (Ty-F.One I8)) (Num 7 ∷ []) (extent-One I8) byte
    ∙ ap (λ rest. Num 7 ∷ rest) (fields_from-cons 1 24 (initial_parts (of.Addr 1 (pos 4))) (drop 2 laid) (One Ptr) (drop 2 triple) (extent_step (Ty-F.One Ptr)) address (extent-One Ptr) (initial-Addr 1 (pos 4) (One Ptr)))
    ∙ ap (λ rest. Num 7 ∷ zeros 7 ++ (address ++ rest)) (fields_from-cons 16 24 (initial_parts (of.Int 258)) [] (One I16) [] (extent_step (Ty-F.One I16)) (Num 2 ∷ Num 1 ∷ []) (extent-One I16) half)
