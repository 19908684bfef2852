-- Strides and parts of a type that an index names.
use Rattle.std.proofs.Common.{◌≡◌, ◌∙◌, ℕ, ◌<◌, ◌≤◌, ◌^◌, List, length, Option, Some, None, refl, sym, ap, subst, slice_get, option_map, option_and_then, IsSome, arith}
use Rattle.std.proofs.lemmas.Option.{slice_get_within}
use Rattle.ir_types.specs.declared.shape.Ty.{Ty}
use Rattle.ir_types.specs.declared.shape.Ty.TheViews.{Struct}
use Rattle.ir_types.specs.declared.shape.Index.{Index}
use Rattle.ir_types.specs.declared.shape.Stride.TheVariants.{Field}
use Rattle.ir_types.specs.Layout.{extent, offset_of}
use Rattle.ir_types.specs.Walk.{place, part, stride}
use Rattle.ir_types.proofs.Walks.{part_at_Struct, stride_at_Struct, part-width}
use Rattle.ir_syntax.specs.Typed.{IsNarrow}

some_place : {A : Type 0} (F : ℕ → Option A) (o : Option ℕ) → IsSome (option_and_then F o) → IsSome o
some_place F None some = absurd (cc (some))
some_place F (Some k) some = refl

pub mapped : {A B : Type 0} (F : A → B) (o : Option A) → IsSome (option_map F o) → IsSome o
mapped F None some = absurd (cc (some))
mapped F (Some x) some = refl

pub stride_names : (ty : Ty) (ts : List Ty) (index : Index) → ty ≡ Struct ts → IsSome (stride ty index) → IsSome (place index)
stride_names ty ts index is some =
    some_place (offset_of ty) (place index) (mapped Field (option_and_then (offset_of ty) (place index)) (subst IsSome (stride_at_Struct ty ts index is) some))

pub stride_of : (ty : Ty) (ts : List Ty) (index : Index) (k : ℕ) → ty ≡ Struct ts → place index ≡ Some k → stride ty index ≡ option_map Field (offset_of ty k)
stride_of ty ts index k is at = stride_at_Struct ty ts index is ∙ ap (λ o. option_map Field (option_and_then (offset_of ty) o)) at

pub part_names : (ty : Ty) (ts : List Ty) (index : Index) → ty ≡ Struct ts → IsSome (part ty index) → IsSome (place index)
part_names ty ts index is some = some_place (slice_get ts) (place index) (subst IsSome (part_at_Struct ty ts index is) some)

pub part_is : (ty : Ty) (ts : List Ty) (index : Index) (k : ℕ) → ty ≡ Struct ts → place index ≡ Some k → part ty index ≡ slice_get ts k
part_is ty ts index k is at = part_at_Struct ty ts index is ∙ ap (option_and_then (slice_get ts)) at

pub field_within : (ty : Ty) (ts : List Ty) (index : Index) (k : ℕ) → ty ≡ Struct ts → place index ≡ Some k → IsSome (part ty index) → k < length ts
field_within ty ts index k is at some = by (slice_get ts k) refl (subst IsSome (part_is ty ts index k is at) some) where
  by : (o : Option Ty) → slice_get ts k ≡ o → IsSome o → k < length ts
  by None e some = absurd (cc (some))
  by (Some t) e some = slice_get_within ts k t e

pub part_is_narrow : (ty inner : Ty) (index : Index) → IsNarrow ty → part ty index ≡ Some inner → IsNarrow inner
part_is_narrow ty inner index narrow is = omega (arith, part-width ty inner index is, narrow)
