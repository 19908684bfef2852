-- The extent of each form of type, from those of its parts.
use Rattle.std.proofs.Common.{◌≡◌, ℕ, zero, suc, ◌+◌, ◌*◌, ◌<◌, ◌≤◌, max, List, [], ◌∷◌, length, get_or, drop, drop-cons, map, Result, Ok, Err, Option, IfOk, OnErr, IsErr, IsSome, ◌↔◌, is_some, true, refl, ap, sym, ◌∙◌, arith}
use Rattle.std.proofs.lemmas.Bool.{false≢true}
use Rattle.std.specs.List.{slice_get}
use Rattle.ir_types.specs.declared.scalar.Scalar.{Scalar}
use Rattle.ir_types.specs.declared.shape.Ty.{Ty}
use Rattle.ir_types.specs.declared.shape.Ty.TheOpen.{Ty-F}
use Rattle.ir_types.specs.declared.shape.Ty.TheViews.{Array, Struct, out-Ty}
use Rattle.ir_types.specs.declared.shape.Ty.TheBlock.{One}
use Rattle.ir_types.specs.declared.shape.Ty.TheVariants.{rolls-One, rolls-Array, rolls-Struct, outs-One, outs-Array, outs-Struct}
use Rattle.ir_types.specs.declared.shape.Ty.TheFolds.{map-Ty, fold-roll-Ty, fold_out-Ty}
use Rattle.ir_types.specs.Layout.{Extent, extent, extent_step, size, align, scalar_size, round_up, greatest_align, end_from, greatest_width, struct_size, struct_width, fields_in, fields_of, offsets_from, offset_of}

pub extent-One : (s : Scalar) → extent (One s) ≡ extent_step (Ty-F.One s)
unfolding extent
extent-One s = ap extent (sym (rolls-One s)) ∙ fold-roll-Ty Extent extent_step (Ty-F.One s)

pub extent-Array : (n : ℕ) (t : Ty) → extent (Array n t) ≡ extent_step (Ty-F.Array n (extent t))
unfolding extent
extent-Array n t = ap extent (sym (rolls-Array n t)) ∙ fold-roll-Ty Extent extent_step (Ty-F.Array n t)

pub extent-Struct : (ts : List Ty) → extent (Struct ts) ≡ extent_step (Ty-F.Struct (map extent ts))
unfolding extent
extent-Struct ts = ap extent (sym (rolls-Struct ts)) ∙ fold-roll-Ty Extent extent_step (Ty-F.Struct ts)

-- the same by the layer of a type
pub extent_out : (ty : Ty) (x : Ty-F Ty) → out-Ty ty ≡ x → extent ty ≡ extent_step (map-Ty Ty Extent extent x)
unfolding extent
extent_out ty x is = fold_out-Ty Extent extent_step ty ∙ ap (λ y. extent_step (map-Ty Ty Extent extent y)) is

-- what an array takes
pub record IsArrayExtent (ty : Ty) (n : ℕ) (t : Ty) : Type 0 where
  pub has_size : size ty ≡ n * size t
  pub has_align : align ty ≡ align t
  pub has_width : (extent ty).widest ≡ max (n * size t) (extent t).widest

-- what a struct takes
pub record IsStructExtent (ty : Ty) (ts : List Ty) : Type 0 where
  pub has_size : size ty ≡ struct_size (map extent ts)
  pub has_align : align ty ≡ greatest_align (map extent ts)
  pub has_width : (extent ty).widest ≡ struct_width (map extent ts)

-- what a scalar takes
pub record IsScalarExtent (ty : Ty) (s : Scalar) : Type 0 where
  pub has_size : size ty ≡ scalar_size s
  pub has_align : align ty ≡ scalar_size s
  pub has_width : (extent ty).widest ≡ scalar_size s

pub scalar_extent : (ty : Ty) (s : Scalar) → ty ≡ One s → IsScalarExtent ty s
scalar_extent ty s is =
    let e = ap extent is ∙ extent-One s in
    record { has_size = ap (λ x. x.size) e; has_align = ap (λ x. x.align) e; has_width = ap (λ x. x.widest) e }

pub array_extent : (ty : Ty) (n : ℕ) (t : Ty) → ty ≡ Array n t → IsArrayExtent ty n t
array_extent ty n t is =
    let e = ap extent is ∙ extent-Array n t in
    record { has_size = ap (λ x. x.size) e; has_align = ap (λ x. x.align) e; has_width = ap (λ x. x.widest) e }

pub struct_extent : (ty : Ty) (fields ts : List Ty) → ty ≡ Struct fields → ts ≡ fields → IsStructExtent ty ts
struct_extent ty fields ts is same =
    let e = ap extent is ∙ extent-Struct fields ∙ ap (λ x. extent_step (Ty-F.Struct (map extent x))) (sym same) in
    record { has_size = ap (λ x. x.size) e; has_align = ap (λ x. x.align) e; has_width = ap (λ x. x.widest) e }

pub greatest_align-pos : (es : List Extent) → 1 ≤ greatest_align es
greatest_align-pos [] = omega arith
greatest_align-pos (e ∷ es) = omega (arith, greatest_align-pos es)

-- An alignment of 1 adds nothing to the greatest one.
pub max_one-align : (es : List Extent) → max 1 (greatest_align es) ≡ greatest_align es
max_one-align es = omega (arith, greatest_align-pos es)

-- ---- rounding

pub round_up-ge : (n a : ℕ) → n ≤ round_up n a
unfolding round_up
round_up-ge n a = omega arith

pub round_up-lt : (n a : ℕ) → 0 < a → round_up n a < n + a
unfolding round_up
round_up-lt n a p = omega arith

-- the end of fields is no less than where they begin
pub end_from-ge : (at : ℕ) (es : List Extent) → at ≤ end_from at es
end_from-ge at [] = omega arith
end_from-ge at (e ∷ es) =
    omega (arith, end_from-ge (round_up at e.align + e.size) es, round_up-ge at e.align)

-- so a struct whose fields reach so far is as wide
pub struct_width-ge_end : (at : ℕ) (es : List Extent) → end_from 0 es ≡ at → at ≤ struct_width es
struct_width-ge_end at es same = omega (arith, round_up-ge (end_from 0 es) (greatest_align es))

-- A struct is at least as wide as the end of each of its fields.
pub struct_width-ge_field : (ts : List Ty) (i at : ℕ) (t : Ty) → i < length ts → t ≡ get_or ts i t → end_from at (map extent (drop i ts)) ≡ end_from 0 (map extent ts) → round_up at (align t) + size t ≤ struct_width (map extent ts)
struct_width-ge_field ts i at t within is same =
    let here : drop i ts ≡ t ∷ drop (suc i) ts = drop-cons ts i t within ∙ ap (λ x. x ∷ drop (suc i) ts) (sym is) in
    let e : end_from at (map extent (drop i ts)) ≡ end_from (round_up at (align t) + size t) (map extent (drop (suc i) ts)) = ap (λ xs. end_from at (map extent xs)) here in
    omega (arith, e, same, end_from-ge (round_up at (align t) + size t) (map extent (drop (suc i) ts)), round_up-ge (end_from 0 (map extent ts)) (greatest_align (map extent ts)))

-- A struct is at least as wide as each of its fields.
pub greatest_width-ge : (ts : List Ty) (i : ℕ) (t : Ty) → i < length ts → t ≡ get_or ts i t → (extent t).widest ≤ greatest_width (map extent ts)
greatest_width-ge [] i t within is = absurd (omega arith)
greatest_width-ge (u ∷ ts) zero t within is = omega (arith, ap (λ x. (extent x).widest) is)
greatest_width-ge (u ∷ ts) (suc i) t within is = omega (arith, greatest_width-ge ts i t (omega arith) is)

-- ---- fields

pub fields_at_One : (ty : Ty) (s : Scalar) → ty ≡ One s → fields_of ty ≡ []
unfolding fields_of
fields_at_One ty s is = ap fields_of is ∙ ap fields_in (outs-One s)

pub fields_at_Array : (ty : Ty) (n : ℕ) (t : Ty) → ty ≡ Array n t → fields_of ty ≡ []
unfolding fields_of
fields_at_Array ty n t is = ap fields_of is ∙ ap fields_in (outs-Array n t)

pub fields_at_Struct : (ty : Ty) (fields ts : List Ty) → ty ≡ Struct fields → ts ≡ fields → fields_of ty ≡ ts
unfolding fields_of
fields_at_Struct ty fields ts is same = ap fields_of is ∙ ap fields_in (outs-Struct fields) ∙ sym same

pub length-offsets_from : (at : ℕ) (ts : List Ty) → length (offsets_from at (map extent ts)) ≡ length ts
length-offsets_from at [] = refl
length-offsets_from at (t ∷ ts) = omega (arith, length-offsets_from (round_up at (align t) + size t) ts)

-- There is an offset where there is a field.
pub is_some-offset : (ts : List Ty) (k : ℕ) → is_some (slice_get (offsets_from 0 (map extent ts)) k) ≡ is_some (slice_get ts k)
is_some-offset ts k = offsets_some 0 ts k
  where
    offsets_some : (at : ℕ) (ts : List Ty) (k : ℕ) → is_some (slice_get (offsets_from at (map extent ts)) k) ≡ is_some (slice_get ts k)
    offsets_some at [] k = refl
    offsets_some at (t ∷ ts) zero = refl
    offsets_some at (t ∷ ts) (suc k) = offsets_some (round_up at (align t) + size t) ts k

-- A field is there exactly where it has an offset.
pub there_where_field : {E : Type 0} (ty : Ty) (k : ℕ) (r : Result (Option ℕ) E) → IfOk r (λ offset. offset ≡ offset_of ty k) → IfOk r (λ offset. IsSome offset ↔ (k < length (fields_of ty)))
there_where_field ty k (Err e) h = tt
there_where_field ty k (Ok o) h =
    let e = ap (is_some {T = ℕ}) h ∙ is_some-offset (fields_of ty) k in
    (λ some. is_some_within (fields_of ty) k (sym e ∙ some), λ within. e ∙ within_is_some (fields_of ty) k within)
  where
    is_some_within : (ts : List Ty) (k : ℕ) → is_some (slice_get ts k) ≡ true → k < length ts
    is_some_within [] k h = absurd (false≢true h)
    is_some_within (t ∷ ts) zero h = omega arith
    is_some_within (t ∷ ts) (suc k) h = omega (arith, is_some_within ts k h)

    within_is_some : (ts : List Ty) (k : ℕ) → k < length ts → is_some (slice_get ts k) ≡ true
    within_is_some [] k h = absurd (omega arith)
    within_is_some (t ∷ ts) zero h = refl
    within_is_some (t ∷ ts) (suc k) h = within_is_some ts k (omega arith)

pub on_err : {T E P : Type 0} (r : Result T E) → OnErr r P → IsErr r → P
on_err (Ok x) h err = absurd (cc)
on_err (Err e) h err = h
