-- What an index enters and adds, by the form of the type, and what that makes of a walk.
use Rattle.std.proofs.Common.{◌≡◌, ℕ, zero, suc, add-one, ◌+◌, ◌<◌, ◌++◌, List, [], ◌∷◌, ◌≤◌, length, get_or, take, drop, drop-cons, append_assoc, map, Option, None, Some, is_some, true, false, refl, ap, sym, ◌∙◌, arith}
use Rattle.std.specs.List.{slice_get}
use Rattle.std.specs.Option.{option_map, option_and_then}
use Rattle.std.proofs.lemmas.List.{take_more, take_all, append-nil}
use Rattle.std.proofs.lemmas.Bool.{false≢true}
use Rattle.ir_types.specs.declared.scalar.Scalar.{Scalar}
use Rattle.ir_types.specs.declared.shape.Index.{Index}
use Rattle.ir_types.specs.declared.shape.Stride.{Stride}
use Rattle.ir_types.specs.declared.shape.Stride.TheVariants.{Each, Field}
use Rattle.ir_types.specs.declared.shape.Ty.{Ty}
use Rattle.ir_types.specs.declared.shape.Ty.TheOpen.{Ty-F}
use Rattle.ir_types.specs.declared.shape.Ty.TheViews.{Array, Struct, out-Ty}
use Rattle.ir_types.specs.declared.shape.Ty.TheBlock.{One}
use Rattle.ir_types.specs.declared.shape.Ty.TheVariants.{outs-One, outs-Array, outs-Struct}
use Rattle.ir_types.specs.Layout.{size, extent, greatest_width, fields_in, fields_of, offsets_from, offset_of}
use Rattle.ir_types.proofs.Extents.{fields_at_Struct, is_some-offset, extent_out}
use Rattle.ir_types.specs.Walk.{place, part, part_in, stride, stride_in, strides_within, IsFirstLost}

none≢some : {A : Type 0} {x : A} → None ≡ Some x → ⊥
none≢some e = cc

some_injective : {A : Type 0} {x y : A} → Some x ≡ Some y → x ≡ y
some_injective e = cc

pub is_some-option_map : {A B : Type 0} (f : A → B) (o : Option A) → is_some (option_map f o) ≡ is_some o
is_some-option_map f None = refl
is_some-option_map f (Some x) = refl

pub part_at_One : (ty : Ty) (s : Scalar) (index : Index) → ty ≡ One s → part ty index ≡ None
unfolding part
part_at_One ty s index is = ap (λ t. part_in (out-Ty t) index) is ∙ ap (λ x. part_in x index) (outs-One s)

pub part_at_Array : (ty : Ty) (n : ℕ) (t : Ty) (index : Index) → ty ≡ Array n t → part ty index ≡ Some t
unfolding part
part_at_Array ty n t index is = ap (λ t. part_in (out-Ty t) index) is ∙ ap (λ x. part_in x index) (outs-Array n t)

pub part_at_Struct : (ty : Ty) (ts : List Ty) (index : Index) → ty ≡ Struct ts → part ty index ≡ option_and_then (slice_get ts) (place index)
unfolding part
part_at_Struct ty ts index is = ap (λ t. part_in (out-Ty t) index) is ∙ ap (λ x. part_in x index) (outs-Struct ts)

pub stride_at_One : (ty : Ty) (s : Scalar) (index : Index) → ty ≡ One s → stride ty index ≡ None
unfolding stride
stride_at_One ty s index is = ap (λ t. stride_in ty (out-Ty t) index) is ∙ ap (λ x. stride_in ty x index) (outs-One s)

pub stride_at_Array : (ty : Ty) (n : ℕ) (t : Ty) (index : Index) → ty ≡ Array n t → stride ty index ≡ Some (Each (size t))
unfolding stride
stride_at_Array ty n t index is = ap (λ t. stride_in ty (out-Ty t) index) is ∙ ap (λ x. stride_in ty x index) (outs-Array n t)

pub stride_at_Struct : (ty : Ty) (ts : List Ty) (index : Index) → ty ≡ Struct ts → stride ty index ≡ option_map Field (option_and_then (offset_of ty) (place index))
unfolding stride
stride_at_Struct ty ts index is = ap (λ t. stride_in ty (out-Ty t) index) is ∙ ap (λ x. stride_in ty x index) (outs-Struct ts)

-- the stride of a field that is named by its place
pub stride_of_field : (ty : Ty) (fields ts : List Ty) (index : Index) (k : ℕ) → ty ≡ Struct fields → ts ≡ fields → Some k ≡ place index → stride ty index ≡ option_map Field (slice_get (offsets_from 0 (map extent ts)) k)
stride_of_field ty fields ts index k is same named =
    stride_at_Struct ty fields index is ∙ ap (λ o. option_map Field (option_and_then (offset_of ty) o)) (sym named) ∙ ap (λ us. option_map Field (slice_get (offsets_from 0 (map extent us)) k)) (fields_at_Struct ty fields ts is same)

pub stride_of_none : (ty : Ty) (fields : List Ty) (index : Index) → ty ≡ Struct fields → None ≡ place index → stride ty index ≡ None
stride_of_none ty fields index is named =
    stride_at_Struct ty fields index is ∙ ap (λ o. option_map Field (option_and_then (offset_of ty) o)) (sym named)

-- ---- walks

-- An index adds something where it enters something.
pub is_some-stride : (ty : Ty) (index : Index) → is_some (stride ty index) ≡ is_some (part ty index)
unfolding stride part fields_of
is_some-stride ty index = by_layer (out-Ty ty) refl
  where
    of_place : (o : Option ℕ) (ts : List Ty) → is_some (option_map Field (option_and_then (slice_get (offsets_from 0 (map extent ts))) o)) ≡ is_some (option_and_then (slice_get ts) o)
    of_place None ts = refl
    of_place (Some k) ts = is_some-option_map Field (slice_get (offsets_from 0 (map extent ts)) k) ∙ is_some-offset ts k

    by_layer : (x : Ty-F Ty) → out-Ty ty ≡ x → is_some (stride_in ty x index) ≡ is_some (part_in x index)
    by_layer (Ty-F.One s) is = refl
    by_layer (Ty-F.Array n t) is = refl
    by_layer (Ty-F.Struct ts) is = ap (λ us. is_some (option_map Field (option_and_then (slice_get (offsets_from 0 (map extent us))) (place index)))) (ap fields_in is) ∙ of_place (place index) ts

-- A walk goes on from the part that it has entered, as far as it goes.
pub goes_on : (ty inner : Ty) (index : Index) (more : List Index) → part ty index ≡ Some inner → is_some (strides_within ty (index ∷ more)) ≡ is_some (strides_within inner more)
goes_on ty inner index more enters = chained (stride ty index) (is_some-stride ty index ∙ ap is_some enters)
  where
    chained : (o : Option Stride) → is_some o ≡ true → is_some (option_and_then (λ here. option_and_then (λ inner. option_map (λ rest. here ∷ rest) (strides_within inner more)) (part ty index)) o) ≡ is_some (strides_within inner more)
    chained None h = absurd (false≢true h)
    chained (Some s) h = ap (λ p. is_some (option_and_then (λ inner. option_map (λ rest. s ∷ rest) (strides_within inner more)) p)) enters ∙ is_some-option_map (λ rest. s ∷ rest) (strides_within inner more)

-- It goes nowhere where nothing is entered.
pub stops : (ty : Ty) (index : Index) (more : List Index) → part ty index ≡ None → is_some (strides_within ty (index ∷ more)) ≡ false
stops ty index more enters = chained (stride ty index)
  where
    chained : (o : Option Stride) → is_some (option_and_then (λ here. option_and_then (λ inner. option_map (λ rest. here ∷ rest) (strides_within inner more)) (part ty index)) o) ≡ false
    chained None = refl
    chained (Some s) = ap (λ p. is_some (option_and_then (λ inner. option_map (λ rest. s ∷ rest) (strides_within inner more)) p)) enters

pub part_of_field : (ty : Ty) (ts : List Ty) (index : Index) (k : ℕ) → ty ≡ Struct ts → Some k ≡ place index → part ty index ≡ slice_get ts k
part_of_field ty ts index k is named = part_at_Struct ty ts index is ∙ ap (option_and_then (slice_get ts)) (sym named)

pub part_of_none : (ty : Ty) (ts : List Ty) (index : Index) → ty ≡ Struct ts → None ≡ place index → part ty index ≡ None
part_of_none ty ts index is named = part_at_Struct ty ts index is ∙ ap (option_and_then (slice_get ts)) (sym named)

-- However a walk goes on, it goes on from the part that these indices have entered.
abbrev pub GoesOnFrom : Ty → List Index → Ty → Type 0
GoesOnFrom ty done inner = (more : List Index) → is_some (strides_within ty (done ++ more)) ≡ is_some (strides_within inner more)

pub GoesOnFrom-more : (ty here inner : Ty) (indices : List Index) (at : ℕ) (d : Index) → at < length indices → Some inner ≡ part here (get_or indices at d) → GoesOnFrom ty (take at indices) here → GoesOnFrom ty (take (at + 1) indices) inner
GoesOnFrom-more ty here inner indices at d within enters so_far more =
    ap (λ xs. is_some (strides_within ty (xs ++ more))) (take_more indices at d within) ∙ ap (λ xs. is_some (strides_within ty xs)) (append_assoc (take at indices) (get_or indices at d ∷ []) more) ∙ so_far (get_or indices at d ∷ more) ∙ goes_on here inner (get_or indices at d) more (sym enters)

pub IsFirstLost-here : (ty here : Ty) (indices : List Index) (at : ℕ) (d : Index) → at < length indices → None ≡ part here (get_or indices at d) → GoesOnFrom ty (take at indices) here → IsFirstLost (strides_within ty) indices at
IsFirstLost-here ty here indices at d within enters so_far = record {
  within = within;
  before = ap (λ xs. is_some (strides_within ty xs)) (sym (append-nil (take at indices))) ∙ so_far [];
  here = ap (λ xs. is_some (strides_within ty xs)) (take_more indices at d within) ∙ so_far (get_or indices at d ∷ []) ∙ stops here (get_or indices at d) [] (sym enters);
}

pub goes_through : (ty here : Ty) (indices : List Index) (at : ℕ) → length indices ≤ at → GoesOnFrom ty (take at indices) here → is_some (strides_within ty indices) ≡ true
goes_through ty here indices at past so_far =
    ap (λ xs. is_some (strides_within ty xs)) (sym (append-nil (take at indices) ∙ take_all at indices past)) ∙ so_far []

-- the walk at a place: its index, and those after it
pub drop_at : (indices : List Index) (i : ℕ) (d : Index) → i < length indices → drop i indices ≡ get_or indices i d ∷ drop (i + 1) indices
drop_at indices i d within = rw add-one (drop-cons indices i d within)

-- What an index adds comes before what the others add.
pub adds_one : (here inner : Ty) (s : Stride) (index : Index) (rest : List Index) (so_far : List Stride) → Some s ≡ stride here index → Some inner ≡ part here index → option_map (λ more. so_far ++ more) (strides_within here (index ∷ rest)) ≡ option_map (λ more. (so_far ++ s ∷ []) ++ more) (strides_within inner rest)
adds_one here inner s index rest so_far adds enters =
    ap (λ o. option_map (λ more. so_far ++ more) (option_and_then (λ here'. option_and_then (λ inner'. option_map (λ more. here' ∷ more) (strides_within inner' rest)) (part here index)) o)) (sym adds)
    ∙ ap (λ o. option_map (λ more. so_far ++ more) (option_and_then (λ inner'. option_map (λ more. s ∷ more) (strides_within inner' rest)) o)) (sym enters)
    ∙ joined (strides_within inner rest)
  where
    joined : (o : Option (List Stride)) → option_map (λ more. so_far ++ more) (option_map (λ more. s ∷ more) o) ≡ option_map (λ more. (so_far ++ s ∷ []) ++ more) o
    joined None = refl
    joined (Some more) = ap Some (sym (append_assoc so_far (s ∷ []) more))

-- A walk that goes through adds something at each index.
pub stride_is_there : (here : Ty) (index : Index) (rest : List Index) → is_some (strides_within here (index ∷ rest)) ≡ true → None ≡ stride here index → ⊥
stride_is_there here index rest goes none =
    false≢true (ap (λ o. is_some (option_and_then (λ here'. option_and_then (λ inner'. option_map (λ more. here' ∷ more) (strides_within inner' rest)) (part here index)) o)) none ∙ goes)

pub part_is_there : (here : Ty) (index : Index) (rest : List Index) → is_some (strides_within here (index ∷ rest)) ≡ true → None ≡ part here index → ⊥
part_is_there here index rest goes none = false≢true (sym (stops here index rest (sym none)) ∙ goes)

-- A part is no wider than what it is a part of.
pub part-width : (ty inner : Ty) (index : Index) → part ty index ≡ Some inner → (extent inner).widest ≤ (extent ty).widest
unfolding part
part-width ty inner index enters = by_layer (out-Ty ty) refl
  where
    of_field : (ts : List Ty) (k : ℕ) → slice_get ts k ≡ Some inner → (extent inner).widest ≤ greatest_width (map extent ts)
    of_field [] k named = absurd (none≢some named)
    of_field (t ∷ ts) zero named = omega (arith, ap (λ t. (extent t).widest) (some_injective named))
    of_field (t ∷ ts) (suc k) named = omega (arith, of_field ts k named)

    of_place : (o : Option ℕ) (ts : List Ty) → option_and_then (slice_get ts) o ≡ Some inner → (extent inner).widest ≤ greatest_width (map extent ts)
    of_place None ts named = absurd (none≢some named)
    of_place (Some k) ts named = of_field ts k named

    by_layer : (x : Ty-F Ty) → out-Ty ty ≡ x → (extent inner).widest ≤ (extent ty).widest
    by_layer (Ty-F.One s) is = absurd (none≢some (sym (ap (λ x. part_in x index) is) ∙ enters))
    by_layer (Ty-F.Array n t) is =
        let same = some_injective (sym (ap (λ x. part_in x index) is) ∙ enters) in
        omega (arith, ap (λ x. x.widest) (extent_out ty (Ty-F.Array n t) is), ap (λ t. (extent t).widest) same)
    by_layer (Ty-F.Struct ts) is =
        omega (arith, ap (λ x. x.widest) (extent_out ty (Ty-F.Struct ts) is), of_place (place index) ts (sym (ap (λ x. part_in x index) is) ∙ enters))

-- one step of a walk over a list of indices
pub adds_next : (here inner : Ty) (s : Stride) (indices : List Index) (i : ℕ) (d : Index) (so_far : List Stride) → i < length indices → Some s ≡ stride here (get_or indices i d) → Some inner ≡ part here (get_or indices i d) → option_map (λ more. (so_far ++ s ∷ []) ++ more) (strides_within inner (drop (i + 1) indices)) ≡ option_map (λ more. so_far ++ more) (strides_within here (drop i indices))
adds_next here inner s indices i d so_far within adds enters =
    sym (ap (λ xs. option_map (λ more. so_far ++ more) (strides_within here xs)) (drop_at indices i d within) ∙ adds_one here inner s (get_or indices i d) (drop (i + 1) indices) so_far adds enters)

pub goes_next : (here inner : Ty) (indices : List Index) (i : ℕ) (d : Index) → i < length indices → Some inner ≡ part here (get_or indices i d) → is_some (strides_within here (drop i indices)) ≡ true → is_some (strides_within inner (drop (i + 1) indices)) ≡ true
goes_next here inner indices i d within enters goes =
    sym (goes_on here inner (get_or indices i d) (drop (i + 1) indices) (sym enters)) ∙ ap (λ xs. is_some (strides_within here xs)) (sym (drop_at indices i d within)) ∙ goes
