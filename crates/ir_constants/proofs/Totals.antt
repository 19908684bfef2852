-- Sums of what indices add, and walks that go nowhere.
use Rattle.std.proofs.Common.{◌≡◌, ◌∙◌, ℕ, suc, zero, ◌+◌, ◌^◌, ◌%◌, ◌<◌, ◌≤◌, Bool, true, false, nat_lt, List, [], ◌∷◌, length, take, map, Option, Some, None, IsNone, option_map, option_and_then, cond, ◌⊎◌, inl, inr, refl, sym, ap, arith}
use Rattle.std.proofs.lemmas.Bool.{false≢true}
use Rattle.ir_types.specs.declared.shape.Ty.{Ty}
use Rattle.ir_types.specs.declared.shape.Index.{Index}
use Rattle.ir_types.specs.declared.shape.Stride.{Stride}
use Rattle.ir_types.specs.declared.shape.Stride.TheVariants.{Each}
use Rattle.ir_types.specs.Layout.{extent}
use Rattle.ir_types.specs.Walk.{stride, part, strides, strides_within, IsFirstLost}
use Rattle.ir_constants.specs.Offsets.{Indexed, total, index_of, offset_of}

-- Nothing is added where there is no index, or no stride.
pub total-ended : (is : List Indexed) (ss : List Stride) → (length is ≡ 0) ⊎ (length ss ≡ 0) → total is ss ≡ Some 0
total-ended [] ss ended = refl
total-ended (i ∷ is) [] ended = refl
total-ended (i ∷ is) (s ∷ ss) (inl e) = absurd (omega (arith, e))
total-ended (i ∷ is) (s ∷ ss) (inr e) = absurd (omega (arith, e))

-- ---- walks

-- A walk goes nowhere where its first indices go nowhere.
within-lost : (ty : Ty) (is : List Index) (k : ℕ) → IsNone (strides_within ty (take k is)) → strides_within ty is ≡ None
within-lost ty [] zero lost = absurd (false≢true (sym lost))
within-lost ty [] (suc k) lost = absurd (false≢true (sym lost))
within-lost ty (i ∷ is) zero lost = absurd (false≢true (sym lost))
within-lost ty (i ∷ is) (suc k) lost = by_stride (λ inner. within-lost inner is k) (stride ty i) lost
  where
    by_rest : (s : Stride) (o : Option (List Stride)) (p : Option (List Stride)) → (IsNone o → p ≡ None) → IsNone (option_map (λ rest. s ∷ rest) o) → option_map (λ rest. s ∷ rest) p ≡ None
    by_rest s None p next lost = ap (option_map (λ rest. s ∷ rest)) (next refl)
    by_rest s (Some rest) p next lost = absurd (false≢true (sym lost))

    by_part : ((inner : Ty) → IsNone (strides_within inner (take k is)) → strides_within inner is ≡ None) → (s : Stride) (o : Option Ty) → IsNone (option_and_then (λ inner. option_map (λ rest. s ∷ rest) (strides_within inner (take k is))) o) → option_and_then (λ inner. option_map (λ rest. s ∷ rest) (strides_within inner is)) o ≡ None
    by_part next s None lost = refl
    by_part next s (Some inner) lost = by_rest s (strides_within inner (take k is)) (strides_within inner is) (next inner) lost

    by_stride : ((inner : Ty) → IsNone (strides_within inner (take k is)) → strides_within inner is ≡ None) → (o : Option Stride) → IsNone (option_and_then (λ here. option_and_then (λ inner. option_map (λ rest. here ∷ rest) (strides_within inner (take k is))) (part ty i)) o) →
        option_and_then (λ here. option_and_then (λ inner. option_map (λ rest. here ∷ rest) (strides_within inner is)) (part ty i)) o ≡ None
    by_stride next None lost = refl
    by_stride next (Some s) lost = by_part next s (part ty i) lost

strides-lost : (ty : Ty) (is : List Index) (k : ℕ) → IsNone (strides ty (take k is)) → strides ty is ≡ None
strides-lost ty [] zero lost = absurd (false≢true (sym lost))
strides-lost ty [] (suc k) lost = absurd (false≢true (sym lost))
strides-lost ty (i ∷ is) zero lost = absurd (false≢true (sym lost))
strides-lost ty (i ∷ is) (suc k) lost = by_rest (strides_within ty (take k is)) (within-lost ty is k) lost
  where
    by_rest : (o : Option (List Stride)) → (IsNone o → strides_within ty is ≡ None) → IsNone (option_map (λ rest. Each (extent ty).size ∷ rest) o) → option_map (λ rest. Each (extent ty).size ∷ rest) (strides_within ty is) ≡ None
    by_rest None next lost = ap (option_map (λ rest. Each (extent ty).size ∷ rest)) (next refl)
    by_rest (Some rest) next lost = absurd (false≢true (sym lost))

-- ---- offsets

pub lost_none : (ty : Ty) (is : List Indexed) (walked : List Index) (at : ℕ) → walked ≡ map index_of is → IsFirstLost (strides ty) walked at → offset_of ty is ≡ None
lost_none ty is walked at made lost =
    let e : strides ty (map index_of is) ≡ None = ap (strides ty) (sym made) ∙ strides-lost ty walked (at + 1) lost.here in
    either (nat_lt (extent ty).widest (2 ^ 31)) e
  where
    either : (b : Bool) → strides ty (map index_of is) ≡ None → cond b (option_and_then (total is) (strides ty (map index_of is))) None ≡ None
    either false e = refl
    either true e = ap (option_and_then (total is)) e
