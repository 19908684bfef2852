-- Walks into a type, one index after another.
use Rattle.std.proofs.Common.{◌≡◌, ℕ, suc, ◌+◌, ◌<◌, List, ◌∷◌, length, get_or, drop, drop-cons, add-one, Option, None, Some, IsSome, refl, ap, sym, subst, ◌∙◌}
use Rattle.std.specs.Prelude.{◌↔◌, IfSome}
use Rattle.std.proofs.lemmas.Bool.{false≢true}
use Rattle.ir_types.specs.declared.scalar.Scalar.{Scalar}
use Rattle.ir_types.specs.declared.scalar.Scalar.TheVariants.{I1, I8, I16, I32, I64, Ptr}
use Rattle.ir_types.specs.declared.shape.Ty.{Ty}
use Rattle.ir_types.specs.declared.shape.Ty.TheOpen.{Ty-F}
use Rattle.ir_types.specs.declared.shape.Ty.TheViews.{Array, Struct, out-Ty}
use Rattle.ir_types.specs.declared.shape.Ty.TheBlock.{One}
use Rattle.ir_types.specs.declared.shape.Ty.TheVariants.{outs-One, outs-Array, outs-Struct}
use Rattle.ir_syntax.specs.declared.constant.Operand.{Operand}
use Rattle.ir_syntax.specs.Typed.{number_of, field_at, EntersIn, Enters}
use Rattle.ir_check.specs.Walks.{field_by, part_in, part}

pub part_One : (ty : Ty) (s : Scalar) (index : Scalar × Operand) → ty ≡ One s → part ty index ≡ None
unfolding part
part_One ty s index is = ap (λ t. part_in (out-Ty t) index) is ∙ ap (λ x. part_in x index) (outs-One s)

pub part_Array : (ty : Ty) (n : ℕ) (t : Ty) (index : Scalar × Operand) → ty ≡ Array n t → part ty index ≡ Some t
unfolding part
part_Array ty n t index is = ap (λ t. part_in (out-Ty t) index) is ∙ ap (λ x. part_in x index) (outs-Array n t)

pub part_Struct : (ty : Ty) (ts : List Ty) (index : Scalar × Operand) → ty ≡ Struct ts → part ty index ≡ field_by ts index.0 index.1
unfolding part
part_Struct ty ts index is = ap (λ t. part_in (out-Ty t) index) is ∙ ap (λ x. part_in x index) (outs-Struct ts)

-- A walk that enters a part goes on from it.
some_in : (x : Ty-F Ty) (index : Scalar × Operand) (Rest : Ty → Type 0) (inner : Ty) → Some inner ≡ part_in x index → EntersIn x index Rest ↔ Rest inner
some_in (Ty-F.One scalar) index Rest inner e = absurd (cc)
some_in (Ty-F.Array count element) index Rest inner e = let same : inner ≡ element = cc in (λ h. subst Rest (sym same) h, λ h. subst Rest same h)
some_in (Ty-F.Struct fields) index Rest inner e = by_type index.0 index.1 e
  where
    of_field : (o : Option Ty) → Some inner ≡ o → (IsSome o × IfSome o Rest → Rest inner) × (Rest inner → IsSome o × IfSome o Rest)
    of_field None e = absurd (cc)
    of_field (Some found) e = let same : inner ≡ found = cc in (λ h. subst Rest (sym same) h.1, λ h. (refl, subst Rest same h))

    by_type : (s : Scalar) (operand : Operand) → Some inner ≡ field_by fields s operand → ((s ≡ I32) × IsSome (field_at fields (number_of operand)) × IfSome (field_at fields (number_of operand)) Rest) ↔ Rest inner
    by_type I1 operand e = absurd (cc)
    by_type I8 operand e = absurd (cc)
    by_type I16 operand e = absurd (cc)
    by_type I32 operand e = let f = of_field (field_at fields (number_of operand)) e in (λ h. f.0 (h.1, h.2), λ h. let g = f.1 h in (refl, g.0, g.1))
    by_type I64 operand e = absurd (cc)
    by_type Ptr operand e = absurd (cc)

none_in : (x : Ty-F Ty) (index : Scalar × Operand) (Rest : Ty → Type 0) → None ≡ part_in x index → EntersIn x index Rest → ⊥
none_in (Ty-F.One scalar) index Rest e h = h
none_in (Ty-F.Array count element) index Rest e h = cc
none_in (Ty-F.Struct fields) index Rest e h = by_type index.0 index.1 e h.0 h.1
  where
    of_field : (o : Option Ty) → None ≡ o → IsSome o → ⊥
    of_field None e h = false≢true h
    of_field (Some found) e h = cc

    by_type : (s : Scalar) (operand : Operand) → None ≡ field_by fields s operand → s ≡ I32 → IsSome (field_at fields (number_of operand)) → ⊥
    by_type I1 operand e is h = cc
    by_type I8 operand e is h = cc
    by_type I16 operand e is h = cc
    by_type I32 operand e is h = of_field (field_at fields (number_of operand)) e h
    by_type I64 operand e is h = cc
    by_type Ptr operand e is h = cc

abbrev Index : Type 0
Index = Scalar × Operand

pub next_at : (indices : List Index) (i : ℕ) (index : Index) → i < length indices → index ≡ get_or indices i index → drop i indices ≡ index ∷ drop (i + 1) indices
next_at indices i index within is = rw add-one (drop-cons indices i index within ∙ ap (λ y. y ∷ drop (suc i) indices) (sym is))

pub enters_next : (ty inner : Ty) (indices : List Index) (i : ℕ) (index : Index) → i < length indices → index ≡ get_or indices i index → Some inner ≡ part ty index → Enters ty (drop i indices) ↔ Enters inner (drop (i + 1) indices)
unfolding part
enters_next ty inner indices i index within is e =
    subst (λ (xs : List Index). Enters ty xs ↔ Enters inner (drop (i + 1) indices)) (sym (next_at indices i index within is))
    (some_in (out-Ty ty) index (λ part. Enters part (drop (i + 1) indices)) inner e)

pub enters_none : (ty : Ty) (indices : List Index) (i : ℕ) (index : Index) → i < length indices → index ≡ get_or indices i index → None ≡ part ty index → Enters ty (drop i indices) → ⊥
unfolding part
enters_none ty indices i index within is e h =
    none_in (out-Ty ty) index (λ part. Enters part (drop (i + 1) indices)) e (subst (Enters ty) (next_at indices i index within is) h)
