-- Types that are one.
use Rattle.std.proofs.Common.{◌≡◌, ◌≢◌, ◌∙◌, ℕ, suc, Bool, true, false, ◌&&◌, nat_eq, List, [], ◌∷◌, map, length, refl, sym, ap, arith}
use Rattle.std.proofs.lemmas.Bool.{false≢true, and_parts, and_from, and_right}
use Rattle.std.proofs.lemmas.Bool.Decides.{nat_tests}
use Rattle.ir_types.specs.declared.scalar.Scalar.{Scalar}
use Rattle.ir_types.specs.declared.scalar.Scalar.TheVariants.{I1, I8, I16, I32, I64, Ptr}
use Rattle.ir_types.specs.declared.shape.Ty.{Ty, out-Ty}
use Rattle.ir_types.specs.declared.shape.Ty.TheOpen.{Ty-F}
use Rattle.ir_types.specs.declared.shape.Ty.TheBlock.{One}
use Rattle.ir_types.specs.declared.shape.Ty.TheViews.{Array, Struct, roll-Ty, roll-out-Ty, out-roll-Ty}
use Rattle.ir_types.specs.declared.shape.Ty.TheVariants.{outs-One, outs-Array, outs-Struct}
use Rattle.ir_types.specs.declared.shape.Ty.TheFolds.{map-Ty, fold_out-Ty, ind-Ty}
use Rattle.ir_syntax.specs.Suits.{each_takes}
use Rattle.ir_types.specs.Scalars.{same}
use Rattle.ir_scope.specs.Types.{same_type, same_shape}

-- by the layers of both
pub same_at : (a b : Ty) (x y : Ty-F Ty) → out-Ty a ≡ x → out-Ty b ≡ y → same_type a b ≡ same_shape (map-Ty Ty (Ty → Bool) same_type x) y
unfolding same_type
same_at a b x y first second =
    ap (λ f. f b) (fold_out-Ty (Ty → Bool) (λ shape ty. same_shape shape (out-Ty ty)) a)
    ∙ (ap (λ z. same_shape (map-Ty Ty (Ty → Bool) same_type z) (out-Ty b)) first ∙ ap (same_shape (map-Ty Ty (Ty → Bool) same_type x)) second)

pub one-out : (a : Ty) (s : Scalar) → a ≡ One s → out-Ty a ≡ Ty-F.One s
one-out a s is = ap out-Ty is ∙ outs-One s

pub array-out : (a : Ty) (n : ℕ) (t u : Ty) → a ≡ Array n t → u ≡ t → out-Ty a ≡ Ty-F.Array n u
array-out a n t u is same = ap out-Ty is ∙ outs-Array n t ∙ ap (λ v. Ty-F.Array n v) (sym same)

pub struct-out : (a : Ty) (ts us : List Ty) → a ≡ Struct ts → us ≡ ts → out-Ty a ≡ Ty-F.Struct us
struct-out a ts us is same = ap out-Ty is ∙ outs-Struct ts ∙ ap (λ v. Ty-F.Struct v) (sym same)

-- lists of different lengths
pub lengths_differ : (f : Ty → Ty → Bool) (xs ys : List Ty) → length xs ≢ length ys → each_takes (map f xs) ys ≡ false
lengths_differ f [] [] differ = absurd (differ refl)
lengths_differ f [] (y ∷ ys) differ = refl
lengths_differ f (x ∷ xs) [] differ = refl
lengths_differ f (x ∷ xs) (y ∷ ys) differ = ap (λ b. f x y && b) (lengths_differ f xs ys (λ e. differ (ap suc e))) ∙ and_right (f x y) false refl

-- ---- arrays

pub arrays_same : (a b : Ty) (n m : ℕ) (t u : Ty) → out-Ty a ≡ Ty-F.Array n t → out-Ty b ≡ Ty-F.Array m u → n ≡ m → same_type t u ≡ same_type a b
arrays_same a b n m t u first second is =
    let e : nat_eq n m ≡ true = grind (arith, nat_tests, is) in
    sym (same_at a b (Ty-F.Array n t) (Ty-F.Array m u) first second ∙ ap (λ z. z && same_type t u) e)

pub arrays_differ : (a b : Ty) (n m : ℕ) (t u : Ty) → out-Ty a ≡ Ty-F.Array n t → out-Ty b ≡ Ty-F.Array m u → n ≢ m → nat_eq n m ≡ same_type a b
arrays_differ a b n m t u first second isn't =
    let e : nat_eq n m ≡ false = grind (arith, nat_tests, isn't) in
    e ∙ sym (same_at a b (Ty-F.Array n t) (Ty-F.Array m u) first second ∙ ap (λ z. z && same_type t u) e)

-- ---- the law

scalar_equal : (s t : Scalar) → same s t ≡ true → s ≡ t
scalar_equal I1 I1 e = refl
scalar_equal I8 I8 e = refl
scalar_equal I16 I16 e = refl
scalar_equal I32 I32 e = refl
scalar_equal I64 I64 e = refl
scalar_equal Ptr Ptr e = refl
scalar_equal s t e = absurd (false≢true e)

scalar_same : (s : Scalar) → same s s ≡ true
scalar_same I1 = refl
scalar_same I8 = refl
scalar_same I16 = refl
scalar_same I32 = refl
scalar_same I64 = refl
scalar_same Ptr = refl

number_equal : (n m : ℕ) → nat_eq n m ≡ true → n ≡ m
number_equal n m e = grind (arith, nat_tests, e)

number_same : (n : ℕ) → nat_eq n n ≡ true
number_same n = grind (arith, nat_tests)

abbrev EqualWhereSame : Ty → Type 0
EqualWhereSame a = (b : Ty) → same_type a b ≡ true → a ≡ b

-- a type with a proof of it
abbrev Shown : Type 0
Shown = (t : Ty) × EqualWhereSame t

fields_equal : (fs : List Shown) (us : List Ty) → each_takes (map same_type (map (λ f. f.0) fs)) us ≡ true → map (λ f. f.0) fs ≡ us
fields_equal [] [] e = refl
fields_equal [] (u ∷ us) e = absurd (false≢true e)
fields_equal (f ∷ fs) [] e = absurd (false≢true e)
fields_equal (f ∷ fs) (u ∷ us) e =
    let rest = each_takes (map same_type (map (λ (g : Shown). g.0) fs)) us in
    let (first, others) = and_parts (same_type f.0 u) rest e in
    ap (λ t. t ∷ map (λ (g : Shown). g.0) fs) (f.1 u first) ∙ ap (λ ts. u ∷ ts) (fields_equal fs us others)

layer_equal : (y : Ty-F Shown) (z : Ty-F Ty) → same_shape (map-Ty Ty (Ty → Bool) same_type (map-Ty Shown Ty (λ f. f.0) y)) z ≡ true → map-Ty Shown Ty (λ f. f.0) y ≡ z
layer_equal (Ty-F.One s) (Ty-F.One t) e = ap (λ r. Ty-F.One r) (scalar_equal s t e)
layer_equal (Ty-F.One s) (Ty-F.Array m u) e = absurd (false≢true e)
layer_equal (Ty-F.One s) (Ty-F.Struct us) e = absurd (false≢true e)
layer_equal (Ty-F.Array n f) (Ty-F.One t) e = absurd (false≢true e)
layer_equal (Ty-F.Array n f) (Ty-F.Array m u) e =
    let (counts, elements) = and_parts (nat_eq n m) (same_type f.0 u) e in
    ap (λ k. Ty-F.Array k f.0) (number_equal n m counts) ∙ ap (λ t. Ty-F.Array m t) (f.1 u elements)
layer_equal (Ty-F.Array n f) (Ty-F.Struct us) e = absurd (false≢true e)
layer_equal (Ty-F.Struct fs) (Ty-F.One t) e = absurd (false≢true e)
layer_equal (Ty-F.Struct fs) (Ty-F.Array m u) e = absurd (false≢true e)
layer_equal (Ty-F.Struct fs) (Ty-F.Struct us) e = ap (λ ts. Ty-F.Struct ts) (fields_equal fs us e)

pub equal_where_same : (a : Ty) → EqualWhereSame a
equal_where_same = ind-Ty EqualWhereSame (λ x y is.
    λ b e.
    let shapes : same_shape (map-Ty Ty (Ty → Bool) same_type x) (out-Ty b) ≡ true = sym (same_at (roll-Ty x) b x (out-Ty b) (out-roll-Ty x) refl) ∙ e in
    let layer = layer_equal y (out-Ty b) (ap (λ z. same_shape (map-Ty Ty (Ty → Bool) same_type z) (out-Ty b)) is ∙ shapes) in
    ap roll-Ty (sym is ∙ layer) ∙ roll-out-Ty b)

-- ---- each type is one with itself

abbrev IsSame : Ty → Type 0
IsSame a = same_type a a ≡ true

abbrev Kept : Type 0
Kept = (t : Ty) × IsSame t

fields_same : (fs : List Kept) → each_takes (map same_type (map (λ f. f.0) fs)) (map (λ f. f.0) fs) ≡ true
fields_same [] = refl
fields_same (f ∷ fs) = and_from (same_type f.0 f.0) (each_takes (map same_type (map (λ (g : Kept). g.0) fs)) (map (λ (g : Kept). g.0) fs)) f.1 (fields_same fs)

layer_same : (y : Ty-F Kept) → same_shape (map-Ty Ty (Ty → Bool) same_type (map-Ty Kept Ty (λ f. f.0) y)) (map-Ty Kept Ty (λ f. f.0) y) ≡ true
layer_same (Ty-F.One s) = scalar_same s
layer_same (Ty-F.Array n f) = and_from (nat_eq n n) (same_type f.0 f.0) (number_same n) f.1
layer_same (Ty-F.Struct fs) = fields_same fs

pub same_itself : (a : Ty) → IsSame a
same_itself = ind-Ty IsSame (λ x y is.
    same_at (roll-Ty x) (roll-Ty x) x x (out-roll-Ty x) (out-roll-Ty x)
    ∙ (ap (λ z. same_shape (map-Ty Ty (Ty → Bool) same_type z) z) (sym is) ∙ layer_same y))
