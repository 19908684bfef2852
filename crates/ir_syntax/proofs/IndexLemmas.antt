-- Typing accepts just the walks for which layout has strides.
use Rattle.std.proofs.Common.{◌≡◌, ℕ, zero, suc, ◌+◌, ◌<◌, ◌≤◌, ◌^◌, ◌%◌, ◌-◌, ℤ, pos, negsuc, nat_lt, cond, Bool, true, false, List, [], ◌∷◌, length, map, sum, Option, None, Some, is_some, IsSome, ◌↔◌, refl, ap, sym, subst, ◌∙◌, arith}
use Rattle.std.specs.Prelude.{IsSomeAnd, IfSome, ◌<ℤ◌, ◌-ℤ◌}
use Rattle.std.specs.List.{slice_get}
use Rattle.std.specs.Option.{option_map, option_and_then}
use Rattle.std.proofs.lemmas.Bool.{false≢true, ltb-true, lt-ltb}
use Rattle.std.proofs.lemmas.Bool.Decides.{nat_tests}
use Rattle.std.proofs.lemmas.Int.{ints}
use Rattle.std.proofs.lemmas.List.Sums.{sum_by-cons}
use Rattle.ir_types.specs.declared.scalar.Scalar.{Scalar}
use Rattle.ir_types.specs.declared.scalar.Scalar.TheVariants.{I32}
use Rattle.ir_types.specs.declared.shape.Index.TheVariants.{Num, Register}
use Rattle.ir_types.specs.declared.shape.Stride.{Stride}
use Rattle.ir_types.specs.declared.shape.Stride.TheVariants.{Each, Field}
use Rattle.ir_types.specs.declared.shape.Ty.{Ty, out-Ty}
use Rattle.ir_types.specs.declared.shape.Ty.TheOpen.{Ty-F}
use Rattle.ir_types.specs.declared.shape.Ty.TheFolds.{map-Ty, fold_out-Ty}
use Rattle.ir_types.specs.Layout.{size, extent, fields_in, fields_of, offsets_from, offset_of}
use Rattle.ir_types.specs.Nesting.{nodes, nodes_step}
use Rattle.ir_types.specs.Scalars.{signed_value}
use Rattle.ir_types.specs.Walk.{place, part, part_in, stride, stride_in, strides_within, strides}
use Rattle.ir_types.proofs.Extents.{is_some-offset}
use Rattle.ir_types.proofs.ListSteps.{slice_get-within}
use Rattle.ir_syntax.specs.declared.constant.Operand.{Operand}
use Rattle.ir_syntax.specs.IndexWalks.{index_with, index_of, SuitsStride, SuitStrides}
use Rattle.ir_syntax.specs.Typed.{number_of, field_at, EntersIn, Enters, IsWalk}

-- ---- the place that a number of i32 names

place-negative : (z : ℤ) → z <ℤ pos 0 → place (Num z) ≡ None
place-negative (pos n) h = absurd (omega (arith, ints))
place-negative (negsuc n) h = refl

-- a number below half of 2^32 names the field of its place
pub place-small : (n : ℕ) → n < 2 ^ 31 → place (index_with I32 (Some n)) ≡ Some n
place-small n h = chosen (nat_lt (n % 2 ^ 32) (2 ^ 31)) refl
  where
    chosen : (b : Bool) → nat_lt (n % 2 ^ 32) (2 ^ 31) ≡ b → place (Num (cond b (pos (n % 2 ^ 32)) (pos (n % 2 ^ 32) -ℤ pos (2 ^ 32)))) ≡ Some n
    chosen true e = ap Some (omega arith)
    chosen false e = absurd (false≢true (sym e ∙ lt-ltb (n % 2 ^ 32) (2 ^ 31) (omega arith)))

-- and a number below 2^32 names no other
pub place-number : (n k : ℕ) → n < 2 ^ 32 → place (index_with I32 (Some n)) ≡ Some k → k ≡ n
place-number n k h = chosen (nat_lt (n % 2 ^ 32) (2 ^ 31))
  where
    some_injective : {x y : ℕ} → Some x ≡ Some y → x ≡ y
    some_injective e = cc

    chosen : (b : Bool) → place (Num (cond b (pos (n % 2 ^ 32)) (pos (n % 2 ^ 32) -ℤ pos (2 ^ 32)))) ≡ Some k → k ≡ n
    chosen true e = let same : n % 2 ^ 32 ≡ k = some_injective e in omega arith
    chosen false e =
        let none : place (Num (pos (n % 2 ^ 32) -ℤ pos (2 ^ 32))) ≡ None = place-negative _ (omega (arith, ints)) in
        absurd (cc)

-- ---- parts have fewer nodes

nodes_out : (ty : Ty) (x : Ty-F Ty) → out-Ty ty ≡ x → nodes ty ≡ nodes_step (map-Ty Ty ℕ nodes x)
unfolding nodes
nodes_out ty x is = fold_out-Ty ℕ nodes_step ty ∙ ap (λ y. nodes_step (map-Ty Ty ℕ nodes y)) is

nodes-pos : (ty : Ty) → 1 ≤ nodes ty
nodes-pos ty = by_layer (out-Ty ty) refl
  where
    by_layer : (x : Ty-F Ty) → out-Ty ty ≡ x → 1 ≤ nodes ty
    by_layer (Ty-F.One s) is = omega (arith, nodes_out ty _ is)
    by_layer (Ty-F.Array n t) is = omega (arith, nodes_out ty _ is)
    by_layer (Ty-F.Struct ts) is = omega (arith, nodes_out ty _ is)

length-nodes : (ts : List Ty) → length ts ≤ sum (map nodes ts)
length-nodes [] = omega arith
length-nodes (t ∷ ts) = omega (arith, nodes-pos t, length-nodes ts, sum_by-cons (λ n. n) (nodes t) (map nodes ts))

field-nodes : (ts : List Ty) (k : ℕ) (t : Ty) → slice_get ts k ≡ Some t → nodes t ≤ sum (map nodes ts)
field-nodes [] k t is = absurd (cc)
field-nodes (u ∷ ts) zero t is = let same : u ≡ t = cc in omega (arith, ap nodes same, sum_by-cons (λ n. n) (nodes u) (map nodes ts))
field-nodes (u ∷ ts) (suc k) t is = omega (arith, field-nodes ts k t is, sum_by-cons (λ n. n) (nodes u) (map nodes ts))

-- ---- one index

-- what a walk adds from here on: this stride, and then those of the part
abbrev onward : (Ty → Option (List Stride)) → Option Stride → Option Ty → Option (List Stride)
onward rest s p = option_and_then (λ here. option_and_then (λ inner. option_map (λ more. here ∷ more) (rest inner)) p) s

and_map : (f : List Stride → List Stride) (o : Option (List Stride)) (P Q : List Stride → Type 0) → ((x : List Stride) → P x ↔ Q (f x)) → IsSomeAnd o P ↔ IsSomeAnd (option_map f o) Q
and_map f None P Q each = (λ h. h, λ h. h)
and_map f (Some x) P Q each = each x

-- an index into a struct
struct_case : (s : Scalar) (o : Option ℕ) (fs : List Ty) (offsets : List ℕ) (Rest : Ty → Type 0) (rest : Ty → Option (List Stride)) (More Q : List Stride → Type 0)
    → length fs < 2 ^ 31
    → ((k : ℕ) → is_some (slice_get offsets k) ≡ is_some (slice_get fs k))
    → ((k : ℕ) (t : Ty) → slice_get fs k ≡ Some t → Rest t ↔ IsSomeAnd (rest t) More)
    → ((x : Stride) (xs : List Stride) → (SuitsStride s o x × More xs) ↔ Q (x ∷ xs))
    → ((s ≡ I32) × IsSome (field_at fs o) × IfSome (field_at fs o) Rest)
    ↔ IsSomeAnd (onward rest (option_map Field (option_and_then (slice_get offsets) (place (index_with s o)))) (option_and_then (slice_get fs) (place (index_with s o)))) Q
struct_case s None fs offsets Rest rest More Q few as_many part suits = (λ h. absurd (false≢true h.1), λ h. absurd h)
struct_case s (Some n) fs offsets Rest rest More Q few as_many part suits = (there, back)
  where
    -- one way, at the field
    there_at : (f : Option Ty) (off : Option ℕ) → slice_get fs n ≡ f → slice_get offsets n ≡ off → is_some off ≡ is_some f → s ≡ I32 → IsSome f → IfSome f Rest
        → IsSomeAnd (onward rest (option_map Field off) f) Q
    there_at None off is offset same word some holds = absurd (false≢true some)
    there_at (Some t) None is offset same word some holds = absurd (false≢true same)
    there_at (Some t) (Some a) is offset same word some holds =
        (and_map (λ more. Field a ∷ more) (rest t) More Q (λ xs. (
          λ h. (suits (Field a) xs).0 ((word, omega (arith, slice_get-within fs n t is)), h),
          λ h. ((suits (Field a) xs).1 h).1,
        ))).0 ((part n t is).0 holds)

    there : (s ≡ I32) × IsSome (slice_get fs n) × IfSome (slice_get fs n) Rest → IsSomeAnd (onward rest (option_map Field (option_and_then (slice_get offsets) (place (index_with s (Some n))))) (option_and_then (slice_get fs) (place (index_with s (Some n))))) Q
    there h =
        let here : place (index_with s (Some n)) ≡ Some n = ap (λ ty. place (index_with ty (Some n))) h.0 ∙ place-small n (small (slice_get fs n) refl h.1) in
        let P : Option ℕ → Type 0 = λ p. IsSomeAnd (onward rest (option_map Field (option_and_then (slice_get offsets) p)) (option_and_then (slice_get fs) p)) Q in
        subst P (sym here) (there_at (slice_get fs n) (slice_get offsets n) refl refl (as_many n) h.0 h.1 h.2)
      where
        small : (f : Option Ty) → slice_get fs n ≡ f → IsSome f → n < 2 ^ 31
        small None is some = absurd (false≢true some)
        small (Some t) is some = omega (arith, slice_get-within fs n t is)

    back_at : (p : Option ℕ) (f : Option Ty) (off : Option ℕ) → place (index_with s (Some n)) ≡ p → option_and_then (slice_get fs) p ≡ f → IsSomeAnd (onward rest (option_map Field off) f) Q
        → (s ≡ I32) × IsSome (slice_get fs n) × IfSome (slice_get fs n) Rest
    back_at p f None at is h = absurd h
    back_at p None (Some a) at is h = absurd h
    back_at None (Some t) (Some a) at is h = absurd (cc)
    back_at (Some k) (Some t) (Some a) at is h =
        let suited = inner (rest t) h in
        let same : k ≡ n = place-number n k suited.0.1 (sym (ap (λ ty. place (index_with ty (Some n))) suited.0.0) ∙ at) in
        let found : slice_get fs n ≡ Some t = ap (slice_get fs) (sym same) ∙ is in (
          suited.0.0,
          ap is_some found,
          subst (λ (f : Option Ty). IfSome f Rest) (sym found) ((part n t found).1 suited.1),
        )
      where
        inner : (o : Option (List Stride)) → IsSomeAnd (option_map (λ more. Field a ∷ more) o) Q → ((s ≡ I32) × (n < 2 ^ 32)) × IsSomeAnd o More
        inner None h = absurd h
        inner (Some xs) h = let both = (suits (Field a) xs).1 h in (both.0, both.1)

    back : IsSomeAnd (onward rest (option_map Field (option_and_then (slice_get offsets) (place (index_with s (Some n))))) (option_and_then (slice_get fs) (place (index_with s (Some n))))) Q → (s ≡ I32) × IsSome (slice_get fs n) × IfSome (slice_get fs n) Rest
    back h = back_at (place (index_with s (Some n))) (option_and_then (slice_get fs) (place (index_with s (Some n)))) (option_and_then (slice_get offsets) (place (index_with s (Some n)))) refl refl h

-- an index into any type
one_index : (ty : Ty) (index : Scalar × Operand) (more : List (Scalar × Operand)) → nodes ty < 2 ^ 31
    → ((t : Ty) → nodes t < 2 ^ 31 → Enters t more ↔ IsSomeAnd (strides_within t (map index_of more)) (SuitStrides more))
    → Enters ty (index ∷ more) ↔ IsSomeAnd (strides_within ty (map index_of (index ∷ more))) (SuitStrides (index ∷ more))
unfolding stride part fields_of
one_index ty index more few goes = by_layer (out-Ty ty) refl
  where
    by_layer : (x : Ty-F Ty) → out-Ty ty ≡ x
        → EntersIn x index (λ t. Enters t more) ↔ IsSomeAnd (onward (λ t. strides_within t (map index_of more)) (stride_in ty x (index_of index)) (part_in x (index_of index))) (SuitStrides (index ∷ more))
    by_layer (Ty-F.One s) is = (λ h. absurd h, λ h. absurd h)
    by_layer (Ty-F.Array n t) is =
        let inner = goes t (omega (arith, nodes_out ty _ is)) in
        let stepped = and_map (λ rest. Each (size t) ∷ rest) (strides_within t (map index_of more)) (SuitStrides more) (SuitStrides (index ∷ more)) (λ xs. (λ h. (tt, h), λ h. h.1)) in
        (λ h. stepped.0 (inner.0 h), λ h. inner.1 (stepped.1 h))
    by_layer (Ty-F.Struct fs) is =
        let whole : nodes ty ≡ sum (map nodes fs) + 1 = nodes_out ty _ is in
        struct_case index.0 (number_of index.1) fs (offsets_from 0 (map extent (fields_of ty))) (λ t. Enters t more) (λ t. strides_within t (map index_of more)) (SuitStrides more) (SuitStrides (index ∷ more))
        (omega (arith, length-nodes fs))
        (λ k. ap (λ ts. is_some (slice_get (offsets_from 0 (map extent ts)) k)) (ap fields_in is) ∙ is_some-offset fs k)
        (λ k t found. goes t (omega (arith, field-nodes fs k t found)))
        (λ x xs. (λ h. h, λ h. h))

entered : (indices : List (Scalar × Operand)) (ty : Ty) → nodes ty < 2 ^ 31 → Enters ty indices ↔ IsSomeAnd (strides_within ty (map index_of indices)) (SuitStrides indices)
entered [] ty few = (λ h. tt, λ h. tt)
entered (index ∷ more) ty few = one_index ty index more few (λ t few'. entered more t few')

pub walks : (ty : Ty) (indices : List (Scalar × Operand)) → nodes ty < 2 ^ 31 → IsWalk ty indices ↔ IsSomeAnd (strides ty (map index_of indices)) (SuitStrides indices)
walks ty [] few = (λ h. tt, λ h. tt)
walks ty (first ∷ more) few =
    let inner = entered more ty few in
    let stepped = and_map (λ rest. Each (size ty) ∷ rest) (strides_within ty (map index_of more)) (SuitStrides more) (SuitStrides (first ∷ more)) (λ xs. (λ h. (tt, h), λ h. h.1)) in
    (λ h. stepped.0 (inner.0 h), λ h. inner.1 (stepped.1 h))
