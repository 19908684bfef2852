-- How deep types nest and how many nodes they have, by their forms.
use Rattle.std.proofs.Common.{◌≡◌, ◌∙◌, ◌⊎◌, inl, inr, ℕ, ◌+◌, ◌-◌, ◌<◌, ◌≤◌, max, List, [], ◌∷◌, ◌++◌, map, sum, refl, sym, ap, arith}
use Rattle.std.proofs.lemmas.List.Sums.{sum_by-cons}
use Rattle.ir_types.specs.declared.scalar.Scalar.{Scalar}
use Rattle.ir_types.specs.declared.shape.Ty.{Ty, out-Ty}
use Rattle.ir_types.specs.declared.shape.Ty.TheOpen.{Ty-F}
use Rattle.ir_types.specs.declared.shape.Ty.TheBlock.{One}
use Rattle.ir_types.specs.declared.shape.Ty.TheViews.{Array, Struct}
use Rattle.ir_types.specs.declared.shape.Ty.TheFolds.{map-Ty, fold_out-Ty}
use Rattle.ir_types.specs.Nesting.{greatest, nesting, nodes, nodes_step}
use Rattle.ir_types.proofs.Nestings.{nesting-One, nesting-Array, nesting-Struct, nodes-One, nodes-Array, nodes-Struct}

-- each type has a node
pub nodes-positive : (ty : Ty) → 1 ≤ nodes ty
unfolding nodes
nodes-positive ty = omega (arith, fold_out-Ty ℕ nodes_step ty, by_shape (map-Ty Ty ℕ nodes (out-Ty ty)))
  where
    by_shape : (x : Ty-F ℕ) → 1 ≤ nodes_step x
    by_shape (Ty-F.One s) = omega arith
    by_shape (Ty-F.Array n element) = omega arith
    by_shape (Ty-F.Struct fields) = omega arith

-- the measures of a type
pub record HasMeasures (ty : Ty) (nests has : ℕ) : Type 0 where
  pub nesting : nesting ty ≡ nests
  pub nodes : nodes ty ≡ has

pub scalar_measures : (ty : Ty) (s : Scalar) → ty ≡ One s → HasMeasures ty 0 1
scalar_measures ty s is = record { nesting = ap nesting is ∙ nesting-One s; nodes = ap nodes is ∙ nodes-One s }

pub array_measures : (ty : Ty) (n : ℕ) (t u : Ty) → ty ≡ Array n t → u ≡ t → HasMeasures ty (nesting u + 1) (nodes u + 1)
array_measures ty n t u is same = record {
  nesting = ap nesting is ∙ nesting-Array n t ∙ ap (λ v. nesting v + 1) (sym same);
  nodes = ap nodes is ∙ nodes-Array n t ∙ ap (λ v. nodes v + 1) (sym same);
}

pub struct_measures : (ty : Ty) (fields ts : List Ty) → ty ≡ Struct fields → ts ≡ fields → HasMeasures ty (greatest (map nesting ts) + 1) (sum (map nodes ts) + 1)
struct_measures ty fields ts is same = record {
  nesting = ap nesting is ∙ nesting-Struct fields ∙ ap (λ us. greatest (map nesting us) + 1) (sym same);
  nodes = ap nodes is ∙ nodes-Struct fields ∙ ap (λ us. sum (map nodes us) + 1) (sym same);
}

-- a type is too large where its parts are
pub too_large : (ty : Ty) (nests has depth most : ℕ) → HasMeasures ty (nests + 1) (has + 1) → 0 < depth → 0 < most → (depth - 1 < nests) ⊎ (most - 1 < has) → (depth < nesting ty) ⊎ (most < nodes ty)
too_large ty nests has depth most is deep some larger = elim larger [ inl h ↦ inl (omega (arith, is.nesting, h)) | inr h ↦ inr (omega (arith, is.nodes, h)) ]

-- ---- lists of types

pub greatest-more : (ns : List ℕ) (n : ℕ) → greatest (ns ++ n ∷ []) ≡ max (greatest ns) n
greatest-more [] n = omega arith
greatest-more (m ∷ ns) n = omega (arith, greatest-more ns n)

pub nodes_more : (ts : List Ty) (t : Ty) → sum (map nodes (ts ++ t ∷ [])) ≡ sum (map nodes ts) + nodes t
nodes_more [] t = omega arith
nodes_more (u ∷ ts) t = omega (arith, nodes_more ts t, sum_by-cons (λ n. n) (nodes u) (map nodes (ts ++ t ∷ [])), sum_by-cons (λ n. n) (nodes u) (map nodes ts))

pub nesting_more : (ts : List Ty) (t : Ty) → greatest (map nesting (ts ++ t ∷ [])) ≡ max (greatest (map nesting ts)) (nesting t)
nesting_more [] t = omega arith
nesting_more (u ∷ ts) t = omega (arith, nesting_more ts t)

pub nodes_on : (ts us : List Ty) → sum (map nodes ts) ≤ sum (map nodes (ts ++ us))
nodes_on [] us = omega arith
nodes_on (t ∷ ts) us = omega (arith, nodes_on ts us, sum_by-cons (λ n. n) (nodes t) (map nodes (ts ++ us)), sum_by-cons (λ n. n) (nodes t) (map nodes ts))
