-- Two types of functions that are found to be one are equal.
use Rattle.std.proofs.Common.{◌≡◌, ◌∙◌, Bool, true, false, ◌&&◌, List, [], ◌∷◌, Option, Some, None, refl, ap}
use Rattle.ir_types.specs.declared.scalar.Scalar.{Scalar}
use Rattle.ir_types.specs.declared.scalar.Scalar.TheVariants.{I1, I8, I16, I32, I64, Ptr}
use Rattle.ir_types.specs.declared.scalar.FnType.{FnType}
use Rattle.ir_types.specs.Scalars.{same}
use Rattle.ir_steps.specs.Calls.{same_types, same_return, same_truth, same_type}

same_scalar : (a b : Scalar) → same a b ≡ true → a ≡ b
same_scalar I1 I1 e = refl
same_scalar I8 I8 e = refl
same_scalar I16 I16 e = refl
same_scalar I32 I32 e = refl
same_scalar I64 I64 e = refl
same_scalar Ptr Ptr e = refl
same_scalar a b e = cc

both : (a b : Bool) → (a && b) ≡ true → (a ≡ true) × (b ≡ true)
both true b e = (refl, e)
both false b e = cc

types_same : (one other : List Scalar) → same_types one other ≡ true → one ≡ other
types_same [] [] e = refl
types_same [] (b ∷ bs) e = cc
types_same (a ∷ more) [] e = cc
types_same (a ∷ more) (b ∷ bs) e =
    let h = both (same a b) (same_types more bs) e in
    let head = same_scalar a b h.0 in
    let tail = types_same more bs h.1 in
    cc

truth_same : (a b : Bool) → same_truth a b ≡ true → a ≡ b
truth_same true true e = refl
truth_same true false e = cc
truth_same false true e = cc
truth_same false false e = refl

return_same : (a b : Option Scalar) → same_return a b ≡ true → a ≡ b
return_same None None e = refl
return_same None (Some b) e = cc
return_same (Some a) None e = cc
return_same (Some a) (Some b) e = ap (λ s. Some s) (same_scalar a b e)

made_of : (a b : FnType) → a.params ≡ b.params → a.variadic ≡ b.variadic → a.returns ≡ b.returns → a ≡ b
made_of a b params variadic returns =
    ap (λ x. record { params = x; variadic = a.variadic; returns = a.returns }) params ∙ ap (λ x. record { params = b.params; variadic = x; returns = a.returns }) variadic
    ∙ ap (λ x. record { params = b.params; variadic = b.variadic; returns = x }) returns

pub type_same : (a b : FnType) → same_type a b ≡ true → a ≡ b
type_same a b e =
    let h = both (same_types a.params b.params && same_truth a.variadic b.variadic) (same_return a.returns b.returns) e in
    let g = both (same_types a.params b.params) (same_truth a.variadic b.variadic) h.0 in
    made_of a b (types_same a.params b.params g.0) (truth_same a.variadic b.variadic g.1) (return_same a.returns b.returns h.1)
