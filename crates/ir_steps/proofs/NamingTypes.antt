-- Types of functions that can't differ are one.
use Rattle.std.proofs.Common.{◌≡◌, ◌≢◌, ◌∙◌, ℕ, zero, suc, Bool, true, false, List, [], ◌∷◌, map, Option, Some, None, bytes_eq, refl, ap, sym}
use Rattle.std.proofs.lemmas.Bool.{false≢true}
use Rattle.std.proofs.lemmas.Slice.Eq.{bytes_eq-Decides}
use Rattle.ir_types.specs.declared.scalar.Scalar.{Scalar}
use Rattle.ir_types.specs.declared.scalar.Scalar.TheVariants.{I1, I8, I16, I32, I64, Ptr}
use Rattle.ir_types.specs.declared.scalar.FnType.{FnType}

-- ---- a type as a list of numbers, and back

abbrev scalar_code : Scalar → ℕ
scalar_code I1 = 0
scalar_code I8 = 1
scalar_code I16 = 2
scalar_code I32 = 3
scalar_code I64 = 4
scalar_code Ptr = 5

abbrev scalar_of : ℕ → Scalar
scalar_of zero = I1
scalar_of (suc zero) = I8
scalar_of (suc (suc zero)) = I16
scalar_of (suc (suc (suc zero))) = I32
scalar_of (suc (suc (suc (suc zero)))) = I64
scalar_of (suc (suc (suc (suc (suc n))))) = Ptr

scalar_back : (ty : Scalar) → scalar_of (scalar_code ty) ≡ ty
scalar_back I1 = refl
scalar_back I8 = refl
scalar_back I16 = refl
scalar_back I32 = refl
scalar_back I64 = refl
scalar_back Ptr = refl

abbrev truth_code : Bool → ℕ
truth_code true = 1
truth_code false = 0

abbrev truth_of : ℕ → Bool
truth_of zero = false
truth_of (suc n) = true

truth_back : (b : Bool) → truth_of (truth_code b) ≡ b
truth_back true = refl
truth_back false = refl

abbrev return_code : Option Scalar → ℕ
return_code None = 0
return_code (Some ty) = suc (scalar_code ty)

abbrev return_of : ℕ → Option Scalar
return_of zero = None
return_of (suc n) = Some (scalar_of n)

return_back : (o : Option Scalar) → return_of (return_code o) ≡ o
return_back None = refl
return_back (Some ty) = ap Some (scalar_back ty)

abbrev code : FnType → List ℕ
code ty = return_code ty.returns ∷ truth_code ty.variadic ∷ map scalar_code ty.params

abbrev type_in : List ℕ → FnType
type_in [] = record { params = []; variadic = false; returns = None }
type_in (r ∷ []) = record { params = []; variadic = false; returns = return_of r }
type_in (r ∷ v ∷ params) = record { params = map scalar_of params; variadic = truth_of v; returns = return_of r }

params_back : (params : List Scalar) → map scalar_of (map scalar_code params) ≡ params
params_back [] = refl
params_back (ty ∷ more) = let here = scalar_back ty in let rest = params_back more in cc

code_back : (ty : FnType) → type_in (code ty) ≡ ty
code_back ty =
    ap (λ params. record { params = params; variadic = truth_of (truth_code ty.variadic); returns = return_of (return_code ty.returns) }) (params_back ty.params)
    ∙ ap (λ v. record { params = ty.params; variadic = v; returns = return_of (return_code ty.returns) }) (truth_back ty.variadic)
    ∙ ap (λ r. record { params = ty.params; variadic = ty.variadic; returns = r }) (return_back ty.returns)

-- ---- types

pub types_are_one : (a b : FnType) → ((a ≢ b) → ⊥) → a ≡ b
types_are_one a b never = by (bytes_eq (code a) (code b)) refl
  where
    by : (t : Bool) → bytes_eq (code a) (code b) ≡ t → a ≡ b
    by true e = sym (code_back a) ∙ ap type_in ((bytes_eq-Decides (code a) (code b)).0 e) ∙ code_back b
    by false e = absurd (never (λ one. false≢true (sym e ∙ (bytes_eq-Decides (code a) (code b)).1 (ap code one))))
