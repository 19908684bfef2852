-- Types of functions are one or they aren't.
use Rattle.std.proofs.Common.{◌≡◌, ◌≢◌, ◌∙◌, ◌⊎◌, inl, inr, ℕ, zero, suc, Bool, true, false, List, [], ◌∷◌, Option, None, Some, refl, ap, sym}
use Rattle.ir_types.specs.declared.scalar.Scalar.{Scalar}
use Rattle.ir_types.specs.declared.scalar.Scalar.TheVariants.{I1, I8, I16, I32, I64, Ptr}
use Rattle.ir_types.specs.declared.scalar.FnType.{FnType}
use Rattle.fold_facts.proofs.Lists.{some_is, is_or_not}

abbrev code : Scalar → ℕ
code I1 = 0
code I8 = 1
code I16 = 2
code I32 = 3
code I64 = 4
code Ptr = 5

abbrev scalar_of : ℕ → Scalar
scalar_of zero = I1
scalar_of (suc zero) = I8
scalar_of (suc (suc zero)) = I16
scalar_of (suc (suc (suc zero))) = I32
scalar_of (suc (suc (suc (suc zero)))) = I64
scalar_of (suc (suc (suc (suc (suc n))))) = Ptr

coded : (s : Scalar) → scalar_of (code s) ≡ s
coded I1 = refl
coded I8 = refl
coded I16 = refl
coded I32 = refl
coded I64 = refl
coded Ptr = refl

scalar_or_not : (s t : Scalar) → (s ≡ t) ⊎ (s ≢ t)
scalar_or_not s t = by (is_or_not (code s) (code t))
  where
    by : (code s ≡ code t) ⊎ (code s ≢ code t) → (s ≡ t) ⊎ (s ≢ t)
    by (inl e) = inl (sym (coded s) ∙ ap scalar_of e ∙ coded t)
    by (inr never) = inr (λ e. never (ap code e))

bool_or_not : (a b : Bool) → (a ≡ b) ⊎ (a ≢ b)
bool_or_not true true = inl refl
bool_or_not true false = inr (λ e. cc)
bool_or_not false true = inr (λ e. cc)
bool_or_not false false = inl refl

option_or_not : {A : Type 0} → ((x y : A) → (x ≡ y) ⊎ (x ≢ y)) → (a b : Option A) → (a ≡ b) ⊎ (a ≢ b)
option_or_not {A} decide None None = inl refl
option_or_not {A} decide None (Some y) = inr (λ e. cc)
option_or_not {A} decide (Some x) None = inr (λ e. cc)
option_or_not {A} decide (Some x) (Some y) = by (decide x y)
  where
    by : (x ≡ y) ⊎ (x ≢ y) → (Some x ≡ Some y) ⊎ (Some x ≢ Some y)
    by (inl e) = inl (ap Some e)
    by (inr never) = inr (λ e. never (some_is e))

list_or_not : {A : Type 0} → ((x y : A) → (x ≡ y) ⊎ (x ≢ y)) → (xs ys : List A) → (xs ≡ ys) ⊎ (xs ≢ ys)
list_or_not {A} decide [] [] = inl refl
list_or_not {A} decide [] (y ∷ ys) = inr (λ e. cc)
list_or_not {A} decide (x ∷ xs) [] = inr (λ e. cc)
list_or_not {A} decide (x ∷ xs) (y ∷ ys) = by (decide x y) (list_or_not decide xs ys)
  where
    head_is : (x ∷ xs) ≡ (y ∷ ys) → x ≡ y
    head_is e = cc

    tail_is : (x ∷ xs) ≡ (y ∷ ys) → xs ≡ ys
    tail_is e = cc

    by : (x ≡ y) ⊎ (x ≢ y) → (xs ≡ ys) ⊎ (xs ≢ ys) → ((x ∷ xs) ≡ (y ∷ ys)) ⊎ ((x ∷ xs) ≢ (y ∷ ys))
    by (inl e) (inl g) = inl (λ i. e i ∷ g i)
    by (inl e) (inr never) = inr (λ h. never (tail_is h))
    by (inr never) g = inr (λ h. never (head_is h))

type_or_not : (a b : FnType) → (a ≡ b) ⊎ (a ≢ b)
type_or_not a b = by (list_or_not scalar_or_not a.params b.params) (bool_or_not a.variadic b.variadic) (option_or_not scalar_or_not a.returns b.returns)
  where
    by : (a.params ≡ b.params) ⊎ (a.params ≢ b.params) → (a.variadic ≡ b.variadic) ⊎ (a.variadic ≢ b.variadic) → (a.returns ≡ b.returns) ⊎ (a.returns ≢ b.returns) → (a ≡ b) ⊎ (a ≢ b)
    by (inl x) (inl y) (inl z) = inl (λ i. record { params = x i; variadic = y i; returns = z i })
    by (inl x) (inl y) (inr never) = inr (λ e. never (ap (λ t. t.returns) e))
    by (inl x) (inr never) z = inr (λ e. never (ap (λ t. t.variadic) e))
    by (inr never) y z = inr (λ e. never (ap (λ t. t.params) e))

-- What can't be apart is one.
pub types_are_one : (a b : Option FnType) → ((a ≢ b) → ⊥) → a ≡ b
types_are_one a b h = by (option_or_not type_or_not a b)
  where
    by : (a ≡ b) ⊎ (a ≢ b) → a ≡ b
    by (inl e) = e
    by (inr never) = absurd (h never)
