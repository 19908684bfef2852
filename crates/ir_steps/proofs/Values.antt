-- Values of types: which there are, and that they stay values where more blocks are made.
use Rattle.std.proofs.Common.{ℕ, zero, suc, ◌≤◌, IsTrue, List, [], ◌∷◌, map, All, Option, Some, None, IfSome, slice_get, arith}
use Rattle.std.specs.List.{AllZip}
use Rattle.std.proofs.lemmas.Bool.{false≢true}
use Rattle.std.proofs.lemmas.List.Elements.{All-nil, All-cons, All-head, All-tail, All-weaker}
use Rattle.ir_types.specs.declared.scalar.Scalar.{Scalar}
use Rattle.ir_types.specs.declared.scalar.Scalar.TheVariants.{Ptr}
use Rattle.ir_types.specs.Scalars.{is_number_of}
use Rattle.ir_syntax.specs.declared.symbol.Sym.{Sym}
use Rattle.ir_syntax.specs.Programs.{ProgramData}
use Rattle.block_memory.specs.declared.value.Name.{Name}
use Rattle.block_memory.specs.declared.value.Name.TheVariants as name
use Rattle.block_memory.specs.declared.value.Val.{Val}
use Rattle.block_memory.specs.declared.value.Val.TheVariants as val
use Rattle.block_memory.specs.declared.value.Part.{Part}
use Rattle.block_memory.specs.declared.value.Part.TheVariants as part
use Rattle.ir_steps.proofs.Fits.{IsThere, IsValue, IsPart}

-- ---- more blocks

pub there_later : (p : ProgramData) (made more : ℕ) (of : Name Sym) → made ≤ more → IsThere p made of → IsThere p more of
there_later p made more (name.Var symbol) l h = h
there_later p made more (name.Func symbol) l h = h
there_later p made more (name.Made number) l h = omega arith

pub value_later : (p : ProgramData) (made more : ℕ) (ty : Scalar) (v : Val Sym) → made ≤ more → IsValue p made ty v → IsValue p more ty v
value_later p made more ty (val.Num n) l h = h
value_later p made more ty val.Null l h = h
value_later p made more ty (val.At of offset) l h = (h.0, there_later p made more of l h.1)
value_later p made more ty val.Poison l h = tt

pub part_later : (p : ProgramData) (made more : ℕ) (x : Part Sym) → made ≤ more → IsPart p made x → IsPart p more x
part_later p made more part.Poison l h = tt
part_later p made more (part.Num byte) l h = h
part_later p made more (part.Of of offset k) l h = there_later p made more of l h

pub parts_later : (p : ProgramData) (made more : ℕ) (parts : List (Part Sym)) → made ≤ more → All (IsPart p made) parts → All (IsPart p more) parts
parts_later p made more parts l h = All-weaker (IsPart p made) (IsPart p more) (λ x k. part_later p made more x l k) parts h

-- what follows for each pair follows for all
pub zip_weaker : {A B : Type 0} (R S : A → B → Type 0) (xs : List A) (ys : List B) → ((x : A) (y : B) → R x y → S x y) → AllZip R xs ys → AllZip S xs ys
zip_weaker R S [] [] each h = tt
zip_weaker R S [] (y ∷ ys) each h = absurd h
zip_weaker R S (x ∷ xs) [] each h = absurd h
zip_weaker R S (x ∷ xs) (y ∷ ys) each h = (each x y h.0, zip_weaker R S xs ys each h.1)

-- two lists that are made from one
pub zip_maps : {A B C : Type 0} (R : B → C → Type 0) (f : A → B) (g : A → C) (xs : List A) → All (λ x. R (f x) (g x)) xs → AllZip R (map f xs) (map g xs)
zip_maps R f g [] h = tt
zip_maps R f g (x ∷ xs) h = (All-head (λ x. R (f x) (g x)) x xs h, zip_maps R f g xs (All-tail (λ x. R (f x) (g x)) x xs h))

-- a value for each type, in order
abbrev pub AreValues : ProgramData → ℕ → List Scalar → List (Val Sym) → Type 0
AreValues p made tys vs = AllZip (IsValue p made) tys vs

pub values_later : (p : ProgramData) (made more : ℕ) (tys : List Scalar) (vs : List (Val Sym)) → made ≤ more → AreValues p made tys vs → AreValues p more tys vs
values_later p made more tys vs l h = zip_weaker (IsValue p made) (IsValue p more) tys vs (λ ty v k. value_later p made more ty v l k) h

-- the same where the types are those of something else, as parameters
pub typed_values_later : {A : Type 0} (p : ProgramData) (made more : ℕ) (type : A → Scalar) (xs : List A) (vs : List (Val Sym)) → made ≤ more
    → AllZip (λ x v. IsValue p made (type x) v) xs vs → AllZip (λ x v. IsValue p more (type x) v) xs vs
typed_values_later p made more type xs vs l h =
    zip_weaker (λ x v. IsValue p made (type x) v) (λ x v. IsValue p more (type x) v) xs vs (λ x v k. value_later p made more (type x) v l k) h

-- ---- which values a type has

-- a value of some type
abbrev pub IsSomeValue : ProgramData → ℕ → Val Sym → Type 0
IsSomeValue p made v = (ty : Scalar) × IsValue p made ty v

pub some_values : (p : ProgramData) (made : ℕ) (tys : List Scalar) (vs : List (Val Sym)) → AreValues p made tys vs → All (IsSomeValue p made) vs
some_values p made [] [] h = All-nil (IsSomeValue p made)
some_values p made [] (v ∷ vs) h = absurd h
some_values p made (ty ∷ tys) [] h = absurd h
some_values p made (ty ∷ tys) (v ∷ vs) h = All-cons (IsSomeValue p made) v vs (ty, h.0) (some_values p made tys vs h.1)

-- An address is no number.
pub pointer_is_no_number : (n : ℕ) → IsTrue (is_number_of Ptr n) → ⊥
pointer_is_no_number n h = false≢true h

-- the value that a call gives: none where its function returns nothing
abbrev pub IsResult : ProgramData → ℕ → Option Scalar → Option (Val Sym) → Type 0
IsResult p made None None = Unit {0}
IsResult p made None (Some v) = ⊥
IsResult p made (Some ty) None = ⊥
IsResult p made (Some ty) (Some v) = IsValue p made ty v

pub result_later : (p : ProgramData) (made more : ℕ) (returns : Option Scalar) (result : Option (Val Sym)) → made ≤ more → IsResult p made returns result → IsResult p more returns result
result_later p made more None None l h = tt
result_later p made more None (Some v) l h = h
result_later p made more (Some ty) None l h = h
result_later p made more (Some ty) (Some v) l h = value_later p made more ty v l h

-- What holds of each element holds of the one at a place, where there is one.
pub element_is : {A : Type 0} (P : A → Type 0) (xs : List A) (k : ℕ) → All P xs → IfSome (slice_get xs k) P
element_is P [] k h = tt
element_is P (x ∷ xs) zero h = All-head P x xs h
element_is P (x ∷ xs) (suc k) h = element_is P xs k (All-tail P x xs h)
