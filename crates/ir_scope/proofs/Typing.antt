-- Types that are read: which of them fit, and those of structs.
use Rattle.std.proofs.Common.{◌≡◌, ◌∙◌, ◌⊎◌, inl, inr, ℕ, ◌+◌, ◌<◌, ◌≤◌, suc, zero, Bool, true, false, cond, ◌&&◌, nat_le, List, [], ◌∷◌, ◌++◌, map, sum, drop, Option, Some, None, option_map, refl, sym, ap, arith}
use Rattle.std.proofs.lemmas.Bool.{and_right}
use Rattle.std.proofs.lemmas.Bool.Decides.{nat_tests}
use Rattle.ir_types.specs.declared.shape.Ty.{Ty}
use Rattle.ir_types.specs.declared.shape.Ty.TheViews.{Array, Struct}
use Rattle.ir_types.specs.Nesting.{greatest, nesting, nodes}
use Rattle.ir_types.proofs.Nestings.{nesting-Array, nesting-Struct, nodes-Array, nodes-Struct}
use Rattle.ir_grammar.specs.declared.shape.Shape.TheVariants as is
use Rattle.ir_grammar.specs.declared.lexeme.Lexeme.{Lexeme}
use Rattle.ir_grammar.specs.Tokens.{Kept, seen}
use Rattle.ir_scope.specs.Runs.{behind, begins_with}
use Rattle.ir_scope.specs.Types.{type_at, fits, fitting, is_close_brace}
use Rattle.ir_scope.specs.Mirrors.Reads.{array_at, struct_at, struct_of}
use Rattle.ir_scope.proofs.Runs.{read_on, seen-rest, closed-is, closed-none}
use Rattle.ir_scope.proofs.Measuring.{nodes_on}

-- ---- what fits

within-is : (n k : ℕ) → n ≤ k → nat_le n k ≡ true
within-is n k least = grind (arith, nat_tests, least)

within-isn't : (n k : ℕ) → k < n → nat_le n k ≡ false
within-isn't n k less = grind (arith, nat_tests, less)

pub fits-is : (ty : Ty) → nesting ty ≤ 64 → nodes ty ≤ 4096 → fits ty ≡ true
fits-is ty nests few = ap (λ b. b && nat_le (nodes ty) 4096) (within-is (nesting ty) 64 nests) ∙ within-is (nodes ty) 4096 few

pub fits-isn't : (ty : Ty) → (64 < nesting ty) ⊎ (4096 < nodes ty) → fits ty ≡ false
fits-isn't ty large = elim large [
  | inl h ↦ ap (λ b. b && nat_le (nodes ty) 4096) (within-isn't (nesting ty) 64 h)
  | inr h ↦ ap (λ b. nat_le (nesting ty) 64 && b) (within-isn't (nodes ty) 4096 h) ∙ and_right (nat_le (nesting ty) 64) false refl
]

pub fitting-is : (ty : Ty) (n : ℕ) → nesting ty ≤ 64 → nodes ty ≤ 4096 → fitting (Some (ty, n)) ≡ Some (ty, n)
fitting-is ty n nests few = ap (λ b. cond b (Some (ty, n)) None) (fits-is ty nests few)

pub fitting-isn't : (ty : Ty) (n : ℕ) → (64 < nesting ty) ⊎ (4096 < nodes ty) → fitting (Some (ty, n)) ≡ None
fitting-isn't ty n large = ap (λ b. cond b (Some (ty, n)) None) (fits-isn't ty large)

-- ---- forms

pub type-square : (look : List ℕ → Option Ty) (depth : ℕ) (text : List ℕ) (ks : List Kept) → type_at look depth ((is.OpenSquare, text) ∷ ks) ≡ array_at look depth ks
type-square look zero text [] = refl
type-square look zero text ((is.Int digits, count) ∷ ks) = refl
type-square look zero text (k ∷ ks) = refl
type-square look (suc depth) text [] = refl
type-square look (suc depth) text ((is.Int digits, count) ∷ ks) = refl
type-square look (suc depth) text (k ∷ ks) = refl

pub type-brace : (look : List ℕ → Option Ty) (depth : ℕ) (text : List ℕ) (ks : List Kept) → type_at look depth ((is.OpenBrace, text) ∷ ks) ≡ struct_at look depth ks
type-brace look zero text ks = refl
type-brace look (suc depth) text ks = refl

-- ---- structs

struct_at-large : (ts : List Ty) (n : ℕ) → (64 < greatest (map nesting ts) + 1) ⊎ (4096 < sum (map nodes ts) + 1) → fitting (Some (Struct ts, n)) ≡ None
struct_at-large ts n large = fitting-isn't (Struct ts) n (elim large [ inl h ↦ inl (omega (arith, nesting-Struct ts, h)) | inr h ↦ inr (omega (arith, nodes-Struct ts, h)) ])

-- fields with so many nodes make no struct that fits
pub too_many : (ks : List Kept) (ts : List Ty) (at : ℕ) (o : Option (List Ty × ℕ)) → 4096 < sum (map nodes ts) + 1 → struct_of ks (read_on ts at o) ≡ None
too_many ks ts at None many = refl
too_many ks ts at (Some r) many = cases (begins_with is_close_brace (drop (at + r.1) ks)) refl
  where
    all : List Ty
    all = ts ++ r.0

    cases : (b : Bool) → begins_with is_close_brace (drop (at + r.1) ks) ≡ b → struct_of ks (Some (ts ++ r.0, at + r.1)) ≡ None
    cases true closes =
        ap (λ o. fitting (behind 1 (option_map (λ (f : List Ty × ℕ). (Struct f.0, f.1)) o))) (closed-is is_close_brace ks (ts ++ r.0) (at + r.1) closes)
        ∙ struct_at-large (ts ++ r.0) (1 + (at + r.1 + 1)) (inr (omega (arith, many, nodes_on ts r.0)))
    cases false closes = ap (λ o. fitting (behind 1 (option_map (λ (f : List Ty × ℕ). (Struct f.0, f.1)) o))) (closed-none is_close_brace ks (ts ++ r.0) (at + r.1) closes)

-- ---- arrays

-- the array is too large where its elements are
pub array_large : (n : ℕ) (t : Ty) (taken : ℕ) → (64 ≤ nesting t) ⊎ (4096 ≤ nodes t) → None ≡ fitting (Some (Array n t, taken))
array_large n t taken large = sym (fitting-isn't (Array n t) taken (elim large [ inl h ↦ inl (omega (arith, nesting-Array n t, h)) | inr h ↦ inr (omega (arith, nodes-Array n t, h)) ]))

-- ---- the end of a struct

abbrev struct_by : Option (List Ty × ℕ) → Option (Ty × ℕ)
struct_by o = fitting (behind 1 (option_map (λ f. (Struct f.0, f.1)) o))

pub struct_fits : (xs rest : List Lexeme) (ts : List Ty) (at : ℕ) → rest ≡ drop at xs → true ≡ begins_with is_close_brace (seen rest) → greatest (map nesting ts) < 64 → sum (map nodes ts) < 4096 →
    Some (Struct ts, at + 2) ≡ struct_of (seen xs) (Some (ts, at))
struct_fits xs rest ts at is closes nests few =
    let e = seen-rest xs rest at is in
    let closed = closed-is is_close_brace (seen xs) ts at (ap (begins_with is_close_brace) (sym e) ∙ sym closes) in
    let count : 1 + (at + 1) ≡ at + 2 = omega arith in
    sym (ap struct_by closed ∙ (fitting-is (Struct ts) (1 + (at + 1)) (omega (arith, nesting-Struct ts)) (omega (arith, nodes-Struct ts)) ∙ ap (λ n. Some (Struct ts, n)) count))

pub struct_open : (xs rest : List Lexeme) (ts : List Ty) (at : ℕ) → rest ≡ drop at xs → false ≡ begins_with is_close_brace (seen rest) → None ≡ struct_of (seen xs) (Some (ts, at))
struct_open xs rest ts at is closes =
    let e = seen-rest xs rest at is in
    sym (ap struct_by (closed-none is_close_brace (seen xs) ts at (ap (begins_with is_close_brace) (sym e) ∙ sym closes)))

pub struct_deep : (ks : List Kept) (ts : List Ty) (at : ℕ) → 64 ≤ greatest (map nesting ts) → None ≡ struct_of ks (Some (ts, at))
struct_deep ks ts at deep = cases (begins_with is_close_brace (drop at ks)) refl
  where
    cases : (b : Bool) → begins_with is_close_brace (drop at ks) ≡ b → None ≡ struct_of ks (Some (ts, at))
    cases true closes = sym (ap struct_by (closed-is is_close_brace ks ts at closes) ∙ struct_at-large ts (1 + (at + 1)) (inl (omega (arith, deep))))
    cases false closes = sym (ap struct_by (closed-none is_close_brace ks ts at closes))

-- fields that were read have too many nodes
pub fields_many : (ks : List Kept) (ts : List Ty) (at : ℕ) (o all : Option (List Ty × ℕ)) → 4096 < sum (map nodes ts) + 1 → read_on ts at o ≡ all → struct_of ks all ≡ None
fields_many ks ts at o all many so_far = sym (ap (struct_of ks) so_far) ∙ too_many ks ts at o many

pub fields_none : (ks : List Kept) (all : Option (List Ty × ℕ)) → None ≡ all → struct_of ks all ≡ None
fields_none ks all none = ap (struct_of ks) (sym none)
