-- The whole type of a call, where it is written, is read again.
use Rattle.std.proofs.Common.{◌≡◌, ◌∙◌, ℕ, ◌+◌, Bool, true, false, not, cond, ◌||◌, List, [], ◌∷◌, ◌++◌, length, map, drop, Option, Some, None, option_map, refl, sym, ap, subst, append_assoc, length-append}
use Rattle.std.specs.Prelude.{All}
use Rattle.std.proofs.Math.Seq.{drop-append_seam}
use Rattle.std.proofs.lemmas.Bool.{false≢true, true≢false, and_parts}
use Rattle.std.proofs.lemmas.List.Elements.{All-nil, All-cons}
use Rattle.ir_types.specs.declared.scalar.Scalar.{Scalar}
use Rattle.ir_types.specs.declared.scalar.Scalar.TheVariants.{I1, I8, I16, I32, I64, Ptr}
use Rattle.ir_types.specs.declared.scalar.FnType.{FnType}
use Rattle.ir_types.specs.Scalars.{same}
use Rattle.ir_syntax.specs.declared.body.Arg.{Arg}
use Rattle.ir_scope.specs.Runs.{Reading, begins_with, runs}
use Rattle.ir_constants.specs.Constants.{is_close_paren}
use Rattle.ir_operands.specs.Marks.{is_scalar, scalar_at, dots_at}
use Rattle.ir_calls.specs.Calls.{types_at, whole_at, call_type}
use Rattle.ir_writer.specs.Instructions.{same_types, is_whole}
use Rattle.round_trip.proofs.Grammar.Kept.{Lexemes, joined, scalar_kept, dots_kept, close_paren_kept, whole_kept}
use Rattle.round_trip.proofs.Constants.Runs.{IsReadBack, runs_back}
use Rattle.round_trip.proofs.Lines.Words.{one_more, joined_back, ended_back}

-- ---- the types of parameters

abbrev one_kept : Scalar → Lexemes
one_kept ty = scalar_kept ty ∷ []

one_by_one : (tys : List Scalar) → joined (map one_kept tys) ≡ map scalar_kept tys
one_by_one [] = refl
one_by_one (ty ∷ tys) = ap (λ ks. scalar_kept ty ∷ ks) (one_by_one tys)

abbrev IsScalarBack : Scalar → Type 0
IsScalarBack ty = IsReadBack is_scalar scalar_at ty (one_kept ty)

are_scalars : (tys : List Scalar) → All IsScalarBack tys
are_scalars [] = All-nil IsScalarBack
are_scalars (ty ∷ tys) = All-cons IsScalarBack ty tys (record { starts = refl; back = λ rest. refl }) (are_scalars tys)

scalars_back : (tys : List Scalar) (rest : Lexemes) → begins_with is_scalar rest ≡ false → runs is_scalar scalar_at (map scalar_kept tys ++ rest) ≡ Some (tys, length (map scalar_kept tys))
scalars_back tys rest ends =
    subst (λ ks. runs is_scalar scalar_at (ks ++ rest) ≡ Some (tys, length ks)) (one_by_one tys) (runs_back is_scalar scalar_at one_kept tys rest (are_scalars tys) ends)

dots_back : (variadic : Bool) (rest : Lexemes) → dots_at (dots_kept variadic ++ (close_paren_kept ∷ rest)) ≡ (variadic, length (dots_kept variadic))
dots_back true rest = refl
dots_back false rest = refl

no_scalar : (variadic : Bool) (rest : Lexemes) → begins_with is_scalar (dots_kept variadic ++ (close_paren_kept ∷ rest)) ≡ false
no_scalar true rest = refl
no_scalar false rest = refl

-- the types, and then the dots
abbrev dotted : Lexemes → List Scalar × ℕ → (List Scalar × Bool) × ℕ
dotted ks f = let dots = dots_at (drop f.1 ks) in ((f.0, dots.0), f.1 + dots.1)

abbrev listed_at : Reading (List Scalar × Bool)
listed_at ks = option_map (dotted ks) (runs is_scalar scalar_at ks)

listed_back : (tys : List Scalar) (variadic : Bool) (rest : Lexemes) →
    listed_at ((map scalar_kept tys ++ dots_kept variadic) ++ (close_paren_kept ∷ rest)) ≡ Some ((tys, variadic), length (map scalar_kept tys ++ dots_kept variadic))
listed_back tys variadic rest =
    ap listed_at (append_assoc (map scalar_kept tys) (dots_kept variadic) (close_paren_kept ∷ rest))
    ∙ ap (option_map (dotted (map scalar_kept tys ++ behind_types))) (scalars_back tys behind_types (no_scalar variadic rest))
    ∙ ap (λ ks. Some ((tys, (dots_at ks).0), length (map scalar_kept tys) + (dots_at ks).1)) (drop-append_seam (map scalar_kept tys) behind_types)
    ∙ ap (λ (dots : Bool × ℕ). Some ((tys, dots.0), length (map scalar_kept tys) + dots.1)) (dots_back variadic rest)
    ∙ ap (λ n. Some ((tys, variadic), n)) (sym (length-append (map scalar_kept tys) (dots_kept variadic)))
  where
    behind_types : Lexemes
    behind_types = dots_kept variadic ++ (close_paren_kept ∷ rest)

types_back : (tys : List Scalar) (variadic : Bool) (rest : Lexemes) →
    types_at ((map scalar_kept tys ++ (dots_kept variadic ++ close_paren_kept ∷ [])) ++ rest) ≡ Some ((tys, variadic), length (map scalar_kept tys ++ (dots_kept variadic ++ close_paren_kept ∷ [])))
types_back tys variadic rest =
    joined_back types_at (tys, variadic) (map scalar_kept tys) (dots_kept variadic) (close_paren_kept ∷ []) rest
    (ended_back is_close_paren listed_at (tys, variadic) (map scalar_kept tys ++ dots_kept variadic) close_paren_kept rest (listed_back tys variadic rest) refl)

-- ---- the whole type

-- what is read of it
abbrev pub given : FnType → List Arg → Option (List Scalar × Bool)
given fn_ty args = cond (is_whole fn_ty args) (Some (fn_ty.params, fn_ty.variadic)) None

-- and what is written of it
abbrev pub given_kept : FnType → List Arg → Lexemes
given_kept fn_ty args = cond (is_whole fn_ty args) (whole_kept fn_ty) []

pub whole_back : (fn_ty : FnType) (args : List Arg) (rest : Lexemes) → whole_at rest ≡ Some (None, 0) → whole_at (given_kept fn_ty args ++ rest) ≡ Some (given fn_ty args, length (given_kept fn_ty args))
whole_back fn_ty args rest none = cases (is_whole fn_ty args)
  where
    cases : (b : Bool) → whole_at (cond b (whole_kept fn_ty) [] ++ rest) ≡ Some (cond b (Some (fn_ty.params, fn_ty.variadic)) None, length (cond b (whole_kept fn_ty) []))
    cases true =
        one_more (Some (fn_ty.params, fn_ty.variadic)) (length (map scalar_kept fn_ty.params ++ (dots_kept fn_ty.variadic ++ close_paren_kept ∷ []))) _
        (ap (option_map (λ f. (Some f.0, f.1))) (types_back fn_ty.params fn_ty.variadic rest))
    cases false = none

-- ---- the type that is called

scalar_is : (s t : Scalar) → same s t ≡ true → s ≡ t
scalar_is I1 I1 e = refl
scalar_is I8 I8 e = refl
scalar_is I16 I16 e = refl
scalar_is I32 I32 e = refl
scalar_is I64 I64 e = refl
scalar_is Ptr Ptr e = refl
scalar_is s t e = absurd (false≢true e)

types_are : (tys others : List Scalar) → same_types tys others ≡ true → tys ≡ others
types_are [] [] e = refl
types_are [] (other ∷ others) e = absurd (false≢true e)
types_are (ty ∷ tys) [] e = absurd (false≢true e)
types_are (ty ∷ tys) (other ∷ others) e =
    let two = and_parts (same ty other) (same_types tys others) e in
    λ j. scalar_is ty other two.0 j ∷ types_are tys others two.1 j

neither : (a b : Bool) → (a || not b) ≡ false → (a ≡ false) × (b ≡ true)
neither true b e = absurd (true≢false e)
neither false true e = (refl, refl)
neither false false e = absurd (true≢false e)

pub called : (fn_ty : FnType) (args : List Arg) (returns : Option Scalar) → returns ≡ fn_ty.returns → call_type returns (given fn_ty args) args ≡ fn_ty
called fn_ty args returns returned = cases (is_whole fn_ty args) refl
  where
    tys : List Scalar
    tys = map (λ (arg : Arg). arg.ty) args

    cases : (b : Bool) → is_whole fn_ty args ≡ b → call_type returns (cond b (Some (fn_ty.params, fn_ty.variadic)) None) args ≡ fn_ty
    cases true whole = λ j. record { params = fn_ty.params; variadic = fn_ty.variadic; returns = returned j }
    cases false part =
        let both = neither fn_ty.variadic (same_types fn_ty.params tys) part in
        λ j. record { params = sym (types_are fn_ty.params tys both.1) j; variadic = sym both.0 j; returns = returned j }
