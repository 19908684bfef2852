-- Names that are known to stand for a type.
use Rattle.std.proofs.Common.{◌≡◌, ◌∙◌, ℕ, suc, zero, Bool, true, false, cond, bytes_eq, List, [], ◌∷◌, drop, Option, Some, None, IfSome, option_map, option_and_then, refl, sym, ap, subst}
use Rattle.std.proofs.lemmas.Bool.{false≢true}
use Rattle.std.proofs.lemmas.Slice.Eq.{bytes_eq-Decides}
use Rattle.ir_types.specs.declared.shape.Ty.{Ty}
use Rattle.ir_syntax.specs.declared.constant.Const.{Const}
use Rattle.ir_lexer.specs.Texts.{name_of}
use Rattle.ir_grammar.specs.declared.shape.Shape.{Shape}
use Rattle.ir_grammar.specs.declared.shape.Shape.TheVariants as is
use Rattle.ir_grammar.specs.declared.lexeme.Lexeme.{Lexeme}
use Rattle.ir_grammar.specs.Tokens.{Kept, seen}
use Rattle.ir_scope.specs.Runs.{Reading, behind}
use Rattle.ir_scope.specs.Scopes.{Env}
use Rattle.ir_scope.specs.Types.{written_type, type_named, fits, fitting, same_type}
use Rattle.ir_scope.proofs.Runs.{seen-drop}
use Rattle.ir_constants.specs.Constants.{part_at}
use Rattle.ir_constants.specs.Mirrors.Known.{typed_at, StandsFor, is_local, front_name, are_one}

-- ---- the name at the front

local_is : (s : Shape) → is_local s ≡ true → s ≡ is.Local
local_is is.Local e = refl
local_is _ e = absurd (false≢true e)

front_is : (ks : List Kept) (text : List ℕ) → front_name ks ≡ Some text → ks ≡ (is.Local, text) ∷ drop 1 ks
front_is [] text e = absurd (cc)
front_is (k ∷ ks) text e = by (is_local k.0) refl e
  where
    by : (b : Bool) → is_local k.0 ≡ b → cond b (Some k.1) None ≡ Some text → k ∷ ks ≡ (is.Local, text) ∷ ks
    by false test f = absurd (cc)
    by true test f = let s = local_is k.0 test in let t : k.1 ≡ text = cc in ap (λ x. (x, k.1) ∷ ks) s ∙ ap (λ x. (is.Local, x) ∷ ks) t

-- a name that is known at the front is the type
pub known_front : (look : List ℕ → Option Ty) (ty : Ty) (ks : List Kept) (front known : Option (List ℕ)) → front ≡ front_name ks → are_one front known ≡ true → IfSome known (StandsFor look ty) → Some 1 ≡ typed_at look ty ks
known_front look ty ks (Some text) (Some name) here e stands =
    let one = (bytes_eq-Decides text name).0 e in
    sym (subst (StandsFor look ty) (sym one) stands) ∙ ap (typed_at look ty) (sym (front_is ks text (sym here)))
known_front look ty ks (Some text) None here e stands = absurd (false≢true e)
known_front look ty ks None known here e stands = absurd (false≢true e)

-- ---- parts

-- the same from what is read
abbrev typed_by : Ty → Option (Ty × ℕ) → Option ℕ
typed_by ty w = option_and_then (λ t. cond (same_type ty t.0) (Some t.1) None) w

pub typed_same : (look : List ℕ → Option Ty) (ty : Ty) (ks : List Kept) (t : Ty × ℕ) → Some t ≡ written_type look ks → same_type ty t.0 ≡ true → Some t.1 ≡ typed_at look ty ks
typed_same look ty ks t here same = ap (λ b. cond b (Some t.1) None) (sym same) ∙ ap (typed_by ty) here

pub typed_other : (look : List ℕ → Option Ty) (ty : Ty) (ks : List Kept) (t : Ty × ℕ) → Some t ≡ written_type look ks → same_type ty t.0 ≡ false → None ≡ typed_at look ty ks
typed_other look ty ks t here other = ap (λ b. cond b (Some t.1) None) (sym other) ∙ ap (typed_by ty) here

-- a part by what its type takes
typed_part : (constant : Ty → Reading Const) (ty : Ty) (ks : List Kept) (w : Option (Ty × ℕ)) →
    option_and_then (λ n. behind n (constant ty (drop n ks))) (typed_by ty w) ≡ option_and_then (λ t. cond (same_type ty t.0) (behind t.1 (constant ty (drop t.1 ks))) None) w
typed_part constant ty ks None = refl
typed_part constant ty ks (Some t) = by (same_type ty t.0)
  where
    by : (b : Bool) → option_and_then (λ n. behind n (constant ty (drop n ks))) (cond b (Some t.1) None) ≡ cond b (behind t.1 (constant ty (drop t.1 ks))) None
    by false = refl
    by true = refl

pub part_typed : (env : Env) (constant : Ty → Reading Const) (ty : Ty) (xs rest : List Lexeme) (n : ℕ) (o : Option (Const × ℕ)) → Some n ≡ typed_at env.types ty (seen xs) → rest ≡ drop n xs → o ≡ constant ty (seen rest) →
    behind n o ≡ part_at env constant ty (seen xs)
part_typed env constant ty xs rest n o here r is =
    ap (behind n) is
    ∙ ap (λ ks. behind n (constant ty ks)) (ap seen r ∙ seen-drop n xs)
    ∙ ap (option_and_then (λ m. behind m (constant ty (drop m (seen xs))))) here
    ∙ typed_part constant ty (seen xs) (written_type env.types (seen xs))

pub part_untyped : (env : Env) (constant : Ty → Reading Const) (ty : Ty) (ks : List Kept) → None ≡ typed_at env.types ty ks → None ≡ part_at env constant ty ks
part_untyped env constant ty ks here = ap (option_and_then (λ m. behind m (constant ty (drop m ks)))) here ∙ typed_part constant ty ks (written_type env.types ks)

-- ---- a part that was read makes its name known

named_part : {X : Type 0} (ty : Ty) (after : Ty × ℕ → Option X) (w : Option Ty) (f : X) →
    Some f ≡ option_and_then (λ t. cond (same_type ty t.0) (after t) None) (fitting (option_map (λ u. (u, 1)) w)) → typed_by ty (fitting (option_map (λ u. (u, 1)) w)) ≡ Some 1
named_part ty after None f e = absurd (cc)
named_part {X} ty after (Some u) f e = fit (fits u) e
  where
    same : (b : Bool) → Some f ≡ cond b (after (u, 1)) None → cond {A = Option ℕ} b (Some 1) None ≡ Some 1
    same false g = absurd (cc)
    same true g = refl

    fit : (b : Bool) → Some f ≡ option_and_then (λ t. cond (same_type ty t.0) (after t) None) (cond b (Some (u, 1)) None) → typed_by ty (cond b (Some (u, 1)) None) ≡ Some 1
    fit false g = absurd (cc)
    fit true g = same (same_type ty u) g

pub part_known : (env : Env) (constant : Ty → Reading Const) (ty : Ty) (ks : List Kept) (front : Option (List ℕ)) (f : Const × ℕ) → front ≡ front_name ks → Some f ≡ part_at env constant ty ks → IfSome front (StandsFor env.types ty)
part_known env constant ty ks None f here e = tt
part_known env constant ty ks (Some text) f here e =
    named_part ty (λ t. behind t.1 (constant ty (drop t.1 ((is.Local, text) ∷ drop 1 ks)))) (type_named env.types (name_of (drop 1 text))) f
    (e ∙ ap (part_at env constant ty) (front_is ks text (sym here)))
