-- Knowing more names reads nothing otherwise.
use Rattle.std.proofs.Common.{◌≡◌, ◌∙◌, ℕ, zero, suc, ◌-◌, ◌+◌, Bool, true, false, cond, nat_lt, ◌^◌, List, [], ◌∷◌, drop, Option, Some, None, option_map, option_and_then, refl, sym, ap}
use Rattle.ir_types.specs.declared.shape.Ty.{Ty}
use Rattle.ir_types.specs.declared.shape.Ty.TheViews.{Array, Struct}
use Rattle.ir_grammar.specs.declared.shape.Shape.{Shape}
use Rattle.ir_grammar.specs.declared.shape.Shape.TheVariants as is
use Rattle.ir_grammar.specs.Numbers.{number_of}
use Rattle.ir_grammar.specs.Tokens.{Kept}
use Rattle.ir_lexer.specs.Texts.{name_of}
use Rattle.ir_scope.specs.Runs.{Reading, behind, run, runs, closed_by}
use Rattle.type_names.specs.Learning.{IsMore}
use Rattle.ir_scope.specs.Types.{fitting, is_close_brace, begins_field, type_named, type_at, written_type}
use Rattle.ir_types.specs.Names.{is_name}

pub no_some : {A : Type 0} {P : Type 0} (a : A) → None ≡ Some a → P
no_some a e = absurd cc

-- what is made of an answer, where no answer makes nothing
pub more_by : {A B : Type 0} (make : Option A → Option B) (x y : Option A) → make None ≡ None → ((a : A) → x ≡ Some a → y ≡ Some a) → (b : B) → make x ≡ Some b → make y ≡ Some b
more_by make None y none more b e = no_some b (sym none ∙ e)
more_by make (Some a) y none more b e = ap make (more a refl) ∙ e

pub more_then : {A B : Type 0} (f g : A → Option B) (x y : Option A) → ((a : A) → x ≡ Some a → y ≡ Some a) → ((a : A) (b : B) → f a ≡ Some b → g a ≡ Some b) →
    (b : B) → option_and_then f x ≡ Some b → option_and_then g y ≡ Some b
more_then f g None y more onwards b e = no_some b e
more_then f g (Some a) y more onwards b e = ap (option_and_then g) (more a refl) ∙ onwards a b e

more_choice : {A : Type 0} (test : Bool) (x y z : Option A) → ((a : A) → x ≡ Some a → y ≡ Some a) → (a : A) → cond test x z ≡ Some a → cond test y z ≡ Some a
more_choice true x y z more a e = more a e
more_choice false x y z more a e = e

-- ---- runs

pub run_more : {X : Type 0} (begins : Shape → Bool) (part other : Reading X) → IsMore part other → (skipped : ℕ) (ks : List Kept) (found : List X × ℕ) →
    run begins part skipped ks ≡ Some found → run begins other skipped ks ≡ Some found
run_more begins part other more skipped [] found e = e
run_more begins part other more zero (k ∷ ks) found e =
    more_choice (begins k.0)
    (option_and_then (λ f. option_map (λ rest. (f.0 ∷ rest.0, f.1 + rest.1)) (run begins part (f.1 - 1) ks)) (part (k ∷ ks)))
    (option_and_then (λ f. option_map (λ rest. (f.0 ∷ rest.0, f.1 + rest.1)) (run begins other (f.1 - 1) ks)) (other (k ∷ ks)))
    (Some ([], 0))
    (more_then (λ f. option_map (λ rest. (f.0 ∷ rest.0, f.1 + rest.1)) (run begins part (f.1 - 1) ks)) (λ f. option_map (λ rest. (f.0 ∷ rest.0, f.1 + rest.1)) (run begins other (f.1 - 1) ks)) (part (k ∷ ks)) (other (k ∷ ks)) (more.kept (k ∷ ks))
    (λ f. more_by (option_map (λ rest. (f.0 ∷ rest.0, f.1 + rest.1))) (run begins part (f.1 - 1) ks) (run begins other (f.1 - 1) ks) refl (run_more begins part other more (f.1 - 1) ks)))
    found e
run_more begins part other more (suc skipped) (k ∷ ks) found e = run_more begins part other more skipped ks found e

-- ---- types

none_either : (b : Bool) → ◌≡◌ {A = Option (Ty × ℕ)} (cond b None None) None
none_either true = refl
none_either false = refl

-- the same where a name is used
named_more : (look other : List ℕ → Option Ty) → IsMore look other → (name : List ℕ) (ty : Ty) → type_named look name ≡ Some ty → type_named other name ≡ Some ty
named_more look other more name ty e = more_choice (is_name name) (look name) (other name) None (more.kept name) ty e

pub type_more : (look other : List ℕ → Option Ty) → IsMore look other → (depth : ℕ) → IsMore (type_at look depth) (type_at other depth)
type_more look other more depth = record { kept = by depth }
  where
    by : (depth : ℕ) (ks : List Kept) (found : Ty × ℕ) → type_at look depth ks ≡ Some found → type_at other depth ks ≡ Some found
    by depth [] found e = e
    by depth ((is.Scalar s, text) ∷ ks) found e = e
    by depth ((is.Local, text) ∷ ks) found e =
        more_by (λ o. fitting (option_map (λ ty. (ty, 1)) o)) (type_named look (name_of (drop 1 text))) (type_named other (name_of (drop 1 text))) refl (named_more look other more (name_of (drop 1 text))) found e
    by (suc depth) ((is.OpenSquare, text) ∷ (is.Int digits, count) ∷ ks) found e =
        more_by (λ o. cond (nat_lt (number_of count) (2 ^ 64)) (fitting (behind 2 (option_map (λ f. (Array (number_of count) f.0, f.1)) o))) None) (type_at look depth ks) (type_at other depth ks) (none_either (nat_lt (number_of count) (2 ^ 64))) (by depth ks) found e
    by (suc depth) ((is.OpenBrace, text) ∷ ks) found e =
        more_by (λ o. fitting (behind 1 (option_map (λ f. (Struct f.0, f.1)) (closed_by is_close_brace ks o)))) (runs begins_field (type_at look depth) ks) (runs begins_field (type_at other depth) ks) refl
        (run_more begins_field (type_at look depth) (type_at other depth) (record { kept = by depth }) 0 ks) found e
    by depth (k ∷ ks) found e = e

pub written_more : (look other : List ℕ → Option Ty) → IsMore look other → (ks : List Kept) (found : Ty × ℕ) → written_type look ks ≡ Some found → written_type other ks ≡ Some found
written_more look other more ks found e = (type_more look other more 64).kept ks found e
