-- What names stand for fits.
use Rattle.std.proofs.Common.{◌≡◌, ℕ, zero, suc, Bool, true, false, cond, nat_lt, ◌^◌, IsTrue, List, [], ◌∷◌, drop, Option, Some, None, option_map, option_and_then, length, refl, sym, subst}
use Rattle.ir_types.specs.declared.shape.Ty.{Ty}
use Rattle.ir_types.specs.declared.shape.Ty.TheBlock.{One}
use Rattle.ir_types.specs.declared.shape.Ty.TheViews.{Array, Struct}
use Rattle.ir_types.proofs.Nestings.{nesting-One, nodes-One}
use Rattle.ir_types.specs.declared.scalar.Scalar.{Scalar}
use Rattle.ir_grammar.specs.declared.shape.Shape.TheVariants as is
use Rattle.ir_grammar.specs.Numbers.{number_of}
use Rattle.ir_grammar.specs.Tokens.{Kept}
use Rattle.ir_lexer.specs.Texts.{name_of}
use Rattle.ir_scope.specs.Runs.{behind, runs, closed_by}
use Rattle.ir_scope.specs.Types.{fits, fitting, is_close_brace, begins_field, type_named, type_at, written_type}
use Rattle.type_names.specs.TypeNames.{Named, written_for, stands_in, stands_for}
use Rattle.type_names.proofs.Knowing.{no_some}

if_fits : (b : Bool) (f found : Ty × ℕ) → b ≡ fits f.0 → cond b (Some f) None ≡ Some found → IsTrue (fits found.0)
if_fits false f found test e = no_some found e
if_fits true f found test e =
    let same : f ≡ found = cc in
    subst (λ (g : Ty × ℕ). IsTrue (fits g.0)) same (sym test)

fitting_fits : (x : Option (Ty × ℕ)) (found : Ty × ℕ) → fitting x ≡ Some found → IsTrue (fits found.0)
fitting_fits None found e = no_some found e
fitting_fits (Some f) found e = if_fits (fits f.0) f found refl e

either_fits : (b : Bool) (x : Option (Ty × ℕ)) (found : Ty × ℕ) → cond b (fitting x) None ≡ Some found → IsTrue (fits found.0)
either_fits true x found e = fitting_fits x found e
either_fits false x found e = no_some found e

one_fits : (s : Scalar) → IsTrue (fits (One s))
one_fits s = rw (nesting-One, nodes-One) refl

pub type_fits : (look : List ℕ → Option Ty) (depth : ℕ) (ks : List Kept) (found : Ty × ℕ) → type_at look depth ks ≡ Some found → IsTrue (fits found.0)
type_fits look depth [] found e = no_some found e
type_fits look depth ((is.Scalar s, text) ∷ ks) found e =
    let same : ◌≡◌ {A = Ty × ℕ} (One s, 1) found = cc in
    subst (λ (g : Ty × ℕ). IsTrue (fits g.0)) same (one_fits s)
type_fits look depth ((is.Local, text) ∷ ks) found e = fitting_fits (option_map (λ ty. (ty, 1)) (type_named look (name_of (drop 1 text)))) found e
type_fits look (suc depth) ((is.OpenSquare, text) ∷ (is.Int digits, count) ∷ ks) found e =
    either_fits (nat_lt (number_of count) (2 ^ 64)) (behind 2 (option_map (λ f. (Array (number_of count) f.0, f.1)) (type_at look depth ks))) found e
type_fits look (suc depth) ((is.OpenBrace, text) ∷ ks) found e =
    fitting_fits (behind 1 (option_map (λ f. (Struct f.0, f.1)) (closed_by is_close_brace ks (runs begins_field (type_at look depth) ks)))) found e
type_fits look depth (k ∷ ks) found e = no_some found e

read_fits : (look : List ℕ → Option Ty) (o : Option (List Kept)) (ty : Ty) → option_and_then (λ ks. option_map (λ f. f.0) (written_type look ks)) o ≡ Some ty → IsTrue (fits ty)
read_fits look None ty e = no_some ty e
read_fits look (Some ks) ty e = by (written_type look ks) refl e
  where
    by : (x : Option (Ty × ℕ)) → written_type look ks ≡ x → option_map (λ f. f.0) x ≡ Some ty → IsTrue (fits ty)
    by None read e = no_some ty e
    by (Some f) read e =
        let same : f.0 ≡ ty = cc in
        subst (λ (t : Ty). IsTrue (fits t)) same (type_fits look 64 ks f read)

steps_fit : (types : List Named) (steps : ℕ) (name : List ℕ) (ty : Ty) → stands_in types steps name ≡ Some ty → IsTrue (fits ty)
steps_fit types zero name ty e = no_some ty e
steps_fit types (suc steps) name ty e = read_fits (stands_in types steps) (written_for types name) ty e

-- A type that a name stands for nests at most 64 deep and has at most 4,096 nodes.
pub what_stands_fits : (types : List Named) (name : List ℕ) (ty : Ty) → stands_for types name ≡ Some ty → IsTrue (fits ty)
unfolding stands_for
what_stands_fits types name ty e = steps_fit types (length types) name ty e
