-- What names stand for, known step by step.
use Rattle.std.proofs.Common.{◌≡◌, ◌∙◌, ℕ, zero, suc, ◌-◌, ◌+◌, ◌≤◌, ◌<◌, Bool, true, false, cond, is_none, List, [], ◌∷◌, ◌++◌, Option, Some, None, option_map, option_and_then, length, refl, sym, ap, subst, arith, length-append, bytes_eq, add_comm}
use Rattle.std.proofs.lemmas.Slice.Eq.{bytes_eq-Decides}
use Rattle.ir_types.specs.declared.shape.Ty.{Ty}
use Rattle.ir_grammar.specs.Tokens.{Kept}
use Rattle.ir_scope.specs.Types.{written_type}
use Rattle.ir_scope.specs.Scopes.{type_among}
use Rattle.type_names.specs.TypeNames.{Named, written_for, stands_in, stands_for}
use Rattle.type_names.specs.Learning.{Known, IsMore, unknown, AreKnown, IsClosed}
use Rattle.type_names.proofs.Knowing.{no_some, more_by, more_then, written_more}

pub some_none : {A : Type 0} (a : A) → Some a ≡ None → ⊥
some_none a e = cc

-- ---- steps

-- the type that is written, over a look-up
abbrev pub read_over : (List ℕ → Option Ty) → List Kept → Option Ty
read_over look ks = option_map (λ f. f.0) (written_type look ks)

pub read_more : (look other : List ℕ → Option Ty) → IsMore look other → (ks : List Kept) (ty : Ty) → read_over look ks ≡ Some ty → read_over other ks ≡ Some ty
read_more look other more ks ty e = more_by (option_map (λ f. f.0)) (written_type look ks) (written_type other ks) refl (written_more look other more ks) ty e

pub step_more : (types : List Named) (look other : List ℕ → Option Ty) → IsMore look other → (name : List ℕ) (ty : Ty) →
    option_and_then (read_over look) (written_for types name) ≡ Some ty → option_and_then (read_over other) (written_for types name) ≡ Some ty
step_more types look other more name ty e = more_then (read_over look) (read_over other) (written_for types name) (written_for types name) (λ ks f. f) (read_more look other more) ty e

-- one more step keeps what names stand for
pub stands_more : (types : List Named) (steps : ℕ) → IsMore (stands_in types steps) (stands_in types (suc steps))
stands_more types steps = record { kept = by steps }
  where
    by : (steps : ℕ) (name : List ℕ) (ty : Ty) → stands_in types steps name ≡ Some ty → stands_in types (suc steps) name ≡ Some ty
    by zero name ty e = no_some ty e
    by (suc steps) name ty e = step_more types (stands_in types steps) (stands_in types (suc steps)) (record { kept = by steps }) name ty e

pub stands_on : (types : List Named) (steps more : ℕ) (name : List ℕ) (ty : Ty) → stands_in types steps name ≡ Some ty → stands_in types (more + steps) name ≡ Some ty
stands_on types steps zero name ty e =
    let same : 0 + steps ≡ steps = omega arith in
    ap (λ n. stands_in types n name) same ∙ e
stands_on types steps (suc more) name ty e =
    let same : suc more + steps ≡ suc (more + steps) = omega arith in
    ap (λ n. stands_in types n name) same ∙ (stands_more types (more + steps)).kept name ty (stands_on types steps more name ty e)

pub stands_within : (types : List Named) (steps most : ℕ) → steps ≤ most → IsMore (stands_in types steps) (stands_in types most)
stands_within types steps most few = record {
  kept = λ name ty e.
      let same : most ≡ (most - steps) + steps = omega arith in
      ap (λ n. stands_in types n name) same ∙ stands_on types steps (most - steps) name ty e;
}

-- however many steps, a name stands for one type
pub stands_once : (types : List Named) (steps others : ℕ) (name : List ℕ) (ty other : Ty) → stands_in types steps name ≡ Some ty → stands_in types others name ≡ Some other → ty ≡ other
stands_once types steps others name ty other e f =
    let g = stands_on types steps others name ty e in
    let h = stands_on types others steps name other f in
    let k = ap (λ n. stands_in types n name) (add_comm others steps) in
    let both : Some ty ≡ Some other = sym g ∙ k ∙ h in
    cc both

-- ---- what is known

choice : {A : Type 0} (b : Bool) (x y z : Option A) (a : A) → (y ≡ Some a → z ≡ Some a) → cond b x y ≡ Some a → cond b x z ≡ Some a
choice true x y z a more e = e
choice false x y z a more e = more e

no_choice : {A : Type 0} (b : Bool) (x : A) (y z found : Option A) → (y ≡ None → z ≡ found) → cond b (Some x) y ≡ None → cond b (Some x) z ≡ found
no_choice true x y z found more e = absurd (some_none x e)
no_choice false x y z found more e = more e

pub among_kept : (known : Known) (n : List ℕ) (t : Ty) → IsMore (type_among known) (type_among (known ++ (n, t) ∷ []))
among_kept known n t = record { kept = by known }
  where
    by : (known : Known) (name : List ℕ) (ty : Ty) → type_among known name ≡ Some ty → type_among (known ++ (n, t) ∷ []) name ≡ Some ty
    by [] name ty e = no_some ty e
    by (k ∷ ks) name ty e = choice (bytes_eq name k.0) (Some k.1) (type_among ks name) (type_among (ks ++ (n, t) ∷ []) name) ty (by ks name ty) e

pub among_added : (known : Known) (n : List ℕ) (t : Ty) (name : List ℕ) → type_among known name ≡ None → type_among (known ++ (n, t) ∷ []) name ≡ cond (bytes_eq name n) (Some t) None
among_added [] n t name e = refl
among_added (k ∷ ks) n t name e = no_choice (bytes_eq name k.0) k.1 (type_among ks name) (type_among (ks ++ (n, t) ∷ []) name) (cond (bytes_eq name n) (Some t) None) (among_added ks n t name) e

pub none_known : (types : List Named) → AreKnown types []
none_known types = record {
  stand = record { kept = λ name ty e. no_some ty e };
  few = omega (arith, counted types);
}
  where
    counted : (ts : List Named) → 0 + unknown [] ts ≤ length ts
    counted [] = omega arith
    counted (t ∷ ts) = omega (arith, counted ts)

-- ---- one more is known

fewer_unknown : (known : Known) (n : List ℕ) (t : Ty) (ts : List Named) → unknown (known ++ (n, t) ∷ []) ts ≤ unknown known ts
fewer_unknown known n t [] = omega arith
fewer_unknown known n t (named ∷ ts) =
    by (type_among known named.0) (type_among (known ++ (n, t) ∷ []) named.0) ((among_kept known n t).kept named.0) (unknown (known ++ (n, t) ∷ []) ts) (unknown known ts) (fewer_unknown known n t ts)
  where
    by : (before after : Option Ty) → ((ty : Ty) → before ≡ Some ty → after ≡ Some ty) → (k m : ℕ) → k ≤ m → cond (is_none after) (suc k) k ≤ cond (is_none before) (suc m) m
    by None None more k m few = omega arith
    by None (Some ty) more k m few = omega arith
    by (Some ty) (Some other) more k m few = few
    by (Some ty) None more k m few = no_some ty (more ty refl)

pub bytes_same : (a : List ℕ) → bytes_eq a a ≡ true
bytes_same a = (bytes_eq-Decides a a).1 refl

pub bytes_are : (a b : List ℕ) → bytes_eq a b ≡ true → a ≡ b
bytes_are a b e = (bytes_eq-Decides a b).0 e

one_less_unknown : (known : Known) (n : List ℕ) (t : Ty) (ts : List Named) (ks : List Kept) → type_among known n ≡ None → written_for ts n ≡ Some ks → suc (unknown (known ++ (n, t) ∷ []) ts) ≤ unknown known ts
one_less_unknown known n t [] ks new e = no_some ks e
one_less_unknown known n t (named ∷ ts) ks new e =
    by (bytes_eq n named.0) refl (type_among known named.0) refl (type_among (known ++ (n, t) ∷ []) named.0) refl (fewer_unknown known n t ts) (one_less_unknown known n t ts ks new)
    ((among_kept known n t).kept named.0) e
  where
    by : (b : Bool) → bytes_eq n named.0 ≡ b → (before : Option Ty) → type_among known named.0 ≡ before → (after : Option Ty) → type_among (known ++ (n, t) ∷ []) named.0 ≡ after →
        unknown (known ++ (n, t) ∷ []) ts ≤ unknown known ts → (written_for ts n ≡ Some ks → suc (unknown (known ++ (n, t) ∷ []) ts) ≤ unknown known ts) →
        ((ty : Ty) → before ≡ Some ty → after ≡ Some ty) →
        cond b (Some named.1) (written_for ts n) ≡ Some ks →
        suc (cond (is_none after) (suc (unknown (known ++ (n, t) ∷ []) ts)) (unknown (known ++ (n, t) ∷ []) ts)) ≤ cond (is_none before) (suc (unknown known ts)) (unknown known ts)
    by true same before f after g few less more e =
        let is : n ≡ named.0 = (bytes_eq-Decides n named.0).0 same in
        let was : before ≡ None = sym f ∙ ap (type_among known) (sym is) ∙ new in
        let found : after ≡ Some t = sym g ∙ ap (type_among (known ++ (n, t) ∷ [])) (sym is) ∙ among_added known n t n new ∙ ap (λ b. cond b (Some t) None) (bytes_same n) in
        rw (was, found) (omega arith)
    by false other None f None g few less more e = omega (arith, less e)
    by false other None f (Some ty) g few less more e = omega (arith, less e)
    by false other (Some ty) f (Some found) g few less more e = less e
    by false other (Some ty) f None g few less more e = no_some ty (more ty refl)

added_stands : (types : List Named) (known : Known) (n : List ℕ) (t : Ty) (ks : List Kept) → IsMore (type_among known) (stands_in types (length known)) → written_for types n ≡ Some ks → type_among known n ≡ None →
    read_over (type_among known) ks ≡ Some t → IsMore (type_among (known ++ (n, t) ∷ [])) (stands_in types (suc (length known)))
added_stands types known n t ks stand is new read = record { kept = λ name ty e. by name ty (type_among known name) refl e }
  where
    last : (name : List ℕ) (ty : Ty) (b : Bool) → bytes_eq name n ≡ b → cond b (Some t) None ≡ Some ty → stands_in types (suc (length known)) name ≡ Some ty
    last name ty false other e = no_some ty e
    last name ty true same e =
        let at : name ≡ n = (bytes_eq-Decides name n).0 same in
        ap (stands_in types (suc (length known))) at ∙ ap (option_and_then (read_over (stands_in types (length known)))) is ∙ read_more (type_among known) (stands_in types (length known)) stand ks t read ∙ e

    by : (name : List ℕ) (ty : Ty) (before : Option Ty) → type_among known name ≡ before → type_among (known ++ (n, t) ∷ []) name ≡ Some ty → stands_in types (suc (length known)) name ≡ Some ty
    by name ty (Some other) f e =
        let same : Some other ≡ Some ty = sym ((among_kept known n t).kept name other f) ∙ e in
        (stands_more types (length known)).kept name ty (stand.kept name ty (f ∙ same))
    by name ty None f e = last name ty (bytes_eq name n) refl (sym (among_added known n t name f) ∙ e)

length_added : (known : Known) (n : List ℕ) (t : Ty) → length (known ++ (n, t) ∷ []) ≡ suc (length known)
length_added known n t = omega (arith, length-append known ((n, t) ∷ []))

pub added_known : (types : List Named) (known : Known) (n : List ℕ) (t : Ty) (ks : List Kept) → AreKnown types known → written_for types n ≡ Some ks → type_among known n ≡ None →
    read_over (type_among known) ks ≡ Some t → AreKnown types (known ++ (n, t) ∷ [])
added_known types known n t ks before is new read = record {
  stand = subst (λ (k : ℕ). IsMore (type_among (known ++ (n, t) ∷ [])) (stands_in types k)) (sym (length_added known n t)) (added_stands types known n t ks before.stand is new read);
  few = omega (arith, length_added known n t, one_less_unknown known n t types ks new is, before.few);
}

pub added_less : (types : List Named) (known : Known) (n : List ℕ) (t : Ty) (ks : List Kept) → written_for types n ≡ Some ks → type_among known n ≡ None → unknown (known ++ (n, t) ∷ []) types < unknown known types
added_less types known n t ks is new = omega (arith, one_less_unknown known n t types ks new is)

-- ---- all is known

all_stand : (types : List Named) (known : Known) → AreKnown types known → IsClosed types known → (steps : ℕ) → IsMore (stands_in types steps) (type_among known)
all_stand types known are closed steps = record { kept = by steps }
  where
    found : (steps : ℕ) (name : List ℕ) (ty : Ty) (ks : List Kept) → written_for types name ≡ Some ks → stands_in types steps name ≡ Some ty → read_over (type_among known) ks ≡ Some ty →
        (o : Option Ty) → type_among known name ≡ o → type_among known name ≡ Some ty
    found steps name ty ks is e read (Some other) f = f ∙ ap Some (stands_once types (length known) steps name other ty (are.stand.kept name other f) e)
    found steps name ty ks is e read None f = no_some ty (sym (ap (option_map (λ f. f.0)) (closed.none name ks is f)) ∙ read)

    with_written : (steps : ℕ) (name : List ℕ) (ty : Ty) → IsMore (stands_in types steps) (type_among known) → stands_in types (suc steps) name ≡ Some ty →
        (o : Option (List Kept)) → written_for types name ≡ o → option_and_then (read_over (type_among known)) o ≡ Some ty → type_among known name ≡ Some ty
    with_written steps name ty more e None is read = no_some ty read
    with_written steps name ty more e (Some ks) is read = found (suc steps) name ty ks is e read (type_among known name) refl

    by : (steps : ℕ) (name : List ℕ) (ty : Ty) → stands_in types steps name ≡ Some ty → type_among known name ≡ Some ty
    by zero name ty e = no_some ty e
    by (suc steps) name ty e =
        let more : IsMore (stands_in types steps) (type_among known) = record { kept = by steps } in
        with_written steps name ty more e (written_for types name) refl (step_more types (stands_in types steps) (type_among known) more name ty e)

same_answers : (x y : Option Ty) → ((t : Ty) → x ≡ Some t → y ≡ Some t) → ((t : Ty) → y ≡ Some t → x ≡ Some t) → x ≡ y
same_answers None None right left = refl
same_answers (Some t) y right left = sym (right t refl)
same_answers None (Some t) right left = left t refl

pub known_is : (types : List Named) (known : Known) → AreKnown types known → IsClosed types known → (name : List ℕ) → type_among known name ≡ stands_for types name
unfolding stands_for
known_is types known are closed name =
    same_answers (type_among known name) (stands_in types (length types) name)
    (λ t e. (stands_within types (length known) (length types) (omega (arith, are.few))).kept name t (are.stand.kept name t e))
    ((all_stand types known are closed (length types)).kept name)
