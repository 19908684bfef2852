-- Types are tried in turn.
use Rattle.std.proofs.Common.{◌≡◌, ◌∙◌, ℕ, zero, suc, ◌≤◌, ◌<◌, Bool, true, false, cond, ◌&&◌, ◌||◌, ◌⊎◌, inl, inr, is_some, is_none, nat_eq, List, [], ◌∷◌, ◌++◌, take, Option, Some, None, option_map, refl, sym, ap, subst, arith, bytes_eq, eq-eqb}
use Rattle.std.specs.List.{slice_get}
use Rattle.std.proofs.lemmas.Bool.{eqb-true}
use Rattle.ir_types.specs.declared.shape.Ty.{Ty}
use Rattle.name_table.specs.Places.{place_among}
use Rattle.ir_grammar.specs.Tokens.{Kept}
use Rattle.ir_scope.specs.Scopes.{type_among, is_at}
use Rattle.ir_scope.specs.Types.{written_type}
use Rattle.type_names.specs.TypeNames.{Named, written_for}
use Rattle.type_names.specs.Written.{names_of}
use Rattle.type_names.specs.Learning.{Known, unknown, AreKnown, IsClosed, IsPassed, with_read, tried, adds, tried_if, adds_if, is_first, tried_here, tried_at, adds_here, adds_at}
use Rattle.type_names.proofs.Knowing.{no_some}
use Rattle.type_names.proofs.Steps.{some_none, bytes_same, bytes_are, added_known, added_less}

-- ---- the first type of a name

some_same : {A : Type 0} (a b : A) → Some a ≡ Some b → a ≡ b
some_same a b e = cc

one_less : (k place : ℕ) → nat_eq (suc k) (suc place) ≡ true → nat_eq k place ≡ true
one_less k place e = let f = eqb-true (suc k) (suc place) e in eq-eqb k place (omega arith)

one_more : (k place : ℕ) → nat_eq k place ≡ true → nat_eq (suc k) (suc place) ≡ true
one_more k place e = let f = eqb-true k place e in eq-eqb (suc k) (suc place) (ap suc f)

later : (b : Bool) (o : Option ℕ) (place : ℕ) → is_at (cond b (Some 0) (option_map (λ k. suc k) o)) (suc place) ≡ true → (b ≡ false) × (is_at o place ≡ true)
later true o place e = let f = eqb-true 0 (suc place) e in absurd (omega arith)
later false None place e = absurd cc
later false (Some k) place e = (refl, one_less k place e)

not_later : (b : Bool) (o : Option ℕ) (place : ℕ) → b ≡ false → is_at o place ≡ true → is_at (cond b (Some 0) (option_map (λ k. suc k) o)) (suc place) ≡ true
not_later true o place other e = cc
not_later false None place other e = absurd cc
not_later false (Some k) place other e = one_more k place e

at_front : (b : Bool) (o : Option ℕ) → b ≡ true → is_at (cond b (Some 0) (option_map (λ k. suc k) o)) 0 ≡ true
at_front true o e = refl
at_front false o e = cc

-- what is written for a type that is the first of its name is what is written for the name
pub first_written : (types : List Named) (place : ℕ) (t : Named) → slice_get types place ≡ Some t → is_first types place t ≡ true → written_for types t.0 ≡ Some t.1
first_written [] place t e first = no_some t e
first_written (u ∷ us) zero t e first =
    let same : u ≡ t = some_same u t e in
    subst (λ (v : Named). written_for (u ∷ us) v.0 ≡ Some v.1) same (ap (λ b. cond b (Some u.1) (written_for us u.0)) (bytes_same u.0))
first_written (u ∷ us) (suc place) t e first =
    let (other, at) = later (bytes_eq t.0 u.0) (place_among t.0 (names_of us)) place first in
    ap (λ b. cond b (Some u.1) (written_for us t.0)) other ∙ first_written us place t e at

none_before : (b : Bool) (ks : List Kept) (o : Option (List Kept)) → cond b (Some ks) o ≡ None → (b ≡ false) × (o ≡ None)
none_before true ks o e = absurd (some_none ks e)
none_before false ks o e = (refl, e)

-- a type is the first of its name where nothing before it is written for the name
pub none_earlier : (types : List Named) (place : ℕ) (t : Named) → slice_get types place ≡ Some t → written_for (take place types) t.0 ≡ None → is_first types place t ≡ true
none_earlier [] place t e none = no_some t e
none_earlier (u ∷ us) zero t e none =
    let same : u ≡ t = some_same u t e in
    at_front (bytes_eq t.0 u.0) (place_among t.0 (names_of us)) (ap (λ (v : Named). bytes_eq t.0 v.0) same ∙ bytes_same t.0)
none_earlier (u ∷ us) (suc place) t e none =
    let (other, before) = none_before (bytes_eq t.0 u.0) u.1 (written_for (take place us) t.0) none in
    not_later (bytes_eq t.0 u.0) (place_among t.0 (names_of us)) place other (none_earlier us place t e before)

-- ---- one type is tried

some_is : {A : Type 0} (o : Option A) → is_some o ≡ true → (a : A) × (o ≡ Some a)
some_is None e = absurd cc
some_is (Some a) e = (a, refl)

none_is : {A : Type 0} (o : Option A) → is_some o ≡ false → o ≡ None
none_is None e = refl
none_is (Some a) e = absurd cc

is_none_is : {A : Type 0} (o : Option A) → is_none o ≡ true → o ≡ None
is_none_is None e = refl
is_none_is (Some a) e = absurd cc

both : (b c : Bool) → (b && c) ≡ true → (b ≡ true) × (c ≡ true)
both true c e = (refl, e)
both false c e = absurd cc

right_false : (b c : Bool) → b ≡ true → (b && c) ≡ false → c ≡ false
right_false true c e f = f
right_false false c e f = absurd cc

either_false : (b c : Bool) → (b || c) ≡ false → (b ≡ false) × (c ≡ false)
either_false true c e = absurd cc
either_false false c e = (refl, e)

either_true : {P : Type 0} (b c : Bool) → (b || c) ≡ true → (b ≡ true → P) → (c ≡ true → P) → P
either_true true c e left right = left refl
either_true false c e left right = right e

not_added : (known : Known) (t : Named) → adds known t ≡ false → tried known t ≡ known
not_added known t e = by (type_among known t.0) (written_type (type_among known) t.1) e
  where
    by : (before : Option Ty) (found : Option (Ty × ℕ)) → (is_none before && is_some found) ≡ false → cond (is_some before) known (with_read known t.0 found) ≡ known
    by (Some ty) found e = refl
    by None None e = refl
    by None (Some f) e = absurd cc

-- what a type adds
pub record IsAdded (known : Known) (t : Named) : Type 0 where
  pub ty : Ty
  pub count : ℕ
  pub new : type_among known t.0 ≡ None
  pub read : written_type (type_among known) t.1 ≡ Some (ty, count)
  pub is : tried known t ≡ known ++ (t.0, ty) ∷ []

is_added : (known : Known) (t : Named) → adds known t ≡ true → IsAdded known t
is_added known t e =
    let (none, some) = both (is_none (type_among known t.0)) (is_some (written_type (type_among known) t.1)) e in
    let new = is_none_is (type_among known t.0) none in
    let (f, read) = some_is (written_type (type_among known) t.1) some in
    record {
      ty = f.0;
      count = f.1;
      new = new;
      read = read;
      is = ap (λ o. cond (is_some o) known (with_read known t.0 (written_type (type_among known) t.1))) new ∙ ap (with_read known t.0) read;
    }

-- What is known after a type was tried: what was known, or one more.
record IsTried (types : List Named) (before after : Known) (added : Bool) : Type 0 where
  known : AreKnown types after
  fewer : unknown after types ≤ unknown before types
  less : added ≡ true → unknown after types < unknown before types
  same : added ≡ false → after ≡ before

nothing_tried : (types : List Named) (known : Known) → AreKnown types known → IsTried types known known false
nothing_tried types known are = record { known = are; fewer = omega arith; less = λ e. absurd cc; same = λ e. refl }

one_tried : (types : List Named) (known : Known) (t : Named) → AreKnown types known → written_for types t.0 ≡ Some t.1 → IsTried types known (tried known t) (adds known t)
one_tried types known t are written = by (adds known t) refl
  where
    by : (b : Bool) → adds known t ≡ b → IsTried types known (tried known t) b
    by false e = subst (λ (after : Known). IsTried types known after false) (sym (not_added known t e)) (nothing_tried types known are)
    by true e =
        let added = is_added known t e in
        let less = added_less types known t.0 added.ty t.1 written added.new in
        subst (λ (after : Known). IsTried types known after true) (sym added.is)
        (record {
          known = added_known types known t.0 added.ty t.1 are written added.new (ap (option_map (λ f. f.0)) added.read);
          fewer = omega arith;
          less = λ f. less;
          same = λ f. absurd cc;
        })

tried_by : (types : List Named) (known : Known) (t : Named) (first : Bool) → AreKnown types known → (first ≡ true → written_for types t.0 ≡ Some t.1) → IsTried types known (tried_if known first t) (adds_if known first t)
tried_by types known t true are written = one_tried types known t are (written refl)
tried_by types known t false are written = nothing_tried types known are

place_tried : (types : List Named) (known : Known) (place : ℕ) → AreKnown types known → IsTried types known (tried_at types place known) (adds_at types place known)
place_tried types known place are = by (slice_get types place) refl
  where
    by : (o : Option Named) → slice_get types place ≡ o → IsTried types known (tried_here types place known o) (adds_here types place known o)
    by None e = nothing_tried types known are
    by (Some t) e = tried_by types known t (is_first types place t) are (first_written types place t e)

pub tried_known : (types : List Named) (known : Known) (place : ℕ) → AreKnown types known → AreKnown types (tried_at types place known)
tried_known types known place are = (place_tried types known place are).known

-- ---- types in turn

written_last : (ts : List Named) (t : Named) (name : List ℕ) (ks : List Kept) → written_for (ts ++ t ∷ []) name ≡ Some ks →
    (written_for ts name ≡ Some ks) ⊎ ((written_for ts name ≡ None) × (name ≡ t.0) × (t.1 ≡ ks))
written_last [] t name ks e = by (bytes_eq name t.0) refl e
  where
    by : (b : Bool) → bytes_eq name t.0 ≡ b → cond b (Some t.1) None ≡ Some ks → (◌≡◌ {A = Option (List Kept)} None (Some ks)) ⊎ ((◌≡◌ {A = Option (List Kept)} None None) × (name ≡ t.0) × (t.1 ≡ ks))
    by true same e = inr (refl, bytes_are name t.0 same, some_same t.1 ks e)
    by false other e = inl e
written_last (u ∷ us) t name ks e = by (bytes_eq name u.0) (written_last us t name ks) e
  where
    by : (b : Bool) → (written_for (us ++ t ∷ []) name ≡ Some ks → (written_for us name ≡ Some ks) ⊎ ((written_for us name ≡ None) × (name ≡ t.0) × (t.1 ≡ ks))) →
        cond b (Some u.1) (written_for (us ++ t ∷ []) name) ≡ Some ks → (cond b (Some u.1) (written_for us name) ≡ Some ks) ⊎ ((cond b (Some u.1) (written_for us name) ≡ None) × (name ≡ t.0) × (t.1 ≡ ks))
    by true onwards e = inl e
    by false onwards e = onwards e

-- nothing was added at a place
closes : (types : List Named) (known : Known) (place : ℕ) (t : Named) → slice_get types place ≡ Some t → adds_if known (is_first types place t) t ≡ false → IsClosed (take place types) known → IsClosed (take place types ++ t ∷ []) known
closes types known place t at nothing closed = record { none = λ name ks e new. by name ks new (written_last (take place types) t name ks e) }
  where
    last : (name : List ℕ) (ks : List Kept) → type_among known name ≡ None → written_for (take place types) name ≡ None → name ≡ t.0 → t.1 ≡ ks → written_type (type_among known) ks ≡ None
    last name ks new none same written =
        let first = none_earlier types place t at (ap (written_for (take place types)) (sym same) ∙ none) in
        let unread = right_false (is_first types place t) (adds known t) first nothing in
        let unknown_now : is_none (type_among known t.0) ≡ true = ap is_none (ap (type_among known) (sym same) ∙ new) in
        ap (written_type (type_among known)) (sym written) ∙ none_is (written_type (type_among known) t.1) (right_false (is_none (type_among known t.0)) (is_some (written_type (type_among known) t.1)) unknown_now unread)

    by : (name : List ℕ) (ks : List Kept) → type_among known name ≡ None → (written_for (take place types) name ≡ Some ks) ⊎ ((written_for (take place types) name ≡ None) × (name ≡ t.0) × (t.1 ≡ ks)) →
        written_type (type_among known) ks ≡ None
    by name ks new (inl e) = closed.none name ks e new
    by name ks new (inr e) = last name ks new e.0 e.1 e.2

-- the type of a place is the last of those up to it
taken : (types : List Named) (place : ℕ) (t : Named) → slice_get types place ≡ Some t → take (suc place) types ≡ take place types ++ t ∷ []
taken [] place t e = no_some t e
taken (u ∷ us) zero t e = ap (λ (v : Named). v ∷ []) (some_same u t e)
taken (u ∷ us) (suc place) t e = ap (λ (ts : List Named). u ∷ ts) (taken us place t e)

none_at_end : (types : List Named) (place : ℕ) → slice_get types place ≡ None → take (suc place) types ≡ take place types
none_at_end [] zero e = refl
none_at_end [] (suc place) e = refl
none_at_end (u ∷ us) zero e = absurd (some_none u e)
none_at_end (u ∷ us) (suc place) e = ap (λ (ts : List Named). u ∷ ts) (none_at_end us place e)

place_closes : (types : List Named) (known : Known) (place : ℕ) → adds_at types place known ≡ false → IsClosed (take place types) known → IsClosed (take (suc place) types) known
place_closes types known place nothing closed = by (slice_get types place) refl nothing
  where
    by : (o : Option Named) → slice_get types place ≡ o → adds_here types place known o ≡ false → IsClosed (take (suc place) types) known
    by None e nothing = subst (λ (ts : List Named). IsClosed ts known) (sym (none_at_end types place e)) closed
    by (Some t) e nothing = subst (λ (ts : List Named). IsClosed ts known) (sym (taken types place t e)) (closes types known place t e nothing closed)

pub none_passed : (types : List Named) (known : Known) → AreKnown types known → IsPassed types known known 0 false
none_passed types known are = record {
  known = are;
  closed = λ e. record { none = λ name ks f new. no_some ks f };
  fewer = omega arith;
  less = λ e. absurd cc;
}

pub one_passed : (types : List Named) (before now : Known) (place : ℕ) (added : Bool) → IsPassed types before now place added →
    IsPassed types before (tried_at types place now) (suc place) (added || adds_at types place now)
one_passed types before now place added passed =
    let done = place_tried types now place passed.known in
    record {
      known = done.known;
      closed = λ e.
          let (none, nothing) = either_false added (adds_at types place now) e in
          subst (λ (known : Known). IsClosed (take (suc place) types) known) (sym (done.same nothing)) (place_closes types now place nothing (passed.closed none));
      fewer = omega (arith, passed.fewer, done.fewer);
      less = λ e. either_true added (adds_at types place now) e (λ f. omega (arith, passed.less f, done.fewer)) (λ f. omega (arith, passed.fewer, done.less f));
    }
