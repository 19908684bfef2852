-- Names with their first places, when one more name comes.
use Rattle.std.proofs.Common.{◌≡◌, ◌∙◌, ℕ, ◌<◌, suc, zero, Bool, true, false, cond, List, [], ◌∷◌, ◌++◌, length, map, take, Option, Some, None, option_map, bytes_eq, refl, sym, ap, subst, arith, length-append}
use Rattle.std.specs.Prelude.{unwrap_or, is_some}
use Rattle.std.specs.Map.{lookup}
use Rattle.indexmap.specs.IndexMap.{insert_entry}
use Rattle.std.specs.List.{slice_get}
use Rattle.std.proofs.lemmas.Bool.{false≢true}
use Rattle.std.proofs.lemmas.List.{take-append-le}
use Rattle.name_table.specs.Places.{is_among, place_among, are_distinct}
use Rattle.name_table.proofs.NameLists.{same, not_placed, placed_among, distinct-more}
use Rattle.ir_types.specs.declared.shape.Ty.{Ty}
use Rattle.ir_scope.specs.Doubled.{IsFirstDoubled}
use Rattle.ir_scope.specs.Scopes.{type_among}
use Rattle.ir_scope.specs.Mirrors.Placed.{place_at, ArePlaces}

-- ---- places

-- the first of two places
abbrev either : Option ℕ → Option ℕ → Option ℕ
either None o = o
either (Some k) o = Some k

place_at-more : (es : List (List ℕ × ℕ)) (name : List ℕ) (at : ℕ) (other : List ℕ) → place_at (es ++ (name, at) ∷ []) other ≡ either (place_at es other) (cond (bytes_eq other name) (Some at) None)
place_at-more [] name at other = refl
place_at-more (e ∷ es) name at other = cases (bytes_eq other e.0) (place_at-more es name at other)
  where
    cases : (t : Bool) → place_at (es ++ (name, at) ∷ []) other ≡ either (place_at es other) (cond (bytes_eq other name) (Some at) None)
        → cond t (Some e.1) (place_at (es ++ (name, at) ∷ []) other) ≡ either (cond t (Some e.1) (place_at es other)) (cond (bytes_eq other name) (Some at) None)
    cases true ih = refl
    cases false ih = ih

place_among-more : (names : List (List ℕ)) (name other : List ℕ) → place_among other (names ++ name ∷ []) ≡ either (place_among other names) (cond (bytes_eq other name) (Some (length names)) None)
place_among-more [] name other = refl
place_among-more (n ∷ ns) name other = cases (bytes_eq other n) (place_among other ns) (bytes_eq other name) (place_among-more ns name other)
  where
    cases : (t : Bool) (o : Option ℕ) (u : Bool) → place_among other (ns ++ name ∷ []) ≡ either o (cond u (Some (length ns)) None)
        → cond t (Some 0) (option_map (λ k. suc k) (place_among other (ns ++ name ∷ []))) ≡ either (cond t (Some 0) (option_map (λ k. suc k) o)) (cond u (Some (suc (length ns))) None)
    cases true o u ih = refl
    cases false (Some k) u ih = ap (option_map (λ k. suc k)) ih
    cases false None true ih = ap (option_map (λ k. suc k)) ih
    cases false None false ih = ap (option_map (λ k. suc k)) ih

slice_get-more : {X : Type 0} (xs ys : List X) (i : ℕ) → i < length xs → slice_get (xs ++ ys) i ≡ slice_get xs i
slice_get-more [] ys i within = absurd (omega arith)
slice_get-more (x ∷ xs) ys zero within = refl
slice_get-more (x ∷ xs) ys (suc i) within = slice_get-more xs ys i (omega arith)

slice_get-last : {X : Type 0} (xs : List X) (x : X) → slice_get (xs ++ x ∷ []) (length xs) ≡ Some x
slice_get-last [] x = refl
slice_get-last (y ∷ xs) x = slice_get-last xs x

take-all : {X : Type 0} (xs ys : List X) → take (length xs) (xs ++ ys) ≡ xs
take-all [] ys = refl
take-all (x ∷ xs) ys = ap (λ zs. x ∷ zs) (take-all xs ys)

first_doubled-more : (names : List (List ℕ)) (name : List ℕ) (at : ℕ) → IsFirstDoubled names at → IsFirstDoubled (names ++ name ∷ []) at
first_doubled-more names name at first =
    let front : take at names ≡ take at (names ++ name ∷ []) = sym (take-append-le at names (name ∷ []) (omega (arith, first.within))) in
    let here : slice_get names at ≡ slice_get (names ++ name ∷ []) at = sym (slice_get-more names (name ∷ []) at first.within) in
    record {
      within = omega (arith, first.within, length-append names (name ∷ []));
      distinct = sym (ap are_distinct front) ∙ first.distinct;
      earlier = sym (ap (λ n. is_among n (take at (names ++ name ∷ []))) (ap (λ o. unwrap_or o []) here)) ∙ (sym (ap (is_among (unwrap_or (slice_get names at) [])) front) ∙ first.earlier);
    }

first_doubled-last : (names : List (List ℕ)) (name : List ℕ) → are_distinct names ≡ true → is_among name names ≡ true → IsFirstDoubled (names ++ name ∷ []) (length names)
first_doubled-last names name distinct there =
    let front = take-all names (name ∷ []) in
    record {
      within = omega (arith, length-append names (name ∷ []));
      distinct = ap are_distinct front ∙ distinct;
      earlier = ap (λ n. is_among n (take (length names) (names ++ name ∷ []))) (ap (λ o. unwrap_or o []) (slice_get-last names name)) ∙ (ap (is_among name) front ∙ there);
    }

-- a name that isn't there
pub places_with : (entries : List (List ℕ × ℕ)) (doubled : Option ℕ) (names : List (List ℕ)) (name : List ℕ) (at : ℕ) → place_at entries name ≡ None → length names ≡ at → ArePlaces entries doubled names →
    ArePlaces (entries ++ (name, at) ∷ []) doubled (names ++ name ∷ [])
places_with entries doubled names name at none is places =
    let absent : is_among name names ≡ false = not_placed name names (sym (places.found name) ∙ none) in
    record {
      found = λ other. place_at-more entries name at other
          ∙ ap (λ o. either o (cond (bytes_eq other name) (Some at) None)) (places.found other)
          ∙ ap (λ n. either (place_among other names) (cond (bytes_eq other name) (Some n) None)) (sym is)
          ∙ sym (place_among-more names name other);
      distinct = λ e. distinct-more names name (places.distinct e) absent;
      count = λ e. omega (arith, places.count e, length-append entries ((name, at) ∷ []), length-append names (name ∷ []));
      doubles = λ k e. first_doubled-more names name k (places.doubles k e);
    }

-- a name that is there: nothing new is kept of it
same_places : (entries : List (List ℕ × ℕ)) (doubled : Option ℕ) (names : List (List ℕ)) (name : List ℕ) → is_among name names ≡ true → ArePlaces entries doubled names → (other : List ℕ) → place_at entries other ≡ place_among other (names ++ name ∷ [])
same_places entries doubled names name there places other =
    places.found other ∙ kept (place_among other names) (bytes_eq other name) refl refl ∙ sym (place_among-more names name other)
  where
    kept : (o : Option ℕ) (t : Bool) → place_among other names ≡ o → bytes_eq other name ≡ t → o ≡ either o (cond t (Some (length names)) None)
    kept (Some k) t e f = refl
    kept None true e f = absurd (false≢true (sym (not_placed other names e) ∙ (ap (λ n. is_among n names) (same other name f) ∙ there)))
    kept None false e f = refl

there_at : (entries : List (List ℕ × ℕ)) (doubled : Option ℕ) (names : List (List ℕ)) (name : List ℕ) (k : ℕ) → place_at entries name ≡ Some k → ArePlaces entries doubled names → is_among name names ≡ true
there_at entries doubled names name k some places = placed_among name names k (sym (places.found name) ∙ some)

pub places_doubled : (entries : List (List ℕ × ℕ)) (doubled : Option ℕ) (names : List (List ℕ)) (name : List ℕ) (k : ℕ) → place_at entries name ≡ Some k → doubled ≡ None → ArePlaces entries doubled names →
    ArePlaces entries (Some (length entries)) (names ++ name ∷ [])
places_doubled entries doubled names name k some none places =
    let there = there_at entries doubled names name k some places in
    record {
      found = same_places entries doubled names name there places;
      distinct = λ e. absurd (cc);
      count = λ e. absurd (cc);
      doubles = λ at e. let is : at ≡ length names = sym (cc) ∙ places.count none in
          subst (IsFirstDoubled (names ++ name ∷ [])) (sym is) (first_doubled-last names name (places.distinct none) there);
    }

pub places_doubled_before : (entries : List (List ℕ × ℕ)) (doubled : Option ℕ) (names : List (List ℕ)) (name : List ℕ) (k at : ℕ) → place_at entries name ≡ Some k → doubled ≡ Some at → ArePlaces entries doubled names →
    ArePlaces entries doubled (names ++ name ∷ [])
places_doubled_before entries doubled names name k at some before places =
    let there = there_at entries doubled names name k some places in
    record {
      found = same_places entries doubled names name there places;
      distinct = λ e. absurd (cc);
      count = λ e. absurd (cc);
      doubles = λ j e. first_doubled-more names name j (places.doubles j e);
    }

-- ---- what a map keeps

abbrev pub entries_by : {X : Type 0} → (X → List ℕ) → List (X × ℕ) → List (List ℕ × ℕ)
entries_by bytes es = map (λ e. (bytes e.0, e.1)) es

pub length-by : {X : Type 0} (bytes : X → List ℕ) (es : List (X × ℕ)) → length (entries_by bytes es) ≡ length es
length-by bytes [] = refl
length-by bytes (e ∷ es) = ap suc (length-by bytes es)

pub lookup-place : {X : Type 0} (bytes : X → List ℕ) (name : List ℕ) (es : List (X × ℕ)) → lookup (λ k. bytes_eq name (bytes k)) es ≡ place_at (entries_by bytes es) name
lookup-place bytes name [] = refl
lookup-place bytes name (e ∷ es) = ap (cond (bytes_eq name (bytes e.0)) (Some e.1)) (lookup-place bytes name es)

pub inserted : {X : Type 0} (bytes : X → List ℕ) (es : List (X × ℕ)) (owned : X) (at : ℕ) → place_at (entries_by bytes es) (bytes owned) ≡ None →
    entries_by bytes (insert_entry (λ a b. bytes_eq (bytes a) (bytes b)) es owned at) ≡ entries_by bytes es ++ (bytes owned, at) ∷ []
inserted bytes [] owned at none = refl
inserted {X} bytes (e ∷ es) owned at none = cases (bytes_eq (bytes owned) (bytes e.0)) none (inserted bytes es owned at)
  where
    cases : (t : Bool) → cond t (Some e.1) (place_at (entries_by bytes es) (bytes owned)) ≡ None
        → (place_at (entries_by bytes es) (bytes owned) ≡ None → entries_by bytes (insert_entry (λ a b. bytes_eq (bytes a) (bytes b)) es owned at) ≡ entries_by bytes es ++ (bytes owned, at) ∷ [])
        → entries_by bytes (cond t ((e.0, at) ∷ es) (e ∷ insert_entry (λ a b. bytes_eq (bytes a) (bytes b)) es owned at)) ≡ (bytes e.0, e.1) ∷ (entries_by bytes es ++ (bytes owned, at) ∷ [])
    cases true f ih = absurd (cc)
    cases false f ih = let typed : List (List ℕ × ℕ) → List (List ℕ × ℕ) = λ xs. (bytes e.0, e.1) ∷ xs in ap typed (ih f)

is_none-of : (o : Option ℕ) → is_some o ≡ false → o ≡ None
is_none-of None e = refl
is_none-of (Some k) e = absurd (false≢true (sym e))

some-of : (o : Option ℕ) → is_some o ≡ true → (k : ℕ) × (o ≡ Some k)
some-of None e = absurd (false≢true e)
some-of (Some k) e = (k, refl)

-- the name that is added isn't there
pub kept_new : {X : Type 0} (bytes : X → List ℕ) (old new : List (X × ℕ)) (owned : X) (name : List ℕ) (at : ℕ) (doubled : Option ℕ) → bytes owned ≡ name →
    false ≡ is_some (lookup (λ k. bytes_eq name (bytes k)) old) → new ≡ insert_entry (λ a b. bytes_eq (bytes a) (bytes b)) old owned at →
    (names : List (List ℕ)) → length names ≡ at → ArePlaces (entries_by bytes old) doubled names → ArePlaces (entries_by bytes new) doubled (names ++ name ∷ [])
kept_new bytes old new owned name at doubled is absent entries names count places =
    let none : place_at (entries_by bytes old) name ≡ None = is_none-of _ (ap (is_some {T = ℕ}) (sym (lookup-place bytes name old)) ∙ sym absent) in
    let here : place_at (entries_by bytes old) (bytes owned) ≡ None = ap (place_at (entries_by bytes old)) is ∙ none in
    let all : entries_by bytes old ++ (name, at) ∷ [] ≡ entries_by bytes new =
    ap (λ n. entries_by bytes old ++ (n, at) ∷ []) (sym is) ∙ (sym (inserted bytes old owned at here) ∙ ap (entries_by bytes) (sym entries)) in
    subst (λ (es : List (List ℕ × ℕ)). ArePlaces es doubled (names ++ name ∷ [])) all (places_with (entries_by bytes old) doubled names name at none count places)

-- it is there, and the first such name
pub kept_doubled : {X : Type 0} (bytes : X → List ℕ) (old : List (X × ℕ)) (name : List ℕ) (at len : ℕ) (doubled : Option ℕ) → is_some doubled ≡ false → len ≡ length old →
    true ≡ is_some (lookup (λ k. bytes_eq name (bytes k)) old) →
    (names : List (List ℕ)) → length names ≡ at → ArePlaces (entries_by bytes old) doubled names → ArePlaces (entries_by bytes old) (Some len) (names ++ name ∷ [])
kept_doubled bytes old name at len doubled first is there names count places =
    let (k, here) = some-of (place_at (entries_by bytes old) name) (ap (is_some {T = ℕ}) (sym (lookup-place bytes name old)) ∙ sym there) in
    let as_many : length (entries_by bytes old) ≡ len = length-by bytes old ∙ sym is in
    subst (λ (n : ℕ). ArePlaces (entries_by bytes old) (Some n) (names ++ name ∷ [])) as_many
    (places_doubled (entries_by bytes old) doubled names name k here (is_none-of doubled first) places)

-- it is there, as an earlier one was
pub kept_doubled_before : {X : Type 0} (bytes : X → List ℕ) (old : List (X × ℕ)) (name : List ℕ) (at : ℕ) (doubled : Option ℕ) → is_some doubled ≡ true →
    true ≡ is_some (lookup (λ k. bytes_eq name (bytes k)) old) →
    (names : List (List ℕ)) → length names ≡ at → ArePlaces (entries_by bytes old) doubled names → ArePlaces (entries_by bytes old) doubled (names ++ name ∷ [])
kept_doubled_before bytes old name at doubled before there names count places =
    let (k, here) = some-of (place_at (entries_by bytes old) name) (ap (is_some {T = ℕ}) (sym (lookup-place bytes name old)) ∙ sym there) in
    let (j, earlier) = some-of doubled before in
    places_doubled_before (entries_by bytes old) doubled names name k j here earlier places

-- ---- types by their names

-- the type at a place
abbrev type_at_place : List (List ℕ × Ty) → Option ℕ → Option Ty
type_at_place ts None = None
type_at_place ts (Some k) = option_map (λ t. t.1) (slice_get ts k)

type-placed : (ts : List (List ℕ × Ty)) (name : List ℕ) → type_among ts name ≡ type_at_place ts (place_among name (map (λ t. t.0) ts))
type-placed [] name = refl
type-placed (t ∷ ts) name = cases (bytes_eq name t.0) (place_among name (map (λ t. t.0) ts)) (type-placed ts name)
  where
    cases : (b : Bool) (o : Option ℕ) → type_among ts name ≡ type_at_place ts o → cond b (Some t.1) (type_among ts name) ≡ type_at_place (t ∷ ts) (cond b (Some 0) (option_map (λ k. suc k) o))
    cases true o ih = refl
    cases false None ih = ih
    cases false (Some k) ih = ih

type_found : (entries : List (List ℕ × ℕ)) (doubled : Option ℕ) (ts : List (List ℕ × Ty)) (name : List ℕ) (o : Option ℕ) → ArePlaces entries doubled (map (λ t. t.0) ts) → o ≡ place_at entries name → type_among ts name ≡ type_at_place ts o
type_found entries doubled ts name o places is = type-placed ts name ∙ ap (type_at_place ts) (sym (places.found name) ∙ sym is)

-- the name has no place
pub no_type : (entries : List (List ℕ × ℕ)) (doubled : Option ℕ) (ts seen : List (List ℕ × Ty)) (name : List ℕ) (o : Option ℕ) → ArePlaces entries doubled (map (λ t. t.0) ts) → o ≡ place_at entries name → o ≡ None → ts ≡ seen →
    None ≡ type_among seen name
no_type entries doubled ts seen name o places is none same = sym (sym (ap (λ xs. type_among xs name) same) ∙ (type_found entries doubled ts name o places is ∙ ap (type_at_place ts) none))

-- nothing is there
pub no_type_there : (entries : List (List ℕ × ℕ)) (doubled : Option ℕ) (ts seen : List (List ℕ × Ty)) (name : List ℕ) (o : Option ℕ) (at : ℕ) → ArePlaces entries doubled (map (λ t. t.0) ts) → o ≡ place_at entries name → o ≡ Some at →
    None ≡ slice_get ts at → ts ≡ seen → None ≡ type_among seen name
no_type_there entries doubled ts seen name o at places is some none same =
    ap (option_map (λ (t : List ℕ × Ty). t.1)) none ∙ sym (sym (ap (λ xs. type_among xs name) same) ∙ (type_found entries doubled ts name o places is ∙ ap (type_at_place ts) some))

-- the type at the name's place
pub one_type : (entries : List (List ℕ × ℕ)) (doubled : Option ℕ) (ts seen : List (List ℕ × Ty)) (name : List ℕ) (o : Option ℕ) (at : ℕ) (t : List ℕ × Ty) → ArePlaces entries doubled (map (λ t. t.0) ts) → o ≡ place_at entries name → o ≡ Some at →
    Some t ≡ slice_get ts at → ts ≡ seen → Some t.1 ≡ type_among seen name
one_type entries doubled ts seen name o at t places is some here same =
    ap (option_map (λ (t : List ℕ × Ty). t.1)) here ∙ sym (sym (ap (λ xs. type_among xs name) same) ∙ (type_found entries doubled ts name o places is ∙ ap (type_at_place ts) some))
