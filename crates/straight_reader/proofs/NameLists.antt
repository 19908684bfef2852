-- Names among names: places of distinct ones, and one more name.
use Rattle.std.proofs.Common.{◌≡◌, ◌∙◌, ℕ, ◌+◌, ◌<◌, ◌≤◌, suc, zero, Bool, true, false, cond, not, ◌&&◌, nat_le, nat_lt, List, [], ◌∷◌, ◌++◌, length, take, drop, get_or, Option, Some, None, option_map, bytes_eq, refl, sym, ap, arith, drop-cons, add-one}
use Rattle.std.specs.List.{slice_get}
use Rattle.std.proofs.lemmas.Bool.{false≢true}
use Rattle.std.proofs.lemmas.Bool.Decides.{nat_tests}
use Rattle.std.proofs.lemmas.List.{map-append, take_more}
use Rattle.std.proofs.lemmas.Option.{slice_get_read}
use Rattle.std.proofs.lemmas.Slice.Eq.{bytes_eq-Decides}
use Rattle.name_table.specs.Places.{is_among, place_among, are_distinct}
use Rattle.straight_form.specs.declared.surface.Entity.{Entity}
use Rattle.straight_form.specs.Form.{params_among}
use Rattle.straight_reader.specs.Forms.{function_names}

-- the list from a place on begins with what stands there
pub next : {X : Type 0} (xs : List X) (i : ℕ) (x : X) → i < length xs → x ≡ get_or xs i x → drop i xs ≡ x ∷ drop (i + 1) xs
next xs i x within here = drop-cons xs i x within ∙ ap (λ y. y ∷ drop (suc i) xs) (sym here) ∙ ap (λ k. x ∷ drop k xs) (sym (add-one i))

pub one_more : {X : Type 0} (xs : List X) (i : ℕ) (x : X) → i < length xs → x ≡ get_or xs i x → take (i + 1) xs ≡ take i xs ++ x ∷ []
one_more xs i x within here = take_more xs i x within ∙ ap (λ y. take i xs ++ y ∷ []) (sym here)

and_false : (b : Bool) → (b && false) ≡ false
and_false true = refl
and_false false = refl

pub and_left : (b c : Bool) → (b && c) ≡ true → b ≡ true
and_left true c e = refl
and_left false c e = e

pub and_right : (b c : Bool) → (b && c) ≡ true → c ≡ true
and_right true c e = e
and_right false c e = cc

pub and_both : (b c : Bool) → b ≡ true → c ≡ true → (b && c) ≡ true
and_both true c e f = f
and_both false c e f = e

not_true : (b : Bool) → not b ≡ true → b ≡ false
not_true true e = sym e
not_true false e = refl

pub same : (a b : List ℕ) → bytes_eq a b ≡ true → a ≡ b
same a b e = (bytes_eq-Decides a b).0 e

pub same-refl : (a : List ℕ) → bytes_eq a a ≡ true
same-refl a = (bytes_eq-Decides a a).1 refl

pub differ-sym : (a b : List ℕ) → bytes_eq a b ≡ false → bytes_eq b a ≡ false
differ-sym a b e = cases (bytes_eq b a) refl
  where
    cases : (t : Bool) → bytes_eq b a ≡ t → bytes_eq b a ≡ false
    cases true f = absurd (false≢true (sym e ∙ ap (bytes_eq a) (same b a f) ∙ same-refl a))
    cases false f = f

pub absent-tail : (name other : List ℕ) (others : List (List ℕ)) → is_among name (other ∷ others) ≡ false → is_among name others ≡ false
absent-tail name other others e = cases (bytes_eq name other) e
  where
    cases : (t : Bool) → cond t true (is_among name others) ≡ false → is_among name others ≡ false
    cases true f = cc
    cases false f = f

pub absent-head : (name other : List ℕ) (others : List (List ℕ)) → is_among name (other ∷ others) ≡ false → bytes_eq name other ≡ false
absent-head name other others e = cases (bytes_eq name other) e
  where
    cases : (t : Bool) → cond t true (is_among name others) ≡ false → t ≡ false
    cases true f = f
    cases false f = refl

pub not_placed : (name : List ℕ) (names : List (List ℕ)) → place_among name names ≡ None → is_among name names ≡ false
not_placed name [] e = refl
not_placed name (other ∷ others) e = cases (bytes_eq name other) (place_among name others) e (not_placed name others)
  where
    cases : (t : Bool) (o : Option ℕ) → cond t (Some 0) (option_map (λ k. suc k) o) ≡ None → (o ≡ None → is_among name others ≡ false) → cond t true (is_among name others) ≡ false
    cases true o f ih = cc
    cases false None f ih = ih refl
    cases false (Some k) f ih = cc

pub placed_among : (name : List ℕ) (names : List (List ℕ)) (k : ℕ) → place_among name names ≡ Some k → is_among name names ≡ true
placed_among name [] k e = cc
placed_among name (other ∷ others) k e = cases (bytes_eq name other) (place_among name others) e (placed_among name others)
  where
    cases : (t : Bool) (o : Option ℕ) → cond t (Some 0) (option_map (λ j. suc j) o) ≡ Some k → ((j : ℕ) → o ≡ Some j → is_among name others ≡ true) → cond t true (is_among name others) ≡ true
    cases true o f ih = refl
    cases false None f ih = cc
    cases false (Some j) f ih = ih j refl

zero_le : (k : ℕ) → nat_le 0 k ≡ true
zero_le k = grind (arith, nat_tests)

suc_le : (n k : ℕ) → nat_le n k ≡ nat_le (suc n) (suc k)
suc_le n k = grind (arith, nat_tests)

suc_le_zero : (n : ℕ) → nat_le (suc n) 0 ≡ false
suc_le_zero n = grind (arith, nat_tests)

le_lt : (n k : ℕ) → nat_le (n + 1) k ≡ nat_lt n k
le_lt n k = grind (arith, nat_tests)

pub is_less : (n k : ℕ) → n < k → nat_lt n k ≡ true
is_less n k less = grind (arith, nat_tests, less)

pub isn't_less : (n k : ℕ) → k ≤ n → nat_lt n k ≡ false
isn't_less n k least = grind (arith, nat_tests, least)

-- ---- how many parameters the function of a name has

params-cons : (name : List ℕ) (x : Entity) (es : List Entity) → params_among name (x ∷ es) ≡ cond (bytes_eq name x.name) (Some (length x.params)) (params_among name es)
params-cons name x es = cases (bytes_eq name x.name)
  where
    cases : (b : Bool) → elim b [ true ↦ Some (length x.params) | false ↦ params_among name es ] ≡ cond b (Some (length x.params)) (params_among name es)
    cases true = refl
    cases false = refl

pub no_params : (name : List ℕ) (es : List Entity) → is_among name (function_names es) ≡ false → params_among name es ≡ None
no_params name [] e = refl
no_params name (x ∷ es) e =
    params-cons name x es
    ∙ ap (λ b. cond b (Some (length x.params)) (params_among name es)) (absent-head name x.name (function_names es) e)
    ∙ no_params name es (absent-tail name x.name (function_names es) e)

no_params-drop : (name : List ℕ) (n : ℕ) (es : List Entity) → is_among name (function_names es) ≡ false → params_among name (drop n es) ≡ None
no_params-drop name zero es e = no_params name es e
no_params-drop name (suc n) [] e = refl
no_params-drop name (suc n) (x ∷ es) e = no_params-drop name n es (absent-tail name x.name (function_names es) e)

pub absent_params : (name : List ℕ) (n : ℕ) (es : List Entity) → place_among name (function_names es) ≡ None → params_among name (drop n es) ≡ None
absent_params name n es e = no_params-drop name n es (not_placed name (function_names es) e)

abbrev pub param_count : Option Entity → Option ℕ
param_count o = option_map (λ e. length e.params) o

-- a function of a place, among those from another place on
pub placed_params : (name : List ℕ) (es : List Entity) → are_distinct (function_names es) ≡ true → (n k : ℕ) → place_among name (function_names es) ≡ Some k →
    params_among name (drop n es) ≡ cond (nat_le n k) (param_count (slice_get es k)) None
placed_params name [] d n k e = cc
placed_params name (x ∷ es) d n k e =
    cases (bytes_eq name x.name) refl (place_among name (function_names es)) e (placed_params name es (and_right (not (is_among x.name (function_names es))) (are_distinct (function_names es)) d)) n
  where
    alone : is_among x.name (function_names es) ≡ false
    alone = not_true _ (and_left (not (is_among x.name (function_names es))) (are_distinct (function_names es)) d)

    cases : (t : Bool) → bytes_eq name x.name ≡ t → (o : Option ℕ) → cond t (Some 0) (option_map (λ k. suc k) o) ≡ Some k →
        ((m j : ℕ) → o ≡ Some j → params_among name (drop m es) ≡ cond (nat_le m j) (param_count (slice_get es j)) None) → (m : ℕ) →
        params_among name (drop m (x ∷ es)) ≡ cond (nat_le m k) (param_count (slice_get (x ∷ es) k)) None
    cases true q o f ih zero =
        let z : 0 ≡ k = cc in
        params-cons name x es
        ∙ ap (λ b. cond b (Some (length x.params)) (params_among name es)) q
        ∙ ap (λ b. cond b (Some (length x.params)) None) (sym (zero_le 0))
        ∙ ap (λ j. cond (nat_le 0 j) (param_count (slice_get (x ∷ es) j)) None) z
    cases true q o f ih (suc m) =
        let z : 0 ≡ k = cc in
        no_params-drop name m es (ap (λ y. is_among y (function_names es)) (same name x.name q) ∙ alone)
        ∙ ap (λ b. cond b (param_count (slice_get (x ∷ es) 0)) None) (sym (suc_le_zero m))
        ∙ ap (λ j. cond (nat_le (suc m) j) (param_count (slice_get (x ∷ es) j)) None) z
    cases false q None f ih m = cc
    cases false q (Some j) f ih zero =
        let z : suc j ≡ k = cc in
        params-cons name x es
        ∙ ap (λ b. cond b (Some (length x.params)) (params_among name es)) q
        ∙ ih 0 j refl
        ∙ ap (λ b. cond b (param_count (slice_get es j)) None) (zero_le j ∙ sym (zero_le (suc j)))
        ∙ ap (λ i. cond (nat_le 0 i) (param_count (slice_get (x ∷ es) i)) None) z
    cases false q (Some j) f ih (suc m) =
        let z : suc j ≡ k = cc in
        ih m j refl
        ∙ ap (λ b. cond b (param_count (slice_get es j)) None) (suc_le m j)
        ∙ ap (λ i. cond (nat_le (suc m) i) (param_count (slice_get (x ∷ es) i)) None) z

-- the function of a name is behind a place just where its own place is
pub later_params : (name : List ℕ) (es : List Entity) (at k : ℕ) → are_distinct (function_names es) ≡ true → place_among name (function_names es) ≡ Some k →
    params_among name (drop (at + 1) es) ≡ cond (nat_lt at k) (param_count (slice_get es k)) None
later_params name es at k d e = placed_params name es d (at + 1) k e ∙ ap (λ b. cond b (param_count (slice_get es k)) None) (le_lt at k)

pub later_count : (name : List ℕ) (es : List Entity) (at k : ℕ) (x : Entity) → are_distinct (function_names es) ≡ true → place_among name (function_names es) ≡ Some k →
    at < k → k < length es → x ≡ get_or es k x → params_among name (drop (at + 1) es) ≡ Some (length x.params)
later_count name es at k x d e behind within here =
    later_params name es at k d e ∙ ap (λ b. cond b (param_count (slice_get es k)) None) (is_less at k behind) ∙ ap param_count (slice_get_read es (length es) k x refl within here)

pub earlier_count : (name : List ℕ) (es : List Entity) (at k : ℕ) → are_distinct (function_names es) ≡ true → place_among name (function_names es) ≡ Some k →
    k ≤ at → params_among name (drop (at + 1) es) ≡ None
earlier_count name es at k d e before = later_params name es at k d e ∙ ap (λ b. cond b (param_count (slice_get es k)) None) (isn't_less at k before)

-- ---- one more name

among-append : (name : List ℕ) (xs ys : List (List ℕ)) → is_among name xs ≡ false → is_among name (xs ++ ys) ≡ is_among name ys
among-append name [] ys e = refl
among-append name (x ∷ xs) ys e =
    ap (λ b. cond b true (is_among name (xs ++ ys))) (absent-head name x xs e) ∙ among-append name xs ys (absent-tail name x xs e)

among-here : (name : List ℕ) (xs ys : List (List ℕ)) → is_among name (xs ++ name ∷ ys) ≡ true
among-here name [] ys = ap (λ b. cond b true (is_among name ys)) (same-refl name)
among-here name (x ∷ xs) ys = ap (cond (bytes_eq name x) true) (among-here name xs ys) ∙ both (bytes_eq name x)
  where
    both : (b : Bool) → cond b true true ≡ true
    both true = refl
    both false = refl

one-absent : (x y : List ℕ) → bytes_eq y x ≡ false → is_among x (y ∷ []) ≡ false
one-absent x y e = ap (λ b. cond b true false) (differ-sym y x e)

pub distinct-more : (xs : List (List ℕ)) (y : List ℕ) → are_distinct xs ≡ true → is_among y xs ≡ false → are_distinct (xs ++ y ∷ []) ≡ true
distinct-more [] y d e = refl
distinct-more (x ∷ xs) y d e =
    and_both (not (is_among x (xs ++ y ∷ []))) (are_distinct (xs ++ y ∷ []))
    (ap not (among-append x xs (y ∷ []) (not_true _ (and_left (not (is_among x xs)) (are_distinct xs) d)) ∙ one-absent x y (absent-head y x xs e)))
    (distinct-more xs y (and_right (not (is_among x xs)) (are_distinct xs) d) (absent-tail y x xs e))

pub distinct-double : (xs ys : List (List ℕ)) (y : List ℕ) → is_among y xs ≡ true → are_distinct (xs ++ y ∷ ys) ≡ false
distinct-double [] ys y e = cc
distinct-double (x ∷ xs) ys y e = cases (bytes_eq y x) refl e (distinct-double xs ys y)
  where
    cases : (t : Bool) → bytes_eq y x ≡ t → cond t true (is_among y xs) ≡ true → (is_among y xs ≡ true → are_distinct (xs ++ y ∷ ys) ≡ false) →
        (not (is_among x (xs ++ y ∷ ys)) && are_distinct (xs ++ y ∷ ys)) ≡ false
    cases true q f ih = ap (λ b. not b && are_distinct (xs ++ y ∷ ys)) (ap (λ z. is_among z (xs ++ y ∷ ys)) (sym (same y x q)) ∙ among-here y xs ys)
    cases false q f ih = ap (λ b. not (is_among x (xs ++ y ∷ ys)) && b) (ih f) ∙ and_false (not (is_among x (xs ++ y ∷ ys)))

-- a list of names is what stands before a place, the name there, and the rest
pub names_at : (names : List (List ℕ)) (i : ℕ) (name : List ℕ) → i < length names → name ≡ get_or names i name → names ≡ take i names ++ name ∷ drop (i + 1) names
names_at names i name within here = split i names ∙ ap (λ ns. take i names ++ ns) (next names i name within here)
  where
    split : (k : ℕ) (ns : List (List ℕ)) → ns ≡ take k ns ++ drop k ns
    split zero ns = refl
    split (suc k) [] = refl
    split (suc k) (n ∷ ns) = ap (λ ms. n ∷ ms) (split k ns)

-- distinct names, and one more that is new
pub more_distinct : (names : List (List ℕ)) (i : ℕ) (name : List ℕ) (so_far : List (List ℕ)) → i < length names → name ≡ get_or names i name → so_far ≡ take i names →
    are_distinct (take i names) ≡ true → is_among name so_far ≡ false → are_distinct (take (i + 1) names) ≡ true
more_distinct names i name so_far within here n d new = ap are_distinct (one_more names i name within here) ∙ distinct-more (take i names) name d (ap (is_among name) (sym n) ∙ new)

-- a name that stood before
pub doubled : (names : List (List ℕ)) (i : ℕ) (name : List ℕ) (so_far : List (List ℕ)) → i < length names → name ≡ get_or names i name → so_far ≡ take i names →
    is_among name so_far ≡ true → are_distinct names ≡ false
doubled names i name so_far within here n there =
    ap are_distinct (names_at names i name within here) ∙ distinct-double (take i names) (drop (i + 1) names) name (ap (is_among name) (sym n) ∙ there)

-- ---- the same for the names of definitions

names-split : (es : List Entity) (i : ℕ) (e : Entity) → i < length es → e ≡ get_or es i e → function_names es ≡ function_names (take i es) ++ e.name ∷ function_names (drop (i + 1) es)
names-split es i e within here = split i es ∙ ap (λ ds. function_names (take i es) ++ function_names ds) (next es i e within here)
  where
    split : (k : ℕ) (ds : List Entity) → function_names ds ≡ function_names (take k ds) ++ function_names (drop k ds)
    split zero ds = refl
    split (suc k) [] = refl
    split (suc k) (d ∷ ds) = ap (λ ns. d.name ∷ ns) (split k ds)

names-more : (es : List Entity) (i : ℕ) (e : Entity) → i < length es → e ≡ get_or es i e → function_names (take (i + 1) es) ≡ function_names (take i es) ++ e.name ∷ []
names-more es i e within here = ap function_names (one_more es i e within here) ∙ map-append (λ (x : Entity). x.name) (take i es) (e ∷ [])

pub more_names : (es : List Entity) (i : ℕ) (e : Entity) (names new : List (List ℕ)) → i < length es → e ≡ get_or es i e → names ≡ function_names (take i es) → new ≡ names ++ e.name ∷ [] → new ≡ function_names (take (i + 1) es)
more_names es i e names new within here n m = m ∙ ap (λ ns. ns ++ e.name ∷ []) n ∙ sym (names-more es i e within here)

pub more_well : (es : List Entity) (i : ℕ) (e : Entity) (names : List (List ℕ)) → i < length es → e ≡ get_or es i e → names ≡ function_names (take i es) → are_distinct (function_names (take i es)) ≡ true →
    is_among e.name names ≡ false → are_distinct (function_names (take (i + 1) es)) ≡ true
more_well es i e names within here n d new =
    ap are_distinct (names-more es i e within here) ∙ distinct-more (function_names (take i es)) e.name d (ap (is_among e.name) (sym n) ∙ new)

pub doubled_name : (es : List Entity) (i : ℕ) (e : Entity) (names : List (List ℕ)) → i < length es → e ≡ get_or es i e → names ≡ function_names (take i es) → is_among e.name names ≡ true → are_distinct (function_names es) ≡ false
doubled_name es i e names within here n there =
    ap are_distinct (names-split es i e within here)
    ∙ distinct-double (function_names (take i es)) (function_names (drop (i + 1) es)) e.name (ap (is_among e.name) (sym n) ∙ there)
