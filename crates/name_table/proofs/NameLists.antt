-- Names among names: places of distinct ones, and one more name.
use Rattle.std.proofs.Common.{◌≡◌, ◌∙◌, ℕ, ◌+◌, ◌<◌, suc, zero, Bool, true, false, cond, not, ◌&&◌, List, [], ◌∷◌, ◌++◌, length, take, drop, get_or, Option, Some, None, option_map, bytes_eq, refl, sym, ap}
use Rattle.std.proofs.lemmas.Bool.{false≢true, and_parts, and_from, and_right, not-true}
use Rattle.std.proofs.lemmas.Slice.Eq.{bytes_eq-Decides}
use Rattle.ir_types.proofs.ListSteps.{drop_at, take_at}
use Rattle.name_table.specs.Places.{is_among, place_among, are_distinct}

-- ---- equal names

pub same : (a b : List ℕ) → bytes_eq a b ≡ true → a ≡ b
same a b e = (bytes_eq-Decides a b).0 e

pub same-refl : (a : List ℕ) → bytes_eq a a ≡ true
same-refl a = (bytes_eq-Decides a a).1 refl

pub differ-sym : (a b : List ℕ) → bytes_eq a b ≡ false → bytes_eq b a ≡ false
differ-sym a b e = cases (bytes_eq b a) refl
  where
    cases : (t : Bool) → bytes_eq b a ≡ t → bytes_eq b a ≡ false
    cases true f = absurd (false≢true (sym e ∙ ap (bytes_eq a) (same b a f) ∙ same-refl a))
    cases false f = f

-- ---- names that are or are not among names

pub absent-tail : (name other : List ℕ) (others : List (List ℕ)) → is_among name (other ∷ others) ≡ false → is_among name others ≡ false
absent-tail name other others e = cases (bytes_eq name other) e
  where
    cases : (t : Bool) → cond t true (is_among name others) ≡ false → is_among name others ≡ false
    cases true f = cc
    cases false f = f

pub absent-head : (name other : List ℕ) (others : List (List ℕ)) → is_among name (other ∷ others) ≡ false → bytes_eq name other ≡ false
absent-head name other others e = cases (bytes_eq name other) e
  where
    cases : (t : Bool) → cond t true (is_among name others) ≡ false → t ≡ false
    cases true f = f
    cases false f = refl

pub not_placed : (name : List ℕ) (names : List (List ℕ)) → place_among name names ≡ None → is_among name names ≡ false
not_placed name [] e = refl
not_placed name (other ∷ others) e = cases (bytes_eq name other) (place_among name others) e (not_placed name others)
  where
    cases : (t : Bool) (o : Option ℕ) → cond t (Some 0) (option_map (λ k. suc k) o) ≡ None → (o ≡ None → is_among name others ≡ false) → cond t true (is_among name others) ≡ false
    cases true o f ih = cc
    cases false None f ih = ih refl
    cases false (Some k) f ih = cc

pub placed_among : (name : List ℕ) (names : List (List ℕ)) (k : ℕ) → place_among name names ≡ Some k → is_among name names ≡ true
placed_among name [] k e = cc
placed_among name (other ∷ others) k e = cases (bytes_eq name other) (place_among name others) e (placed_among name others)
  where
    cases : (t : Bool) (o : Option ℕ) → cond t (Some 0) (option_map (λ j. suc j) o) ≡ Some k → ((j : ℕ) → o ≡ Some j → is_among name others ≡ true) → cond t true (is_among name others) ≡ true
    cases true o f ih = refl
    cases false None f ih = cc
    cases false (Some j) f ih = ih j refl

pub among-append : (name : List ℕ) (xs ys : List (List ℕ)) → is_among name xs ≡ false → is_among name (xs ++ ys) ≡ is_among name ys
among-append name [] ys e = refl
among-append name (x ∷ xs) ys e =
    ap (λ b. cond b true (is_among name (xs ++ ys))) (absent-head name x xs e) ∙ among-append name xs ys (absent-tail name x xs e)

pub among-here : (name : List ℕ) (xs ys : List (List ℕ)) → is_among name (xs ++ name ∷ ys) ≡ true
among-here name [] ys = ap (λ b. cond b true (is_among name ys)) (same-refl name)
among-here name (x ∷ xs) ys = ap (cond (bytes_eq name x) true) (among-here name xs ys) ∙ both (bytes_eq name x)
  where
    both : (b : Bool) → cond b true true ≡ true
    both true = refl
    both false = refl

pub absent-more : (x y : List ℕ) (xs : List (List ℕ)) → is_among x xs ≡ false → bytes_eq y x ≡ false → is_among x (xs ++ y ∷ []) ≡ false
absent-more x y xs e d = among-append x xs (y ∷ []) e ∙ ap (λ b. cond b true false) (differ-sym y x d)

pub absent-front : (name : List ℕ) (xs ys : List (List ℕ)) → is_among name (xs ++ ys) ≡ false → is_among name xs ≡ false
absent-front name [] ys e = refl
absent-front name (x ∷ xs) ys e =
    ap (λ b. cond b true (is_among name xs)) (absent-head name x (xs ++ ys) e) ∙ absent-front name xs ys (absent-tail name x (xs ++ ys) e)

-- ---- distinct names

pub distinct-more : (xs : List (List ℕ)) (y : List ℕ) → are_distinct xs ≡ true → is_among y xs ≡ false → are_distinct (xs ++ y ∷ []) ≡ true
distinct-more [] y d e = refl
distinct-more (x ∷ xs) y d e =
    let (new, rest) = and_parts (not (is_among x xs)) (are_distinct xs) d in
    and_from (not (is_among x (xs ++ y ∷ []))) (are_distinct (xs ++ y ∷ []))
    (ap not (absent-more x y xs (not-true _ new) (absent-head y x xs e)))
    (distinct-more xs y rest (absent-tail y x xs e))

pub distinct-double : (xs ys : List (List ℕ)) (y : List ℕ) → is_among y xs ≡ true → are_distinct (xs ++ y ∷ ys) ≡ false
distinct-double [] ys y e = cc
distinct-double (x ∷ xs) ys y e = cases (bytes_eq y x) refl e (distinct-double xs ys y)
  where
    cases : (t : Bool) → bytes_eq y x ≡ t → cond t true (is_among y xs) ≡ true → (is_among y xs ≡ true → are_distinct (xs ++ y ∷ ys) ≡ false) →
        (not (is_among x (xs ++ y ∷ ys)) && are_distinct (xs ++ y ∷ ys)) ≡ false
    cases true q f ih = ap (λ b. not b && are_distinct (xs ++ y ∷ ys)) (ap (λ z. is_among z (xs ++ y ∷ ys)) (sym (same y x q)) ∙ among-here y xs ys)
    cases false q f ih = ap (λ b. not (is_among x (xs ++ y ∷ ys)) && b) (ih f) ∙ and_right (not (is_among x (xs ++ y ∷ ys))) false refl

pub distinct-front : (xs ys : List (List ℕ)) → are_distinct (xs ++ ys) ≡ true → are_distinct xs ≡ true
distinct-front [] ys d = refl
distinct-front (x ∷ xs) ys d =
    let (new, rest) = and_parts (not (is_among x (xs ++ ys))) (are_distinct (xs ++ ys)) d in
    and_from (not (is_among x xs)) (are_distinct xs) (ap not (absent-front x xs ys (not-true _ new))) (distinct-front xs ys rest)

-- the last of distinct names is new
pub new-absent : (xs : List (List ℕ)) (y : List ℕ) → are_distinct (xs ++ y ∷ []) ≡ true → is_among y xs ≡ false
new-absent [] y d = refl
new-absent (x ∷ xs) y d =
    let (new, rest) = and_parts (not (is_among x (xs ++ y ∷ []))) (are_distinct (xs ++ y ∷ [])) d in
    ap (λ b. cond b true (is_among y xs)) (other (bytes_eq y x) refl (not-true _ new)) ∙ new-absent xs y rest
  where
    other : (b : Bool) → bytes_eq y x ≡ b → is_among x (xs ++ y ∷ []) ≡ false → bytes_eq y x ≡ false
    other false e f = e
    other true e f = absurd (false≢true (sym f ∙ ap (λ z. is_among z (xs ++ y ∷ [])) (sym (same y x e)) ∙ among-here y xs []))

-- ---- over a list of names, from the first on

-- a list of names is what stands before a place, the name there, and the rest
pub names_at : (names : List (List ℕ)) (i : ℕ) (name : List ℕ) → i < length names → name ≡ get_or names i name → names ≡ take i names ++ name ∷ drop (i + 1) names
names_at names i name within here = split i names ∙ ap (λ ns. take i names ++ ns) (drop_at names i name within here)
  where
    split : (k : ℕ) (ns : List (List ℕ)) → ns ≡ take k ns ++ drop k ns
    split zero ns = refl
    split (suc k) [] = refl
    split (suc k) (n ∷ ns) = ap (λ ms. n ∷ ms) (split k ns)

-- distinct names, and one more that is new
pub more_distinct : (names : List (List ℕ)) (i : ℕ) (name : List ℕ) (so_far : List (List ℕ)) → i < length names → name ≡ get_or names i name → so_far ≡ take i names →
    are_distinct (take i names) ≡ true → is_among name so_far ≡ false → are_distinct (take (i + 1) names) ≡ true
more_distinct names i name so_far within here n d new = ap are_distinct (take_at names i name within here) ∙ distinct-more (take i names) name d (ap (is_among name) (sym n) ∙ new)

-- a name that stood before
pub doubled : (names : List (List ℕ)) (i : ℕ) (name : List ℕ) (so_far : List (List ℕ)) → i < length names → name ≡ get_or names i name → so_far ≡ take i names →
    is_among name so_far ≡ true → are_distinct names ≡ false
doubled names i name so_far within here n there =
    ap are_distinct (names_at names i name within here) ∙ distinct-double (take i names) (drop (i + 1) names) name (ap (is_among name) (sym n) ∙ there)
