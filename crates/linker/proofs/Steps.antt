-- Steps of loops.
use Rattle.std.proofs.Common.{◌≡◌, ◌∙◌, ℕ, zero, suc, ◌+◌, ◌<◌, ◌≤◌, Bool, true, false, cond, ◌||◌, List, [], ◌∷◌, ◌++◌, length, take, drop, set, get_or, append_assoc, ℤ, Option, None, Some, is_some, option_map, bytes_eq, refl, sym, ap, subst, arith, IsTrue, ◌↔◌, MatchBool}
use Rattle.std.specs.List.{All, AllZip, flat_map, list_any, find}
use Rattle.std.proofs.lemmas.Bool.{false≢true}
use Rattle.std.proofs.lemmas.List.{take_all, take_more, drop_all, at_drop_more, append-nil}
use Rattle.std.proofs.lemmas.List.Elements.{All-more}
use Rattle.ir_types.proofs.ListSteps.{drop_at, take_at}
use Rattle.ir_syntax.specs.declared.symbol.Sym.{Sym}
use Rattle.ir_syntax.specs.declared.item.Param.{Param}
use Rattle.ir_syntax.specs.declared.item.Item.{Item}
use Rattle.ir_syntax.specs.Programs.{argument_of, arguments_of}
use Rattle.ir_types.specs.declared.scalar.Known.{Known}
use Rattle.ir_syntax.specs.Named.{item_names}
use Rattle.name_table.specs.Places.{place_among, is_among}
use Rattle.name_table.proofs.NameLists.{same}
use Rattle.linker.specs.declared.group.Group.{Group}
use Rattle.linker.specs.Mirrors.Marks.{marked_all}
use Rattle.linker.specs.Mirrors.Groups.{with_member}
use Rattle.linker.specs.Mirrors.Slots.{AreSame}
use Rattle.linker.proofs.Lists.{zip_push}
use Rattle.linker.proofs.Marking.{marked_more}

-- ---- loops that end where an element fails

pub stops : {A : Type 0} (P : A → Type 0) (xs : List A) (i : ℕ) (x : A) → i < length xs → x ≡ get_or xs i x → (P x → ⊥) → IsTrue false ↔ All P xs
stops P xs i x within is fails = (λ e. absurd (false≢true e), λ all. absurd (fails (subst P (sym is) (all i x within))))

pub goes : {A : Type 0} (P : A → Type 0) (xs : List A) (i : ℕ) (x : A) → i < length xs → x ≡ get_or xs i x → All P (take i xs) → P x → All P (take (i + 1) xs)
goes P xs i x within is before here = All-more P xs i x within before (subst P is here)

pub whole : {A : Type 0} (P : A → Type 0) (xs : List A) (i : ℕ) → length xs ≤ i → All P (take i xs) → All P xs
whole P xs i past all = subst (All P) (take_all i xs past) all

pub ends : {A : Type 0} (P : A → Type 0) (xs : List A) (i : ℕ) → length xs ≤ i → All P (take i xs) → IsTrue true ↔ All P xs
ends P xs i past all = (λ e. whole P xs i past all, λ h. refl)

-- ---- two lists side by side

-- one more on both sides, where the second list is made
pub zip_goes : {A B : Type 0} (R : A → B → Type 0) (xs : List A) (i : ℕ) (x : A) (ys : List B) (y : B) → i < length xs → x ≡ get_or xs i x → AllZip R (take i xs) ys → R x y → AllZip R (take (i + 1) xs) (ys ++ y ∷ [])
zip_goes R xs i x ys y within is h r = subst (λ zs. AllZip R zs (ys ++ y ∷ [])) (sym (take_at xs i x within is)) (zip_push R (take i xs) ys x y h r)

pub whole_zip : {A B : Type 0} (R : A → B → Type 0) (xs all : List A) (i : ℕ) (ys : List B) → xs ≡ all → length xs ≤ i → AllZip R (take i xs) ys → AllZip R all ys
whole_zip R xs all i ys same_list past h = subst (λ zs. AllZip R zs ys) (take_all i xs past ∙ same_list) h

-- one more on both sides
pub zip_both : {A B : Type 0} (R : A → B → Type 0) (xs : List A) (ys : List B) (i : ℕ) (d : A) (e : B) → i < length xs → i < length ys → AllZip R (take i xs) (take i ys) → R (get_or xs i d) (get_or ys i e) → AllZip R (take (i + 1) xs) (take (i + 1) ys)
zip_both R xs ys i d e within within' h r =
    subst (λ zs. AllZip R zs (take (i + 1) ys)) (sym (take_more xs i d within))
    (subst (λ zs. AllZip R (take i xs ++ get_or xs i d ∷ []) zs) (sym (take_more ys i e within')) (zip_push R (take i xs) (take i ys) (get_or xs i d) (get_or ys i e) h r))

pub zip_get : {A B : Type 0} (R : A → B → Type 0) (xs : List A) (ys : List B) (i : ℕ) (x : A) (y : B) → i < length xs → AllZip R xs ys → R (get_or xs i x) (get_or ys i y)
zip_get R [] ys i x y within h = absurd (omega arith)
zip_get R (a ∷ xs) [] i x y within h = absurd h
zip_get R (a ∷ xs) (b ∷ ys) zero x y within h = h.0
zip_get R (a ∷ xs) (b ∷ ys) (suc i) x y within h = zip_get R xs ys i x y (omega (arith, within)) h.1

pub zip_long : {A B : Type 0} (R : A → B → Type 0) (xs : List A) (ys : List B) → AllZip R xs ys → length xs ≡ length ys
zip_long R [] [] h = refl
zip_long R [] (b ∷ ys) h = absurd h
zip_long R (a ∷ xs) [] h = absurd h
zip_long R (a ∷ xs) (b ∷ ys) h = ap suc (zip_long R xs ys h.1)

-- ---- searches

pub any_stops : {A : Type 0} (p : A → Bool) (xs : List A) (i : ℕ) (d : A) → i < length xs → list_any p (drop i xs) ≡ list_any p xs → true ≡ p (get_or xs i d) → true ≡ list_any p xs
any_stops p xs i d within left is = ap (λ b. b || list_any p (drop (i + 1) xs)) is ∙ sym (at_drop_more (list_any p) xs i d within) ∙ left

pub any_goes : {A : Type 0} (p : A → Bool) (xs : List A) (i : ℕ) (d : A) → i < length xs → list_any p (drop i xs) ≡ list_any p xs → false ≡ p (get_or xs i d) → list_any p (drop (i + 1) xs) ≡ list_any p xs
any_goes p xs i d within left is = ap (λ b. b || list_any p (drop (i + 1) xs)) is ∙ sym (at_drop_more (list_any p) xs i d within) ∙ left

pub any_ends : {A : Type 0} (p : A → Bool) (xs : List A) (i : ℕ) → length xs ≤ i → list_any p (drop i xs) ≡ list_any p xs → false ≡ list_any p xs
any_ends p xs i past left = ap (list_any p) (sym (drop_all i xs past)) ∙ left

pub find_stops : {A : Type 0} (p : A → Bool) (xs : List A) (i : ℕ) (d : A) → i < length xs → find p (drop i xs) ≡ find p xs → true ≡ p (get_or xs i d) → Some (get_or xs i d) ≡ find p xs
find_stops p xs i d within left is = ap (λ b. cond b (Some (get_or xs i d)) (find p (drop (i + 1) xs))) is ∙ sym (at_drop_more (find p) xs i d within) ∙ left

pub find_goes : {A : Type 0} (p : A → Bool) (xs : List A) (i : ℕ) (d : A) → i < length xs → find p (drop i xs) ≡ find p xs → false ≡ p (get_or xs i d) → find p (drop (i + 1) xs) ≡ find p xs
find_goes p xs i d within left is = ap (λ b. cond b (Some (get_or xs i d)) (find p (drop (i + 1) xs))) is ∙ sym (at_drop_more (find p) xs i d within) ∙ left

pub find_ends : {A : Type 0} (p : A → Bool) (xs : List A) (i : ℕ) → length xs ≤ i → find p (drop i xs) ≡ find p xs → None ≡ find p xs
find_ends p xs i past left = ap (find p) (sym (drop_all i xs past)) ∙ left

-- ---- arguments

pub arguments_step : (params : List Param) (args : List (Option ℤ)) (i : ℕ) (d : Param) (e : Option ℤ) (known next : List Known) (made : Known) → i < length params → i < length args
    → known ++ arguments_of (drop i params) (drop i args) ≡ arguments_of params args → made ≡ argument_of (get_or params i d) (get_or args i e) → next ≡ known ++ made ∷ []
    → next ++ arguments_of (drop (i + 1) params) (drop (i + 1) args) ≡ arguments_of params args
arguments_step params args i d e known next made within within' left is next_is =
    ap (λ k. k ++ arguments_of (drop (i + 1) params) (drop (i + 1) args)) (next_is ∙ ap (λ m. known ++ m ∷ []) is)
    ∙ append_assoc known (argument_of (get_or params i d) (get_or args i e) ∷ []) (arguments_of (drop (i + 1) params) (drop (i + 1) args))
    ∙ ap (λ rest. known ++ rest) (sym (at_drop_more (λ ps. arguments_of ps (drop i args)) params i d within ∙ at_drop_more (λ as_args. arguments_of (get_or params i d ∷ drop (i + 1) params) as_args) args i e within'))
    ∙ left

pub arguments_end : (params : List Param) (args : List (Option ℤ)) (i : ℕ) (known : List Known) → length params ≤ i → known ++ arguments_of (drop i params) (drop i args) ≡ arguments_of params args → known ≡ arguments_of params args
arguments_end params args i known past left = sym (append-nil known) ∙ ap (λ ps. known ++ arguments_of ps (drop i args)) (sym (drop_all i params past)) ∙ left

-- ---- marks

pub marks_step : (row next all : List Bool) (items : List Item) (i : ℕ) (one : Item) (named : List ℕ) → i < length items → one ≡ get_or items i one → named ≡ item_names one → next ≡ marked_all row named
    → marked_all row (flat_map item_names (drop i items)) ≡ all → marked_all next (flat_map item_names (drop (i + 1) items)) ≡ all
marks_step row next all items i one named within is names made h =
    ap (λ r. marked_all r (flat_map item_names (drop (i + 1) items))) (made ∙ ap (marked_all row) names)
    ∙ sym (marked_more row (item_names one) (flat_map item_names (drop (i + 1) items)))
    ∙ ap (λ xs. marked_all row (flat_map item_names xs)) (sym (drop_at items i one within is))
    ∙ h

-- ---- groups

pub member_past : (groups : List Group) (place : ℕ) (symbol : Sym) → length groups ≤ place → groups ≡ with_member groups place symbol
member_past [] place symbol past = refl
member_past (g ∷ gs) zero symbol past = absurd (omega arith)
member_past (g ∷ gs) (suc place) symbol past = ap (λ xs. g ∷ xs) (member_past gs place symbol (omega arith))

pub member_set : (groups : List Group) (place : ℕ) (symbol : Sym) (one : Group) (others : List Sym) → place < length groups → one ≡ get_or groups place one → others ≡ one.others ++ symbol ∷ [] → set groups place (record { first = one.first; others = others }) ≡ with_member groups place symbol
member_set [] place symbol one others within is made = absurd (omega arith)
member_set (g ∷ gs) zero symbol one others within is made =
    ap (λ o. record { first = one.first; others = o } ∷ gs) made ∙ ap (λ h. record { first = h.first; others = h.others ++ symbol ∷ [] } ∷ gs) is
member_set (g ∷ gs) (suc place) symbol one others within is made = ap (λ xs. g ∷ xs) (member_set gs place symbol one others (omega arith) is made)

-- ---- names

pub among_is : (name : List ℕ) (names : List (List ℕ)) → is_some (place_among name names) ≡ is_among name names
among_is name [] = refl
among_is name (other ∷ others) = by (bytes_eq name other) (place_among name others) (is_among name others) (among_is name others)
  where
    by : (b : Bool) (o : Option ℕ) (a : Bool) → is_some o ≡ a → is_some (cond b (Some 0) (option_map (λ k. suc k) o)) ≡ cond b true a
    by true o a e = refl
    by false None a e = e
    by false (Some k) a e = e

among_push : (x n : List ℕ) (xs : List (List ℕ)) → is_among x (xs ++ n ∷ []) ≡ cond (is_among x xs) true (bytes_eq x n)
among_push x n [] = by (bytes_eq x n)
  where
    by : (b : Bool) → cond b true false ≡ b
    by true = refl
    by false = refl
among_push x n (y ∷ xs) = by (bytes_eq x y) (is_among x (xs ++ n ∷ [])) (is_among x xs) (bytes_eq x n) (among_push x n xs)
  where
    by : (b r a c : Bool) → r ≡ cond a true c → cond b true r ≡ cond (cond b true a) true c
    by true r a c e = refl
    by false r a c e = e

-- one more listed name is added, unless it is there
pub listed_step : (old new listed : List (List ℕ)) (i : ℕ) (name : List ℕ) (added : Bool) → i < length listed → name ≡ get_or listed i name → AreSame old (take i listed)
    → MatchBool added ((is_among name old ≡ false) × (new ≡ old ++ name ∷ [])) ((is_among name old ≡ true) × (new ≡ old)) → AreSame new (take (i + 1) listed)
listed_step old new listed i name added within is h m x = by added m
  where
    more : is_among x (take (i + 1) listed) ≡ cond (is_among x old) true (bytes_eq x name)
    more = ap (is_among x) (take_at listed i name within is) ∙ among_push x name (take i listed) ∙ ap (λ b. cond b true (bytes_eq x name)) (sym (h x))

    there : is_among name old ≡ true → is_among x old ≡ cond (is_among x old) true (bytes_eq x name)
    there among = at (is_among x old) refl (bytes_eq x name) refl
      where
        at : (a : Bool) → is_among x old ≡ a → (b : Bool) → bytes_eq x name ≡ b → a ≡ cond a true b
        at true ea b eb = refl
        at false ea true eb = absurd (false≢true (sym ea ∙ ap (λ n. is_among n old) (same x name eb) ∙ among))
        at false ea false eb = refl

    by : (b : Bool) → MatchBool b ((is_among name old ≡ false) × (new ≡ old ++ name ∷ [])) ((is_among name old ≡ true) × (new ≡ old)) → is_among x new ≡ is_among x (take (i + 1) listed)
    by true p = ap (is_among x) p.1 ∙ among_push x name old ∙ sym more
    by false p = ap (is_among x) p.1 ∙ there p.0 ∙ sym more
