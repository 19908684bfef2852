-- Lists with an item pushed, taken or written, and rising numbers.
use Rattle.std.proofs.Common.{◌≡◌, ◌≢◌, ◌∙◌, ◌⊎◌, inl, inr, ℕ, zero, suc, ◌+◌, ◌-◌, ◌<◌, ◌≤◌, List, [], ◌∷◌, ◌++◌, Option, None, Some, Contains, slice_index_or, length, set, take, drop, refl, sym, ap, subst, arith}
use Rattle.std.specs.Prelude.{slice_get, slice_index, MatchOption}
use Rattle.std.proofs.lemmas.Option.{none-some}
use Rattle.std.proofs.lemmas.List.{length-set, length-append}
use Rattle.std.proofs.lemmas.List.Elements.{Contains-append_left, Contains-push, Contains-push_cases}
use Rattle.call_cycles.specs.Searching.{Rising, IsCut, put_all}

pub some_is : {A : Type 0} {x y : A} → Some x ≡ Some y → x ≡ y
some_is h = cc

pub is_or_not : (k n : ℕ) → (k ≡ n) ⊎ (k ≢ n)
is_or_not zero zero = inl refl
is_or_not zero (suc n) = inr (λ e. absurd (omega arith))
is_or_not (suc k) zero = inr (λ e. absurd (omega arith))
is_or_not (suc k) (suc n) = elim (is_or_not k n) [ inl e ↦ inl (ap suc e) | inr ne ↦ inr (λ e. ne (omega arith)) ]

pub less_or : (m n : ℕ) → (m < n) ⊎ (n ≤ m)
less_or m n = grind arith

-- ---- what stands at a place

pub within : {A : Type 0} (xs : List A) (i : ℕ) (x : A) → slice_get xs i ≡ Some x → i < length xs
within [] i x h = absurd (none-some x h)
within (y ∷ ys) zero x h = omega arith
within (y ∷ ys) (suc i) x h = omega (arith, within ys i x h)

pub there : {A : Type 0} (xs : List A) (i : ℕ) → i < length xs → (x : A) × (slice_get xs i ≡ Some x)
there [] i h = absurd (omega arith)
there (y ∷ ys) zero h = (y, refl)
there (y ∷ ys) (suc i) h = there ys i (omega arith)

pub index_there : (xs : List ℕ) (i : ℕ) → i < length xs → slice_get xs i ≡ Some (slice_index xs i)
index_there [] i h = absurd (omega arith)
index_there (y ∷ ys) zero h = refl
index_there (y ∷ ys) (suc i) h = index_there ys i (omega arith)

pub index_is : (xs : List ℕ) (i x : ℕ) → slice_get xs i ≡ Some x → slice_index xs i ≡ x
index_is [] i x h = absurd (none-some x h)
index_is (y ∷ ys) zero x h = some_is h
index_is (y ∷ ys) (suc i) x h = index_is ys i x h

pub set_same : {A : Type 0} (xs : List A) (i : ℕ) (x : A) → i < length xs → slice_get (set xs i x) i ≡ Some x
set_same [] i x h = absurd (omega arith)
set_same (y ∷ ys) zero x h = refl
set_same (y ∷ ys) (suc i) x h = set_same ys i x (omega arith)

pub set_other : {A : Type 0} (xs : List A) (i j : ℕ) (x : A) → j ≢ i → slice_get (set xs i x) j ≡ slice_get xs j
set_other [] i j x h = refl
set_other (y ∷ ys) zero zero x h = absurd (h refl)
set_other (y ∷ ys) zero (suc j) x h = refl
set_other (y ∷ ys) (suc i) zero x h = refl
set_other (y ∷ ys) (suc i) (suc j) x h = set_other ys i j x (λ e. h (ap suc e))

pub index_set_other : (xs : List ℕ) (i j x : ℕ) → j ≢ i → slice_index (set xs i x) j ≡ slice_index xs j
index_set_other [] i j x h = refl
index_set_other (y ∷ ys) zero zero x h = absurd (h refl)
index_set_other (y ∷ ys) zero (suc j) x h = refl
index_set_other (y ∷ ys) (suc i) zero x h = refl
index_set_other (y ∷ ys) (suc i) (suc j) x h = index_set_other ys i j x (λ e. h (ap suc e))

pub push_here : {A : Type 0} (xs : List A) (x : A) → slice_get (xs ++ x ∷ []) (length xs) ≡ Some x
push_here [] x = refl
push_here (y ∷ ys) x = push_here ys x

pub push_old : {A : Type 0} (xs : List A) (x y : A) (k : ℕ) → slice_get xs k ≡ Some y → slice_get (xs ++ x ∷ []) k ≡ Some y
push_old [] x y k h = absurd (none-some y h)
push_old (z ∷ zs) x y zero h = h
push_old (z ∷ zs) x y (suc k) h = push_old zs x y k h

pub push_cases : {A : Type 0} (xs : List A) (x y : A) (k : ℕ) → slice_get (xs ++ x ∷ []) k ≡ Some y → (slice_get xs k ≡ Some y) ⊎ ((k ≡ length xs) × (x ≡ y))
push_cases [] x y zero h = inr (refl, some_is h)
push_cases [] x y (suc k) h = absurd (none-some y h)
push_cases (z ∷ zs) x y zero h = inl h
push_cases (z ∷ zs) x y (suc k) h = elim (push_cases zs x y k h) [ inl o ↦ inl o | inr (e, s) ↦ inr (ap suc e, s) ]

pub taken_get : {A : Type 0} (xs : List A) (n k : ℕ) (y : A) → slice_get (take n xs) k ≡ Some y → (k < n) × (slice_get xs k ≡ Some y)
taken_get [] zero k y h = absurd (none-some y h)
taken_get [] (suc n) k y h = absurd (none-some y h)
taken_get (x ∷ xs) zero k y h = absurd (none-some y h)
taken_get (x ∷ xs) (suc n) zero y h = (omega arith, h)
taken_get (x ∷ xs) (suc n) (suc k) y h = let more = taken_get xs n k y h in (omega (arith, more.0), more.1)

pub get_taken : {A : Type 0} (xs : List A) (n k : ℕ) (y : A) → slice_get xs k ≡ Some y → k < n → slice_get (take n xs) k ≡ Some y
get_taken [] n k y h less = absurd (none-some y h)
get_taken (x ∷ xs) zero k y h less = absurd (omega arith)
get_taken (x ∷ xs) (suc n) zero y h less = h
get_taken (x ∷ xs) (suc n) (suc k) y h less = get_taken xs n k y h (omega arith)

pub get_dropped : {A : Type 0} (xs : List A) (n k j : ℕ) → n + k ≡ j → slice_get (drop n xs) k ≡ slice_get xs j
get_dropped [] zero k j e = refl
get_dropped [] (suc n) k j e = refl
get_dropped (x ∷ xs) zero k j e = ap (slice_get (x ∷ xs)) (omega arith)
get_dropped (x ∷ xs) (suc n) k zero e = absurd (omega arith)
get_dropped (x ∷ xs) (suc n) k (suc j) e = get_dropped xs n k j (omega arith)

-- the last item
last_at : {A : Type 0} (xs : List A) (k : ℕ) (x : A) → k + 1 ≡ length xs → slice_get xs k ≡ Some x → (front : List A) × (xs ≡ front ++ x ∷ [])
last_at [] k x e h = absurd (none-some x h)
last_at (y ∷ []) zero x e h = ([], ap (λ z. z ∷ []) (some_is h))
last_at (y ∷ z ∷ zs) zero x e h = absurd (omega arith)
last_at (y ∷ zs) (suc k) x e h = let more = last_at zs k x (omega arith) h in (y ∷ more.0, ap (λ l. y ∷ l) more.1)

pub last_split : {A : Type 0} (xs : List A) (x : A) → slice_get xs (length xs - 1) ≡ Some x → (front : List A) × (xs ≡ front ++ x ∷ [])
last_split [] x h = absurd (none-some x h)
last_split (y ∷ ys) x h = last_at (y ∷ ys) (length (y ∷ ys) - 1) x (omega arith) h

pub no_last : {A : Type 0} (xs : List A) → slice_get xs (length xs - 1) ≡ None → xs ≡ []
no_last [] h = refl
no_last (x ∷ xs) h = let more = there (x ∷ xs) (length (x ∷ xs) - 1) (omega arith) in absurd (none-some more.0 (sym h ∙ more.1))

-- ---- what a list contains

pub contains_none : {A : Type 0} (x : A) → Contains [] x → ⊥
contains_none x h = omega (arith, h.1)

pub contains_here : {A : Type 0} (x : A) (xs : List A) → Contains (x ∷ xs) x
contains_here x xs = (0, omega arith, refl)

pub contains_there : {A : Type 0} (y x : A) (xs : List A) → Contains xs x → Contains (y ∷ xs) x
contains_there y x xs h = (suc h.0, omega (arith, h.1), h.2)

contains_at : {A : Type 0} (y x : A) (xs : List A) (k : ℕ) → k < length (y ∷ xs) → slice_index_or (y ∷ xs) k x ≡ x → (y ≡ x) ⊎ Contains xs x
contains_at y x xs zero l e = inl e
contains_at y x xs (suc k) l e = let less : k < length xs = omega arith in inr (k, less, e)

pub contains_cases : {A : Type 0} (y x : A) (xs : List A) → Contains (y ∷ xs) x → (y ≡ x) ⊎ Contains xs x
contains_cases y x xs h = contains_at y x xs h.0 h.1 h.2

-- ---- rising numbers

pub rising_push : (xs : List ℕ) (x : ℕ) → Rising xs → ((y : ℕ) → Contains xs y → y < x) → Rising (xs ++ x ∷ [])
rising_push [] x r h = (λ y c. absurd (contains_none y c), tt)
rising_push (z ∷ zs) x r h = (
  λ y c. elim (Contains-push_cases zs x y c) [ inl old ↦ r.0 y old | inr e ↦ subst (λ n. z < n) e (h z (contains_here z zs)) ],
  rising_push zs x r.1 (λ y c. h y (contains_there z y zs c)),
)

pub rising_front : (xs : List ℕ) (x : ℕ) → Rising (xs ++ x ∷ []) → Rising xs
rising_front [] x r = tt
rising_front (z ∷ zs) x r = (λ y c. r.0 y (Contains-append_left zs (x ∷ []) y c), rising_front zs x r.1)

pub rising_below : (xs : List ℕ) (x y : ℕ) → Rising (xs ++ x ∷ []) → Contains xs y → y < x
rising_below [] x y r c = absurd (contains_none y c)
rising_below (z ∷ zs) x y r c = elim (contains_cases z y zs c) [
  | inl e ↦ subst (λ n. n < x) e (r.0 x (Contains-push zs x))
  | inr more ↦ rising_below zs x y r.1 more
]

-- ---- items written over

pub put_keeps : {A : Type 0} (ks : List ℕ) (x : A) (xs : List A) (u : ℕ) → slice_get xs u ≡ Some x → slice_get (put_all ks x xs) u ≡ Some x
put_keeps [] x xs u h = h
put_keeps (k ∷ ks) x xs u h = put_keeps ks x (set xs k x) u (elim (is_or_not u k) [
  | inl e ↦ subst (λ n. slice_get (set xs n x) u ≡ Some x) e (set_same xs u x (within xs u x h))
  | inr n ↦ set_other xs k u x n ∙ h
])

pub put_in : {A : Type 0} (ks : List ℕ) (x : A) (xs : List A) (i u : ℕ) → slice_get ks i ≡ Some u → u < length xs → slice_get (put_all ks x xs) u ≡ Some x
put_in [] x xs i u is less = absurd (none-some u is)
put_in (k ∷ ks) x xs zero u is less = put_keeps ks x (set xs k x) u (subst (λ n. slice_get (set xs n x) u ≡ Some x) (sym (some_is is)) (set_same xs u x less))
put_in (k ∷ ks) x xs (suc i) u is less = put_in ks x (set xs k x) i u is (omega (arith, less, length-set xs k x))

pub put_out : {A : Type 0} (ks : List ℕ) (x : A) (xs : List A) (u : ℕ) → ((i : ℕ) → slice_get ks i ≡ Some u → ⊥) → slice_get (put_all ks x xs) u ≡ slice_get xs u
put_out [] x xs u h = refl
put_out (k ∷ ks) x xs u h = put_out ks x (set xs k x) u (λ i is. h (suc i) is) ∙ set_other xs k u x (λ e. h 0 (ap Some (sym e)))

pub put_long : {A : Type 0} (ks : List ℕ) (x : A) (xs : List A) → length (put_all ks x xs) ≡ length xs
put_long [] x xs = refl
put_long (k ∷ ks) x xs = put_long ks x (set xs k x) ∙ length-set xs k x

pub taken_long : {A : Type 0} (xs : List A) (n : ℕ) → n ≤ length xs → length (take n xs) ≡ n
taken_long [] zero h = refl
taken_long [] (suc n) h = absurd (omega arith)
taken_long (x ∷ xs) zero h = refl
taken_long (x ∷ xs) (suc n) h = ap suc (taken_long xs n (omega arith))

pub rising_part : (xs ys : List ℕ) → Rising (xs ++ ys) → Rising xs
rising_part [] ys r = tt
rising_part (z ∷ zs) ys r = (λ y c. r.0 y (Contains-append_left zs ys y c), rising_part zs ys r.1)

pub topmost : (xs : List ℕ) (top x : ℕ) → Rising xs → slice_get xs (length xs - 1) ≡ Some top → Contains xs x → x ≤ top
topmost xs top x rise last c =
    let split = last_split xs top last in
    elim (Contains-push_cases split.0 top x (subst (λ l. Contains l x) split.1 c)) [
      | inl old ↦ omega (arith, rising_below split.0 top x (subst Rising split.1 rise) old)
      | inr e ↦ omega (arith, e)
    ]

pub last_contained : (xs : List ℕ) (top : ℕ) → slice_get xs (length xs - 1) ≡ Some top → Contains xs top
last_contained xs top last = let split = last_split xs top last in subst (λ l. Contains l top) (sym split.1) (Contains-push split.0 top)

pub append_moves : {A : Type 0} (xs ys : List A) (x : A) → (xs ++ x ∷ []) ++ ys ≡ xs ++ x ∷ ys
append_moves [] ys x = refl
append_moves (z ∷ zs) ys x = ap (λ l. z ∷ l) (append_moves zs ys x)

pub append_none : {A : Type 0} (xs : List A) → xs ++ [] ≡ xs
append_none [] = refl
append_none (x ∷ xs) = ap (λ l. x ∷ l) (append_none xs)

pub take_rest : (bounds rest fewer : List ℕ) (place bound : ℕ) → IsCut bounds rest place → rest ≡ fewer ++ bound ∷ [] → place < bound → IsCut bounds fewer place
take_rest bounds rest fewer place bound h split past = record {
  taken = bound ∷ h.taken;
  split = h.split ∙ ap (λ l. l ++ h.taken) split ∙ append_moves fewer h.taken bound;
  past = λ b c. elim (contains_cases bound b h.taken c) [ inl e ↦ subst (λ n. place < n) e past | inr more ↦ h.past b more ];
}

pub take_none : (bounds : List ℕ) (place : ℕ) → IsCut bounds bounds place
take_none bounds place = record { taken = []; split = sym (append_none bounds); past = λ b c. absurd (contains_none b c) }

-- what was taken from the end is the last
pub popped : (old rest : List ℕ) (taken : Option ℕ) (x : ℕ) → MatchOption taken ((old ≡ []) × (rest ≡ [])) (λ last. old ≡ rest ++ last ∷ []) → slice_get old (length old - 1) ≡ Some x → old ≡ rest ++ x ∷ []
popped old rest None x h last = absurd (none-some x (sym (ap (λ l. slice_get l (length l - 1)) h.0) ∙ last))
popped old rest (Some y) x h last =
    let at : slice_get old (length rest) ≡ Some y = ap (λ l. slice_get l (length rest)) h ∙ push_here rest y in
    let long : length old ≡ length rest + 1 = ap length h ∙ length-append rest (y ∷ []) in
    let one : y ≡ x = some_is (sym at ∙ subst (λ k. slice_get old k ≡ Some x) (omega (arith, long)) last) in
    h ∙ ap (λ z. rest ++ z ∷ []) one
