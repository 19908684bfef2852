-- A list by the numbers of its elements: those of each number in turn, in their order.
use Rattle.std.proofs.Common.{◌≡◌, ℕ, zero, suc, ◌+◌, ◌-◌, ◌<◌, ◌≤◌, ⊎_elim, Bool, true, false, cond, List, [], ◌∷◌, ◌++◌, All, AllPairs, length, get_or, filter, sym, ap, subst, ◌∙◌, refl, arith, length-append}
use Rattle.std.specs.Prelude.{flat_map, IsPermutation}
use Rattle.std.specs.List.{range_with_len}
use Rattle.std.proofs.lemmas.Bool.{cases_eq, cases_lt}
use Rattle.std.proofs.lemmas.List.{get_or_append_left}
use Rattle.std.proofs.Math.Seq.{get_or-append_right}
use Rattle.std.proofs.lemmas.List.Elements.{All-nil, All-head, All-tail, All-append, All-weaker, filter_passes}
use Rattle.std.proofs.lemmas.List.Sorted.{IsPermutation-refl, IsPermutation-cons, IsPermutation-trans, IsPermutation-sym, IsPermutation-middle, IsPermutation-append}

pub pairs_append : {X : Type 0} (R : X → X → Type 0) (xs ys : List X) → AllPairs R xs → AllPairs R ys → All (λ x. All (R x) ys) xs → AllPairs R (xs ++ ys)
pairs_append R xs ys left right across i j d before within = ⊎_elim
    (λ low. subst (λ (a : _). R a (get_or (xs ++ ys) j d)) (sym (get_or_append_left xs ys d i (omega arith)))
    (subst (R (get_or xs i d)) (sym (get_or_append_left xs ys d j low)) (left i j d before low)))
    (λ high. let right_j = get_or-append_right xs ys j d high in
    let inside : j - length xs < length ys = omega (arith, within, high, length-append xs ys) in
    ⊎_elim
    (λ low. subst (λ (a : _). R a (get_or (xs ++ ys) j d)) (sym (get_or_append_left xs ys d i low))
    (subst (R (get_or xs i d)) (sym right_j) (across i d low (j - length xs) d inside)))
    (λ both. subst (λ (a : _). R a (get_or (xs ++ ys) j d)) (sym (get_or-append_right xs ys i d both))
    (subst (R (get_or ys (i - length xs) d)) (sym right_j) (right (i - length xs) (j - length xs) d (omega (arith, before, both)) inside)))
    (cases_lt i (length xs)))
    (cases_lt j (length xs))

module _ {X : Type 0} (is : ℕ → X → Bool) where
  abbrev block : List X → ℕ → List X
  block xs n = filter (λ x. is n x) xs

  -- the elements of n numbers from a on
  abbrev pub by_number : ℕ → ℕ → List X → List X
  by_number a n xs = flat_map (λ k. filter (λ x. is k x) xs) (range_with_len a n)

  none_there : (a n : ℕ) → by_number a n [] ≡ []
  none_there a zero = refl
  none_there a (suc n) = none_there (a + 1) n

  -- an element without these numbers isn't among them
  passed_over : (x : X) (xs : List X) (a n : ℕ) → ((k : ℕ) → a ≤ k → is k x ≡ true → ⊥) → by_number a n (x ∷ xs) ≡ by_number a n xs
  passed_over x xs a zero not_there = refl
  passed_over x xs a (suc n) not_there =
      (λ i. cond (is_not (is a x) refl i) (x ∷ block xs a) (block xs a) ++ passed_over x xs (a + 1) n (λ k above. not_there k (omega arith)) i)
    where
      is_not : (b : Bool) → is a x ≡ b → is a x ≡ false
      is_not true e = absurd (not_there a (omega arith) e)
      is_not false e = e

  -- an element with one number stands once among them
  once : (x : X) (xs : List X) (a n g : ℕ) → a ≤ g → g < a + n → is g x ≡ true → ((k : ℕ) → is k x ≡ true → k ≡ g) → IsPermutation (x ∷ by_number a n xs) (by_number a n (x ∷ xs))
  once x xs a zero g low high own alone = absurd (omega (arith, low, high))
  once x xs a (suc n) g low high own alone = ⊎_elim
      (λ here.
      let holds : is a x ≡ true = ap (λ (k : ℕ). is k x) here ∙ own in
      let first : block (x ∷ xs) a ≡ x ∷ block xs a = ap (λ (b : Bool). cond b (x ∷ block xs a) (block xs a)) holds in
      let rest : by_number (a + 1) n (x ∷ xs) ≡ by_number (a + 1) n xs = passed_over x xs (a + 1) n (λ k above so. omega (arith, alone k so, here, above)) in
      let whole : by_number a (suc n) (x ∷ xs) ≡ x ∷ by_number a (suc n) xs = λ i. first i ++ rest i in
      subst (IsPermutation (x ∷ by_number a (suc n) xs)) (sym whole) (IsPermutation-refl (x ∷ by_number a (suc n) xs)))
      (λ later.
      let fails : is a x ≡ false = is_not (is a x) refl later in
      let first : block (x ∷ xs) a ≡ block xs a = ap (λ (b : Bool). cond b (x ∷ block xs a) (block xs a)) fails in
      let rest = once x xs (a + 1) n g (omega (arith, low, later)) (omega (arith, high)) own alone in
      let moved : IsPermutation (x ∷ (block xs a ++ by_number (a + 1) n xs)) (block xs a ++ x ∷ by_number (a + 1) n xs) =
      IsPermutation-sym (block xs a ++ x ∷ by_number (a + 1) n xs) (x ∷ (block xs a ++ by_number (a + 1) n xs)) (IsPermutation-middle (block xs a) x (by_number (a + 1) n xs)) in
      let both : IsPermutation (block xs a ++ x ∷ by_number (a + 1) n xs) (block xs a ++ by_number (a + 1) n (x ∷ xs)) =
      IsPermutation-append (block xs a) (block xs a) (x ∷ by_number (a + 1) n xs) (by_number (a + 1) n (x ∷ xs)) (IsPermutation-refl (block xs a)) rest in
      subst (λ (l : List X). IsPermutation (x ∷ by_number a (suc n) xs) (l ++ by_number (a + 1) n (x ∷ xs))) (sym first)
      (IsPermutation-trans (x ∷ (block xs a ++ by_number (a + 1) n xs)) (block xs a ++ x ∷ by_number (a + 1) n xs) (block xs a ++ by_number (a + 1) n (x ∷ xs)) moved both))
      (cases_eq a g)
    where
      is_not : (b : Bool) → is a x ≡ b → (a ≡ g → ⊥) → is a x ≡ false
      is_not true e differ = absurd (differ (alone a e))
      is_not false e differ = e

  -- one number of an element, below n
  pub record HasNumber (n : ℕ) (x : X) : Type 0 where
    pub number : ℕ
    pub below : number < n
    pub own : is number x ≡ true
    pub alone : (k : ℕ) → is k x ≡ true → k ≡ number

  pub all_once : (n : ℕ) (xs : List X) → All (HasNumber n) xs → IsPermutation xs (by_number 0 n xs)
  all_once n [] all = subst (IsPermutation []) (sym (none_there 0 n)) (IsPermutation-refl [])
  all_once n (x ∷ xs) all =
      let own = All-head (HasNumber n) x xs all in
      IsPermutation-trans (x ∷ xs) (x ∷ by_number 0 n xs) (by_number 0 n (x ∷ xs))
      (IsPermutation-cons x xs (by_number 0 n xs) (all_once n xs (All-tail (HasNumber n) x xs all)))
      (once x xs 0 n own.number (omega arith) (omega (arith, own.below)) own.own own.alone)

  -- their numbers rise
  abbrev pub Rises : X → X → Type 0
  Rises x y = (i j : ℕ) → is i x ≡ true → is j y ≡ true → i ≤ j

  abbrev AtLeast : ℕ → X → Type 0
  AtLeast a x = (k : ℕ) × (a ≤ k) × (is k x ≡ true)

  at_least : (xs : List X) (a n : ℕ) → All (AtLeast a) (by_number a n xs)
  at_least xs a zero = All-nil (AtLeast a)
  at_least xs a (suc n) = All-append (AtLeast a) (block xs a) (by_number (a + 1) n xs)
      (All-weaker (λ x. is a x ≡ true) (AtLeast a) (λ x own. (a, omega arith, own)) (block xs a) (filter_passes (λ x. is a x) xs))
      (All-weaker (AtLeast (a + 1)) (AtLeast a) (λ x own. (own.0, omega (arith, own.1), own.2)) (by_number (a + 1) n xs) (at_least xs (a + 1) n))

  pub rises : ((i j : ℕ) (x : X) → is i x ≡ true → is j x ≡ true → i ≡ j) → (xs : List X) (a n : ℕ) → AllPairs Rises (by_number a n xs)
  rises alone xs a zero = λ i j d before within. absurd (omega arith)
  rises alone xs a (suc n) =
      let own = filter_passes (λ x. is a x) xs in
      pairs_append Rises (block xs a) (by_number (a + 1) n xs)
      (λ i j d before within m k first second.
      omega (arith, alone m a (get_or (block xs a) i d) first (own i d (omega arith)), alone k a (get_or (block xs a) j d) second (own j d within)))
      (rises alone xs (a + 1) n)
      (λ i d within k e inside m l first second.
      let later = at_least xs (a + 1) n k e inside in
      omega (arith, alone m a (get_or (block xs a) i d) first (own i d within), alone l later.0 (get_or (by_number (a + 1) n xs) k e) second later.2, later.1))
