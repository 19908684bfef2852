-- The order of rows, and lists of rows in it.
use Rattle.std.proofs.Common.{◌≡◌, ◌≢◌, ℕ, zero, suc, ◌<◌, ◌⊎◌, inl, inr, List, [], ◌∷◌, All, AllPairs, Contains, length, get_or, bytes_eq, sym, ap, subst, ◌∙◌, refl, arith}
use Rattle.std.specs.Bool.{Decides}
use Rattle.std.specs.Cmp.Lexicographic.{slice_cmp, bytes_decides, nat_list_cmp_total, texts_ties}
use Rattle.std.specs.Ordering.{nat_cmp, is_eq}
use Rattle.std.specs.declared.cmp.Ordering.{Ordering}
use Rattle.std.specs.declared.cmp.Ordering.TheVariants.{Less, Equal}
use Rattle.std.specs.List.Sorted.{IsStrictlySortedBy}
use Rattle.std.proofs.lemmas.Cmp.{tied_itself}
use Rattle.std.proofs.lemmas.List.Elements.{All-head, All-tail, All-from_recursion}
use Rattle.std.proofs.lemmas.Map.Keys.{sorted_head, sorted_tail, Less-from_sorted}
use Rattle.std.proofs.lemmas.Map.Made.{Contains-tail}

abbrev pub row_cmp : List ℕ → List ℕ → Ordering
row_cmp = slice_cmp nat_cmp

pub same_rows : (a b : List ℕ) → Decides (bytes_eq a b) (a ≡ b)
same_rows a b = bytes_decides a b

-- rows that tie are one
pub equal_rows : (a b : List ℕ) → row_cmp a b ≡ Equal → a ≡ b
equal_rows a b tie = (same_rows a b).0 (texts_ties a b ∙ ap is_eq tie)

pub not_below_itself : (a : List ℕ) → row_cmp a a ≡ Less → ⊥
not_below_itself a below =
    let tie = tied_itself nat_list_cmp_total a in
    let clash : Less ≡ Equal = sym below ∙ tie in
    (cc)

pub less_differ : (a b : List ℕ) → row_cmp a b ≡ Less → a ≢ b
less_differ a b below same = not_below_itself a (subst (λ (l : List ℕ). row_cmp a l ≡ Less) (sym same) below)

module _ {X : Type 0} where
  pub contains_cases : (y : X) (ys : List X) (x : X) → Contains (y ∷ ys) x → (y ≡ x) ⊎ Contains ys x
  contains_cases y ys x at = by at.0 at.1 at.2
    where
      by : (k : ℕ) → k < length (y ∷ ys) → get_or (y ∷ ys) k x ≡ x → (y ≡ x) ⊎ Contains ys x
      by zero within is = inl is
      by (suc k) within is = inr (k, omega arith, is)

  pub all_contains : (P : X → Type 0) (xs : List X) (x : X) → All P xs → Contains xs x → P x
  all_contains P xs x all at = subst P at.2 (all at.0 x at.1)

-- strictly sorted rows are distinct
pub distinct_from_sorted : (rows : List (List ℕ)) → IsStrictlySortedBy row_cmp rows → AllPairs (λ a b. a ≢ b) rows
distinct_from_sorted rows up i j d before within = less_differ _ _ (Less-from_sorted row_cmp rows i j d up before within)

-- the first of two strictly sorted lists with the same rows is one row
first_same : (x : List ℕ) (xs : List (List ℕ)) (y : List ℕ) (ys : List (List ℕ)) → IsStrictlySortedBy row_cmp (x ∷ xs) → IsStrictlySortedBy row_cmp (y ∷ ys)
    → Contains (y ∷ ys) x → Contains (x ∷ xs) y → x ≡ y
first_same x xs y ys up other there back =
    elim (contains_cases y ys x there) [
      | inl same ↦ sym same
      | inr later ↦ elim (contains_cases x xs y back) [
        | inl same ↦ same
        | inr after ↦
            let up_x = all_contains (λ z. row_cmp y z ≡ Less) ys x (All-from_recursion (λ z. row_cmp y z ≡ Less) ys (sorted_head row_cmp y ys other)) later in
            let up_y = all_contains (λ z. row_cmp x z ≡ Less) xs y (All-from_recursion (λ z. row_cmp x z ≡ Less) xs (sorted_head row_cmp x xs up)) after in
            absurd (not_below_itself x (nat_list_cmp_total.trans x y x up_y up_x))
      ]
    ]

-- what is left of them has the same rows too
tail_inside : (x : List ℕ) (xs ys : List (List ℕ)) → IsStrictlySortedBy row_cmp (x ∷ xs) → All (Contains (x ∷ ys)) (x ∷ xs) → All (Contains ys) xs
tail_inside x xs ys up all k d within =
    let above = All-from_recursion (λ z. row_cmp x z ≡ Less) xs (sorted_head row_cmp x xs up) k d within in
    Contains-tail x ys (get_or xs k d) (less_differ x (get_or xs k d) above) (All-tail (Contains (x ∷ ys)) x xs all k d within)

-- strictly sorted lists with the same rows are one
pub sorted_same : (xs ys : List (List ℕ)) → IsStrictlySortedBy row_cmp xs → IsStrictlySortedBy row_cmp ys → All (Contains ys) xs → All (Contains xs) ys → xs ≡ ys
sorted_same [] [] up other there back = refl
sorted_same [] (y ∷ ys) up other there back = absurd (omega (arith, (All-head (Contains []) y ys back).1))
sorted_same (x ∷ xs) [] up other there back = absurd (omega (arith, (All-head (Contains []) x xs there).1))
sorted_same (x ∷ xs) (y ∷ ys) up other there back =
    let same = first_same x xs y ys up other (All-head (Contains (y ∷ ys)) x xs there) (All-head (Contains (x ∷ xs)) y ys back) in
    let other' = subst (λ (z : List ℕ). IsStrictlySortedBy row_cmp (z ∷ ys)) (sym same) other in
    let there' = subst (λ (z : List ℕ). All (Contains (z ∷ ys)) (x ∷ xs)) (sym same) there in
    let back' = subst (λ (z : List ℕ). All (Contains (x ∷ xs)) (z ∷ ys)) (sym same) back in
    let rest = sorted_same xs ys (sorted_tail row_cmp x xs up) (sorted_tail row_cmp y ys other) (tail_inside x xs ys up there') (tail_inside x ys xs other' back') in
    λ i. same i ∷ rest i
