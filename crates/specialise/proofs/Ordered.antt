-- Rows that are put in order one by one are in order, each once.
use Rattle.std.proofs.Common.{◌≡◌, ◌∙◌, ℕ, List, [], ◌∷◌, All, Contains, refl, sym, ap, subst}
use Rattle.std.specs.Ordering.{nat_cmp, ordering_reverse, is_eq}
use Rattle.std.specs.List.{AllByRecursion}
use Rattle.std.specs.List.Sorted.{IsStrictlySortedBy}
use Rattle.std.specs.Cmp.Lexicographic.{slice_cmp, bytes_decides, nat_list_cmp_total, texts_ties}
use Rattle.std.specs.declared.cmp.Ordering.{Ordering}
use Rattle.std.specs.declared.cmp.Ordering.TheVariants.{Less, Equal, Greater}
use Rattle.std.proofs.lemmas.Cmp.{tied_itself}
use Rattle.std.proofs.lemmas.List.Elements.{All-nil, All-cons, All-weaker}
use Rattle.call_cycles.proofs.Lists.{contains_here, contains_there, contains_cases, contains_none}
use Rattle.std.proofs.Common.{inl, inr, ◌⊎◌}
use Rattle.specialise.specs.Needs.{AreInOrder}
use Rattle.specialise.specs.Mirrors.Ordered.{placed, with_row, ordered}

abbrev row_cmp : List ℕ → List ℕ → Ordering
row_cmp = slice_cmp nat_cmp

-- rows that tie are one
equal_rows : (a b : List ℕ) → row_cmp a b ≡ Equal → a ≡ b
equal_rows a b tie = (bytes_decides a b).0 (texts_ties a b ∙ ap is_eq tie)

not_below_itself : (a : List ℕ) → row_cmp a a ≡ Less → ⊥
not_below_itself a below =
    let clash : Less ≡ Equal = sym below ∙ tied_itself nat_list_cmp_total a in
    (cc)

-- ---- in order

abbrev AreAbove : List ℕ → List (List ℕ) → Type 0
AreAbove x rows = AllByRecursion (λ y. row_cmp x y ≡ Less) rows

above_less : (x y : List ℕ) (rows : List (List ℕ)) → row_cmp x y ≡ Less → AreAbove y rows → AreAbove x rows
above_less x y [] less above = tt
above_less x y (z ∷ rows) less above = (nat_list_cmp_total.trans x y z less above.0, above_less x y rows less above.1)

above_with : (x row : List ℕ) (rows : List (List ℕ)) → row_cmp x row ≡ Less → AreAbove x rows → AreAbove x (with_row row rows)
above_with x row [] less above = (less, tt)
above_with x row (other ∷ rest) less above = by (row_cmp row other) (above_with x row rest less above.1)
  where
    by : (o : Ordering) → AreAbove x (with_row row rest) → AreAbove x (placed o row other rest (with_row row rest))
    by Less later = (less, above)
    by Equal later = above
    by Greater later = (above.0, later)

sorted_head : (x : List ℕ) (rows : List (List ℕ)) → IsStrictlySortedBy row_cmp (x ∷ rows) → AreAbove x rows
unfolding IsStrictlySortedBy
sorted_head x rows up = up.0

sorted_tail : (x : List ℕ) (rows : List (List ℕ)) → IsStrictlySortedBy row_cmp (x ∷ rows) → IsStrictlySortedBy row_cmp rows
unfolding IsStrictlySortedBy
sorted_tail x rows up = up.1

sorted_nil : IsStrictlySortedBy row_cmp []
unfolding IsStrictlySortedBy
sorted_nil = tt

sorted_cons : (x : List ℕ) (rows : List (List ℕ)) → AreAbove x rows → IsStrictlySortedBy row_cmp rows → IsStrictlySortedBy row_cmp (x ∷ rows)
unfolding IsStrictlySortedBy
sorted_cons x rows above up = (above, up)

turned : (x y : List ℕ) → row_cmp x y ≡ Greater → row_cmp y x ≡ Less
turned x y e = nat_list_cmp_total.antisymm y x ∙ ap ordering_reverse e

sorted_with : (row : List ℕ) (rows : List (List ℕ)) → IsStrictlySortedBy row_cmp rows → IsStrictlySortedBy row_cmp (with_row row rows)
sorted_with row [] up = sorted_cons row [] tt sorted_nil
sorted_with row (other ∷ rest) up = by (row_cmp row other) refl (sorted_with row rest (sorted_tail other rest up))
  where
    by : (o : Ordering) → row_cmp row other ≡ o → IsStrictlySortedBy row_cmp (with_row row rest) → IsStrictlySortedBy row_cmp (placed o row other rest (with_row row rest))
    by Less e later = sorted_cons row (other ∷ rest) (e, above_less row other rest e (sorted_head other rest up)) up
    by Equal e later = up
    by Greater e later = sorted_cons other (with_row row rest) (above_with other row rest (turned row other e) (sorted_head other rest up)) later

-- ---- the same rows

has_row : (row : List ℕ) (rows : List (List ℕ)) → Contains (with_row row rows) row
has_row row [] = contains_here row []
has_row row (other ∷ rest) = by (row_cmp row other) refl (has_row row rest)
  where
    by : (o : Ordering) → row_cmp row other ≡ o → Contains (with_row row rest) row → Contains (placed o row other rest (with_row row rest)) row
    by Less e later = contains_here row (other ∷ rest)
    by Equal e later = subst (λ x. Contains (other ∷ rest) x) (sym (equal_rows row other e)) (contains_here other rest)
    by Greater e later = contains_there other row (with_row row rest) later

has_others : (row x : List ℕ) (rows : List (List ℕ)) → Contains rows x → Contains (with_row row rows) x
has_others row x [] c = absurd (contains_none x c)
has_others row x (other ∷ rest) c = by (row_cmp row other) (has_others row x rest)
  where
    by : (o : Ordering) → (Contains rest x → Contains (with_row row rest) x) → Contains (placed o row other rest (with_row row rest)) x
    by Less more = contains_there row x (other ∷ rest) c
    by Equal more = c
    by Greater more = elim (contains_cases other x rest c) [
      | inl same ↦ subst (λ y. Contains (other ∷ with_row row rest) y) same (contains_here other (with_row row rest))
      | inr later ↦ contains_there other x (with_row row rest) (more later)
    ]

has_only : (row x : List ℕ) (rows : List (List ℕ)) → Contains (with_row row rows) x → (row ≡ x) ⊎ Contains rows x
has_only row x [] c = contains_cases row x [] c
has_only row x (other ∷ rest) c = by (row_cmp row other) (has_only row x rest) c
  where
    by : (o : Ordering) → (Contains (with_row row rest) x → (row ≡ x) ⊎ Contains rest x) → Contains (placed o row other rest (with_row row rest)) x → (row ≡ x) ⊎ Contains (other ∷ rest) x
    by Less more d = contains_cases row x (other ∷ rest) d
    by Equal more d = inr d
    by Greater more d = elim (contains_cases other x (with_row row rest) d) [
      | inl same ↦ inr (subst (λ y. Contains (other ∷ rest) y) same (contains_here other rest))
      | inr later ↦ elim (more later) [
        | inl same ↦ inl same
        | inr at ↦ inr (contains_there other x rest at)
      ]
    ]

sorted_all : (asked : List (List ℕ)) → IsStrictlySortedBy row_cmp (ordered asked)
sorted_all [] = sorted_nil
sorted_all (row ∷ rows) = sorted_with row (ordered rows) (sorted_all rows)

all_there : (asked : List (List ℕ)) → All (Contains (ordered asked)) asked
all_there [] = All-nil (Contains [])
all_there (row ∷ rows) =
    All-cons (Contains (with_row row (ordered rows))) row rows (has_row row (ordered rows))
    (All-weaker (Contains (ordered rows)) (Contains (with_row row (ordered rows))) (λ x c. has_others row x (ordered rows) c) rows (all_there rows))

only_there : (asked : List (List ℕ)) (x : List ℕ) → Contains (ordered asked) x → Contains asked x
only_there [] x c = c
only_there (row ∷ rows) x c = elim (has_only row x (ordered rows) c) [
  | inl same ↦ subst (λ y. Contains (row ∷ rows) y) same (contains_here row rows)
  | inr later ↦ contains_there row x rows (only_there rows x later)
]

pub all_of : (xs ys : List (List ℕ)) → ((x : List ℕ) → Contains xs x → Contains ys x) → All (Contains ys) xs
all_of [] ys h = All-nil (Contains ys)
all_of (x ∷ xs) ys h = All-cons (Contains ys) x xs (h x (contains_here x xs)) (all_of xs ys (λ y c. h y (contains_there x y xs c)))

pub ordered_is : (asked : List (List ℕ)) → AreInOrder asked (ordered asked)
ordered_is asked = record { sorted = sorted_all asked; all = all_there asked; only = all_of (ordered asked) asked (only_there asked) }

at_all : (P : List ℕ → Type 0) (xs : List (List ℕ)) (x : List ℕ) → All P xs → Contains xs x → P x
at_all P xs x all c = subst P c.2 (all c.0 x c.1)

above_at : (x y : List ℕ) (rows : List (List ℕ)) → AreAbove x rows → Contains rows y → row_cmp x y ≡ Less
above_at x y [] above c = absurd (contains_none y c)
above_at x y (z ∷ rows) above c = elim (contains_cases z y rows c) [
  | inl same ↦ subst (λ w. row_cmp x w ≡ Less) same above.0
  | inr later ↦ above_at x y rows above.1 later
]

-- strictly sorted lists with the same rows are one
same_list : (xs ys : List (List ℕ)) → IsStrictlySortedBy row_cmp xs → IsStrictlySortedBy row_cmp ys → ((z : List ℕ) → Contains xs z → Contains ys z) → ((z : List ℕ) → Contains ys z → Contains xs z) → xs ≡ ys
same_list [] [] up other there back = refl
same_list [] (y ∷ ys) up other there back = absurd (contains_none y (back y (contains_here y ys)))
same_list (x ∷ xs) [] up other there back = absurd (contains_none x (there x (contains_here x xs)))
same_list (x ∷ xs) (y ∷ ys) up other there back = ap (λ z. z ∷ xs) first ∙ ap (λ l. y ∷ l) (same_list xs ys (sorted_tail x xs up) (sorted_tail y ys other) onward backward)
  where
    above_x : AreAbove x xs
    above_x = sorted_head x xs up

    above_y : AreAbove y ys
    above_y = sorted_head y ys other

    first : x ≡ y
    first = elim (contains_cases y x ys (there x (contains_here x xs))) [
      | inl same ↦ sym same
      | inr later ↦ elim (contains_cases x y xs (back y (contains_here y ys))) [
        | inl same ↦ same
        | inr after ↦ absurd (not_below_itself x (nat_list_cmp_total.trans x y x (above_at x y xs above_x after) (above_at y x ys above_y later)))
      ]
    ]

    onward : (z : List ℕ) → Contains xs z → Contains ys z
    onward z c = elim (contains_cases y z ys (there z (contains_there x z xs c))) [
      | inl same ↦ absurd (not_below_itself x (subst (λ w. row_cmp x w ≡ Less) (sym (first ∙ same)) (above_at x z xs above_x c)))
      | inr later ↦ later
    ]

    backward : (z : List ℕ) → Contains ys z → Contains xs z
    backward z c = elim (contains_cases x z xs (back z (contains_there y z ys c))) [
      | inl same ↦ absurd (not_below_itself y (subst (λ w. row_cmp y w ≡ Less) (sym (sym first ∙ same)) (above_at y z ys above_y c)))
      | inr later ↦ later
    ]

-- There is one list of the rows in order.
pub order_is_one : (asked rows others : List (List ℕ)) → AreInOrder asked rows → AreInOrder asked others → rows ≡ others
order_is_one asked rows others one other =
    same_list rows others one.sorted other.sorted (λ x c. at_all (Contains others) asked x other.all (at_all (Contains asked) rows x one.only c))
    (λ x c. at_all (Contains rows) asked x one.all (at_all (Contains asked) others x other.only c))
