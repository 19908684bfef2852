-- Laws of the needed rows.
use Rattle.std.proofs.Common.{◌≡◌, ℕ, ◌≤◌, ◌↔◌, Bool, true, false, List, All, Contains, length, get_or, sum_by, bytes_eq, sym, arith, refl}
use Rattle.std.specs.List.{list_any}
use Rattle.std.specs.List.Sorted.{IsStrictlySortedBy}
use Rattle.std.proofs.lemmas.Map.Made.{is_member-Decides}
use Rattle.demand_core.specs.Needed.{IsNeeded}
use Rattle.fixed_point.specs.Needs.{IsLeast, AreNeeded, AreAllNeeded, NeedsMoreThan, WeighsMoreThan}
use Rattle.fixed_point.proofs.Inside.{length-inside, sum_by-inside}
use Rattle.fixed_point.proofs.RowOrder.{same_rows, row_cmp, sorted_same, all_contains}

-- the set of the listed rows
abbrev pub listed : List (List ℕ) → List ℕ → Bool
listed rows row = list_any (bytes_eq row) rows

pub Contains-listed : (rows : List (List ℕ)) (row : List ℕ) → listed rows row ≡ true → Contains rows row
Contains-listed rows row is = (is_member-Decides same_rows rows row).0 is

pub listed-Contains : (rows : List (List ℕ)) (row : List ℕ) → Contains rows row → listed rows row ≡ true
listed-Contains rows row there = (is_member-Decides same_rows rows row).1 there

same_answer : (a b : Bool) → (a ≡ true → b ≡ true) → (b ≡ true → a ≡ true) → a ≡ b
same_answer true b there back = sym (there refl)
same_answer false true there back = back refl
same_answer false false there back = refl

module _ (needs : List ℕ → List (List ℕ)) (roots : List (List ℕ)) where
  -- roots are needed, and so is what a needed row needs
  pub root_needed : All (IsNeeded needs roots) roots
  root_needed k d within s holds closed = holds k d within

  pub need_needed : (row : List ℕ) → IsNeeded needs roots row → All (IsNeeded needs roots) (needs row)
  need_needed row needed k d within s holds closed = closed row (needed s holds closed) k d within

  -- a least set has just the needed rows
  pub least_is_needed : (s : List ℕ → Bool) → IsLeast needs roots s → (row : List ℕ) → (s row ≡ true) ↔ IsNeeded needs roots row
  least_is_needed s is row = ((λ has t holds closed. is.least t holds closed row has), (λ needed. needed s is.holds is.closed))

  -- two least sets are one
  pub least_is_unique : (s t : List ℕ → Bool) → IsLeast needs roots s → IsLeast needs roots t → (row : List ℕ) → s row ≡ t row
  least_is_unique s t one other row =
      same_answer (s row) (t row) (one.least t other.holds other.closed row) (other.least s one.holds one.closed row)

  -- where all needed rows are listed, the set of the listed rows is least
  pub listed_is_least : (rows : List (List ℕ)) → AreAllNeeded needs roots rows → IsLeast needs roots (listed rows)
  listed_is_least rows all = record {
    holds = λ k d within. listed-Contains rows (get_or roots k d) (all.complete (get_or roots k d) (root_needed k d within));
    closed = λ row is k d within.
        listed-Contains rows (get_or (needs row) k d) (all.complete (get_or (needs row) k d) (need_needed row (all_contains (IsNeeded needs roots) rows row all.needed (Contains-listed rows row is)) k d within));
    least = λ t holds closed row is. all_contains (IsNeeded needs roots) rows row all.needed (Contains-listed rows row is) t holds closed;
  }

  -- distinct needed rows are at most as many as all needed rows, and so are their sizes
  some_inside : (rows all : List (List ℕ)) → AreNeeded needs roots rows → AreAllNeeded needs roots all → All (Contains all) rows
  some_inside rows all some whole k d within = whole.complete (get_or rows k d) (some.needed k d within)

  pub length-needed : (rows all : List (List ℕ)) → AreNeeded needs roots rows → AreAllNeeded needs roots all → length rows ≤ length all
  length-needed rows all some whole = length-inside rows all some.distinct (some_inside rows all some whole)

  pub sum_by-needed : (size : List ℕ → ℕ) (rows all : List (List ℕ)) → AreNeeded needs roots rows → AreAllNeeded needs roots all → sum_by size rows ≤ sum_by size all
  sum_by-needed size rows all some whole = sum_by-inside size rows all some.distinct (some_inside rows all some whole)

  as_some : (rows : List (List ℕ)) → AreAllNeeded needs roots rows → AreNeeded needs roots rows
  as_some rows whole = record { distinct = whole.distinct; needed = whole.needed }

  -- where all needed rows are at most so many, there are not more
  pub not_more : (all : List (List ℕ)) (most : ℕ) → AreAllNeeded needs roots all → length all ≤ most → NeedsMoreThan needs roots most → ⊥
  not_more all most whole few more = omega (arith, length-needed more.rows all more.are whole, more.more)

  -- where their sizes add to at most so much, they do not add to more
  pub not_heavier : (size : List ℕ → ℕ) (all : List (List ℕ)) (most : ℕ) → AreAllNeeded needs roots all → sum_by size all ≤ most → WeighsMoreThan needs size roots most → ⊥
  not_heavier size all most whole small more = omega (arith, sum_by-needed size more.rows all (as_some more.rows more.are) whole, more.more)

  -- the needed rows in row order are one list
  pub rows_same : (rows others : List (List ℕ)) → AreAllNeeded needs roots rows → AreAllNeeded needs roots others
      → IsStrictlySortedBy row_cmp rows → IsStrictlySortedBy row_cmp others → rows ≡ others
  rows_same rows others all other up up_other =
      sorted_same rows others up up_other (some_inside rows others (as_some rows all) other) (some_inside others rows (as_some others other) all)
