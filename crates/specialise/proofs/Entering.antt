-- The entries of a phi, as they are looked at one by one.
use Rattle.std.proofs.Common.{◌≡◌, ◌∙◌, ℕ, suc, ◌+◌, ◌≤◌, Bool, true, false, cond, List, [], ◌∷◌, ◌++◌, length, refl, sym, ap, arith}
use Rattle.std.specs.Prelude.{◌==◌, count_by, if◌then◌else◌}
use Rattle.std.proofs.lemmas.List.Sums.{sum_by-cons}
use Rattle.ir_syntax.specs.declared.constant.Operand.{Operand}
use Rattle.specialise.specs.declared.counts.Counts.{Counts}
use Rattle.specialise.specs.Leaving.{Leaving}
use Rattle.specialise.specs.Residual.{left_entry, left_entries}
use Rattle.specialise.specs.Mirrors.Edges.{counted}
use Rattle.specialise.proofs.Listing.{assoc}

-- Of all entries these are left to look at, this was made of the others, and their blocks are counted.
pub record EntriesTo (w : Leaving) (place : ℕ) (all rest made : List (Operand × ℕ)) (counts : Counts) (n : ℕ) : Type 0 where
  pub before : List ℕ
  pub long : length before ≡ n
  pub counts_so : (k : ℕ) → counted counts k ≡ count_by (λ other. other == k) before
  pub so : made ++ left_entries w place before rest ≡ left_entries w place [] all

pub entries_start : (w : Leaving) (place : ℕ) (all made : List (Operand × ℕ)) (counts : Counts) → made ≡ [] → ((k : ℕ) → counted counts k ≡ 0) → EntriesTo w place all all made counts 0
entries_start w place all made counts none zeros = record { before = []; long = refl; counts_so = zeros; so = ap (λ l. l ++ left_entries w place [] all) none }

count_most : (k : ℕ) (xs : List ℕ) → count_by (λ other. other == k) xs ≤ length xs
count_most k [] = omega arith
count_most k (x ∷ xs) = by (x == k) (sum_by-cons (λ other. cond (other == k) 1 0) x xs) (count_most k xs)
  where
    by : (b : Bool) → count_by (λ other. other == k) (x ∷ xs) ≡ cond b 1 0 + count_by (λ other. other == k) xs → count_by (λ other. other == k) xs ≤ length xs → count_by (λ other. other == k) (x ∷ xs) ≤ suc (length xs)
    by true e h = omega (arith, e, h)
    by false e h = omega (arith, e, h)

pub entries_less : (w : Leaving) (place : ℕ) (all rest made : List (Operand × ℕ)) (counts : Counts) (n k : ℕ) → EntriesTo w place all rest made counts n → counted counts k ≤ n
entries_less w place all rest made counts n k to = omega (arith, to.counts_so k, to.long, count_most k to.before)

pub entries_step : (w : Leaving) (place : ℕ) (all rest more made next : List (Operand × ℕ)) (counts after : Counts) (n : ℕ) (entry : Operand × ℕ) → EntriesTo w place all rest made counts n → rest ≡ entry ∷ more
    → next ≡ made ++ left_entry w place (counted counts entry.1) entry → ((k : ℕ) → counted after k ≡ (if entry.1 == k then suc (counted counts k) else counted counts k))
    → EntriesTo w place all more next after (n + 1)
entries_step w place all rest more made next counts after n entry to is made_so count = record {
  before = entry.1 ∷ to.before;
  long = omega (arith, to.long);
  counts_so = λ k. count k ∙ by (entry.1 == k) (counted counts k) (count_by (λ other. other == k) to.before) (to.counts_so k) (count_by (λ other. other == k) (entry.1 ∷ to.before)) (sum_by-cons (λ other. cond (other == k) 1 0) entry.1 to.before);
  so =
      ap (λ l. l ++ left_entries w place (entry.1 ∷ to.before) more) (made_so ∙ ap (λ j. made ++ left_entry w place j entry) (to.counts_so entry.1))
      ∙ assoc made (left_entry w place (count_by (λ other. other == entry.1) to.before) entry) (left_entries w place (entry.1 ∷ to.before) more)
      ∙ ap (λ l. made ++ left_entries w place to.before l) (sym is)
      ∙ to.so;
}
  where
    by : (b : Bool) (m c : ℕ) → m ≡ c → (whole : ℕ) → whole ≡ cond b 1 0 + c → (if b then suc m else m) ≡ whole
    by true m c e whole h = omega (arith, e, h)
    by false m c e whole h = omega (arith, e, h)
