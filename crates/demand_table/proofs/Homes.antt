-- Where a row's chain begins.
use Rattle.std.proofs.Common.{◌≡◌, ℕ, zero, suc, ◌/◌, ◌≤◌, List, [], ◌∷◌, length, drop, sym, refl, ap, ◌∙◌, arith}
use Rattle.table_rule.specs.Layout.{mixed, home}

drop_all : (l : List ℕ) (i : ℕ) → length l ≤ i → drop i l ≡ []
drop_all [] zero h = refl
drop_all [] (suc i) h = refl
drop_all (x ∷ xs) zero h = absurd (omega (arith, h))
drop_all (x ∷ xs) (suc i) h = drop_all xs i (omega (arith, h))

pub home_is : (row : List ℕ) (m i : ℕ) → length row ≤ i → mixed m (drop i row) ≡ mixed (length row) row → m / 140737488355328 ≡ home row
unfolding home
home_is row m i le e = ap (λ (n : ℕ). n / 140737488355328) (ap (mixed m) (sym (drop_all row i le)) ∙ e)
